use Rattle.up_snap.proofs.PlacedLemmas.{shown_rooted}
use Rattle.up_snap.proofs.laws.snapshot_trees_are_rooted.Goals as goal

pub returns : goal.returns
returns c owner records is = shown_rooted owner records is
