use Rattle.std.proofs.Common.{length}
use Rattle.up_snap.proofs.ShownLemmas.{told}
use Rattle.up_snap.proofs.laws.first_snapshots_show.Goals as goal

pub returns : goal.returns
returns c owner records path is = told owner records is path (length records)
