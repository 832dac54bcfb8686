use Rattle.std.proofs.Common.{subst}
use Rattle.std.specs.Map.{keys_of}
use Rattle.up_log_tree.specs.Snapshots.{snapshots_of}
use Rattle.up_snap.specs.Listed.{IsNaming}
use Rattle.up_snap.proofs.listing.made_items.Goals as goal

pub made_under-requires : goal.made_under-requires
made_under-requires c =
    let tree = c.args.tree.now in
    subst (λ snap_user. IsNaming snap_user tree.log c.args.dir.now (keys_of (snapshots_of tree.log)) c.in_ok-names.names.entries) c.requires.snap_user c.in_ok-names.ensures
