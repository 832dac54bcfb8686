use Rattle.std.proofs.Common.{map, ap, ◌∙◌}
use Rattle.std.proofs.lemmas.Result.{IfOk-weaker}
use Rattle.up_list.specs.Founds.{entry_found}
use Rattle.up_log_tree.specs.Fits.{snapshot_user}
use Rattle.up_snap.specs.Shown.{old_path}
use Rattle.up_snap.proofs.KeptLemmas.{kept_done}
use Rattle.up_snap.proofs.UnderLemmas.{below_of}
use Rattle.up_snap.proofs.listing.kept_items.Goals as goal

pub returns : goal.returns
returns c =
    let tree = c.args.tree.now in
    let taken = c.requires.taken in
    IfOk-weaker c.kept_under.result _ _
    (λ found e. kept_done tree.owner tree.log c.recall.ensures.log c.args.dir.now taken.place c.args.shown.time taken.within taken.takes
    (below_of (snapshot_user tree.owner) c.args.shown.time c.args.dir.now c.requires.below)
    c.in_ok-old.old c.args.shown.position (map entry_found found.items)
    (c.in_ok-old.ensures ∙ ap (λ o. old_path o c.args.dir.now) c.owner.ensures) taken.position e)
    c.kept_under.ensures
