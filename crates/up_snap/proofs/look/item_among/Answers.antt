use Rattle.std.proofs.Common.{[], length, map, ap, ◌∙◌}
use Rattle.std.specs.Prelude.{find}
use Rattle.std.proofs.lemmas.Result.{IfOk-weaker}
use Rattle.up_list.specs.Founds.{entry_found}
use Rattle.up_list.specs.Seen.{has_name}
use Rattle.up_list.proofs.ViewLemmas.{named_is}
use Rattle.up_log_tree.specs.Fits.{snapshot_user}
use Rattle.up_answers.specs.SnapshotTrees.{snapshots_to}
use Rattle.up_snap.specs.Looked.{first_named}
use Rattle.up_snap.proofs.LookLemmas.{first_is_named}
use Rattle.up_snap.proofs.PlacedLemmas.{shown_rooted}
use Rattle.up_snap.proofs.look.item_among.Goals as goal

pub returns : goal.returns
returns c =
    let tree = c.args.tree.now in
    let name = c.args.name.now in
    let dir = c.args.dir.now in
    let same =
    ap (first_named c.len.result name) c.as_slice.ensures.value
    ∙ first_is_named c.len.result name c.in_ok-items.items.items
    ∙ ap (λ n. find (has_name n name) (map entry_found c.in_ok-items.items.items)) c.len.ensures
    ∙ ap (find (has_name (length dir.elements) name)) c.in_ok-items.ensures
    ∙ named_is (record { owner = snapshot_user tree.owner; tree = snapshots_to tree.owner tree.log (length tree.log); loaded = []; user = tree.owner }) dir name
    (shown_rooted tree.owner tree.log c.recall.ensures.log) in
    IfOk-weaker c.copy_named.result _ _ (λ found e. e ∙ same) c.copy_named.ensures
