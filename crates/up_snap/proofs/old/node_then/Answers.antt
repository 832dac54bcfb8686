use Rattle.std.proofs.Common.{sym, ap, ◌∙◌}
use Rattle.up_mem_tree.proofs.Lasts.{left, left_is}
use Rattle.up_mem_tree.specs.Nodes.{put_by}
use Rattle.up_snap.proofs.old.node_then.Goals as goal

pub returns-in-Some : goal.returns-in-Some
returns-in-Some c =
    let tree = c.args.tree.now in
    c.put_by.ensures ∙ ap put_by c.rec_at.ensures
    ∙ ap (left tree.log c.args.path.now) (sym c.in-Some.is ∙ c.in_ok-at.ensures)
    ∙ sym (left_is tree.log c.args.path.now c.args.n)

pub returns-in-None : goal.returns-in-None
returns-in-None c =
    let tree = c.args.tree.now in
    ap (left tree.log c.args.path.now) (sym c.in-None.is ∙ c.in_ok-at.ensures)
    ∙ sym (left_is tree.log c.args.path.now c.args.n)
