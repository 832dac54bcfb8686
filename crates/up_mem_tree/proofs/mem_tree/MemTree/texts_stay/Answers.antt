use Rattle.std.proofs.Common.{◌≤◌, length, sym, subst, arith}
use Rattle.up_mem_tree.specs.Groups.{StayTexts}
use Rattle.up_mem_tree.specs.MemTrees.{TreeLog}
use Rattle.up_mem_tree.proofs.Quiet.{texts_stay}
use Rattle.up_mem_tree.proofs.mem_tree.MemTree.texts_stay.Goals as goal

pub returns : goal.returns
returns c = λ same.
    let kept = c.self.inside.kept in
    let within : c.args.n ≤ length kept.log.items = subst (λ (v : TreeLog). c.args.n ≤ length v.log) (sym c.self.view_is) c.requires in
    subst (λ (v : TreeLog). StayTexts v.owner v.log c.args.dir.now c.args.m c.args.n) c.self.view_is
    (texts_stay kept.owner kept.log.items c.args.dir.now c.args.m c.args.n c.group_change_at.result (omega (arith, c.if-n-m.false)) within c.group_change_at.ensures (omega (arith, c.if-group_change_at-m.false)) (c.access_stays.ensures same))
