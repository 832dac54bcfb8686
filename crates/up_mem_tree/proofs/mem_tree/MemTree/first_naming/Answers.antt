use Rattle.std.proofs.Common.{◌≡◌, true, sym, subst, ap, ◌∙◌, arith, None}
use Rattle.std.specs.Option.{option_copied}
use Rattle.up_mem_tree.specs.MemTrees.{TreeLog}
use Rattle.up_mem_tree.specs.Namings.{IsFirstNaming}
use Rattle.up_mem_tree.specs.Others.{is_foreign}
use Rattle.up_mem_tree.proofs.Othered.{first_nowhere, first_told}
use Rattle.up_mem_tree.proofs.mem_tree.MemTree.first_naming.Goals as goal

pub returns-in_default : goal.returns-in_default
returns-in_default c = λ foreign.
    let kept = c.self.inside.kept in
    let group = c.args.group.now in
    subst (λ (v : TreeLog). IsFirstNaming v.owner v.log group c.args.path.now c.args.above None) c.self.view_is
    (first_nowhere kept.owner c.self.inside.others kept.log.items c.self.invariant.others group c.args.path.now c.args.above (sym c.kept_of.ensures ∙ ap option_copied c.in_default.is)
    (subst (λ (v : TreeLog). is_foreign v.owner group ≡ true) (sym c.self.view_is) foreign))

pub returns : goal.returns
returns c = λ foreign.
    let kept = c.self.inside.kept in
    let group = c.args.group.now in
    subst (λ (v : TreeLog). IsFirstNaming v.owner v.log group c.args.path.now c.args.above c.earlier.result) c.self.view_is
    (first_told kept.owner c.self.inside.others kept.log.items c.self.invariant.others group c.args.path.now c.args.above c.earlier.result c.in-Some.named.now c.after-gone.result.now
    (sym c.kept_of.ensures ∙ ap option_copied c.in-Some.is) (omega (arith, c.if-named-above.false)) c.after-gone.ensures
    (λ p there n changed less is under met. c.earlier.ensures.one n (c.first_now-now.ensures p there n changed less is under met))
    (λ text there n changed less is under met. c.earlier.ensures.other n (c.first_met.ensures text there n changed less is under met))
    (subst (λ (v : TreeLog). is_foreign v.owner group ≡ true) (sym c.self.view_is) foreign))
