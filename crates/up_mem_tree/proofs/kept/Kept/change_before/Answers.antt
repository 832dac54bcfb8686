use Rattle.std.proofs.Common.{◌-◌, ap, ◌∙◌}
use Rattle.std.specs.Prelude.{slice_get}
use Rattle.up_mem_tree.proofs.Befores.{none_at, none_at_zero, value_at}
use Rattle.up_mem_tree.proofs.kept.Kept.change_before.Goals as goal

pub returns-then-n-eq0 : goal.returns-then-n-eq0
returns-then-n-eq0 c = none_at_zero c.args.self.now.log.items c.args.n c.if-n-eq0.true

pub returns-in-Some : goal.returns-in-Some
returns-in-Some c =
    let self = c.args.self.now in
    c.if_any.ensures ∙ value_at self.log.items self.before.items c.requires.before c.args.n c.if-n-eq0.false c.in-Some.position.now
    (c.in-Some.ensures ∙ ap (λ l. slice_get l (c.args.n - 1)) c.as_slice.ensures.value)

pub returns-in-None : goal.returns-in-None
returns-in-None c =
    let self = c.args.self.now in
    none_at self.log.items self.before.items c.requires.before c.args.n c.if-n-eq0.false
    (c.in-None.ensures ∙ ap (λ l. slice_get l (c.args.n - 1)) c.as_slice.ensures.value)
