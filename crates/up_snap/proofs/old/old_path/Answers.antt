use Rattle.std.proofs.Common.{◌++◌, ◌∷◌, [], ap, sym, ◌∙◌, arith}
use Rattle.std.specs.Option.{option_copied}
use Rattle.up_snap.proofs.OldLemmas.{dropped_all, dropped_next, dropped_none}
use Rattle.up_snap.proofs.old.old_path.Goals as goal

pub loop-i-init : goal.loop-i-init
loop-i-init c =
    c.in_ok-old.ensures ∙ ap (λ o. record { owner = o; elements = [] }) c.in_ok-clone.ensures.cases
    ∙ ap (λ es. record { owner = c.args.owner.now; elements = es }) (dropped_none c.args.path.now.elements)

pub loop-i-preserved : goal.loop-i-preserved
loop-i-preserved c =
    c.in_ok-old-2.ensures
    ∙ ap (λ p. record { owner = p.owner; elements = p.elements ++ c.in-Some.name.now ∷ [] }) c.loop-i.invariant
    ∙ ap (λ es. record { owner = c.args.owner.now; elements = es })
    (dropped_next c.loop-i.i c.args.path.now.elements c.in-Some.name.now (omega (arith, c.loop-i.auto.i)) (sym c.element.ensures ∙ ap option_copied c.in-Some.is))

pub returns : goal.returns
returns c =
    c.loop-i.invariant
    ∙ ap (λ es. record { owner = c.args.owner.now; elements = es })
    (dropped_all c.loop-i.i c.args.path.now.elements (let test = c.loop-i-test.false in let end = c.len-i-end.ensures in omega (arith, test, end)))
