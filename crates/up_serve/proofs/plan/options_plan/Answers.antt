-- The host's name and the owners of the trees are those that were found good.
use Rattle.std.proofs.Common.{◌≡◌, true, Some}
use Rattle.up_serve.proofs.DifferentLemmas.{plan_keeps, some_has}
use Rattle.up_serve.specs.Plans.{are_owners}
use Rattle.up_serve.proofs.plan.options_plan.Goals as goal
use Rattle.up_sign.specs.HostNames.{is_host_name}

pub returns-clause-keeps : goal.returns-clause-keeps
returns-clause-keeps c =
    let at_host = c.in-Some-2.is in
    let at_trees = c.in-Some-4.is in
    let named : is_host_name c.in-Some-2.host ≡ true = some_has c.in_ok-host.field-0 c.in-Some-2.host (λ name. is_host_name name ≡ true) (let e : c.in_ok-host.field-0 ≡ Some c.in-Some-2.host = cc in e) c.in_ok-host.ensures.named in
    let owners : are_owners c.in-Some-4.trees ≡ true = some_has c.in_ok-trees.field-0 c.in-Some-4.trees (λ trees. are_owners trees ≡ true) (let e : c.in_ok-trees.field-0 ≡ Some c.in-Some-4.trees = cc in e) c.in_ok-trees.ensures.owners in
    let host_is = c.host.view_is in
    let trees_are = c.trees.view_is in
    plan_keeps (cc) (cc)
