use Rattle.std.proofs.Common.{◌≡◌, false, sym, subst, bytes_eq}
use Rattle.std.specs.List.{AllByRecursion, IsDistinct}
use Rattle.up_cases.proofs.OwnerLemmas.{none_differ}
use Rattle.up_policy.specs.Trees.{owns_snapshots}
use Rattle.up_cases.proofs.host_cases.opening.owners_of.Goals as goal

pub returns-then-eq-clause-distinct : goal.returns-then-eq-clause-distinct
returns-then-eq-clause-distinct c = subst (IsDistinct bytes_eq) (sym c.new-owners.ensures) none_differ

pub loop-name-init : goal.loop-name-init
loop-name-init c = record {
  distinct = subst (IsDistinct bytes_eq) (sym c.new-owners.ensures) none_differ;
  plain = subst (AllByRecursion (λ owner. owns_snapshots owner ≡ false)) (sym c.new-owners.ensures) tt;
}
