use Rattle.std.proofs.Common.{◌≡◌, false, bytes_eq}
use Rattle.std.specs.List.{AllByRecursion, IsDistinct}
use Rattle.up_policy.specs.Trees.{owns_snapshots}
use Rattle.up_cases.proofs.host_cases.opening.owners_of.Given as goal

abbrev pub invariant-loop-name : goal.invariant-loop-name
invariant-loop-name l = record {
  distinct : IsDistinct bytes_eq l.owners;
  plain : AllByRecursion (λ owner. owns_snapshots owner ≡ false) l.owners;
}
