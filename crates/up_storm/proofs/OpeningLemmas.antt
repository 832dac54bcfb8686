-- Empty disks.
use Rattle.std.proofs.Common.{List, [], ◌∷◌, ◌++◌}
use Rattle.std.specs.List.{AllByRecursion}

pub blank_more : {X : Type 0} (P : X → Type 0) (xs : List X) (x : X) → AllByRecursion P xs → P x → AllByRecursion P (xs ++ x ∷ [])
blank_more P [] x all one = (one, tt)
blank_more P (y ∷ ys) x all one = (all.0, blank_more P ys x all.1 one)
