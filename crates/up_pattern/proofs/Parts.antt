-- Parts read one after another: what is read so far stands in front of what is left.
use Rattle.std.proofs.Common.{◌≡◌, ◌++◌, List, [], ◌∷◌, Option, Some, None, refl, ap, append_assoc}
use Rattle.std.proofs.lemmas.List.{append-nil}
use Rattle.up_pattern.specs.Elements.{prepended}

-- nothing is left
pub prepended-nil : {X : Type 0} (xs : List X) (more : Option (List X)) → more ≡ Some [] → prepended xs more ≡ Some xs
prepended-nil xs more none = rw none (ap Some (append-nil xs))

-- one more was read
pub prepended-push : {X : Type 0} (xs : List X) (x : X) (more : Option (List X)) → prepended (xs ++ x ∷ []) more ≡ prepended xs (prepended (x ∷ []) more)
prepended-push xs x None = refl
prepended-push xs x (Some ys) = ap Some (append_assoc xs (x ∷ []) ys)

-- what is left is none
pub prepended-none : {X : Type 0} (xs : List X) (more : Option (List X)) → more ≡ None → prepended xs more ≡ None
prepended-none xs more none = rw none refl

pub prepended-append : {X : Type 0} (xs ys : List X) (more : Option (List X)) → prepended (xs ++ ys) more ≡ prepended xs (prepended ys more)
prepended-append xs ys None = refl
prepended-append xs ys (Some zs) = ap Some (append_assoc xs ys zs)
