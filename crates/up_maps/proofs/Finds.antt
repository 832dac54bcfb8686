-- What the two sides of a place say of an ordered list.
use Rattle.std.proofs.Common.{◌≡◌, ℕ, Bool, true, false, ◌-◌, ◌<◌, ◌≤◌, List, length, get_or, refl, ◌⊎◌, inl, inr, arith}
use Rattle.std.specs.List.Sorted.{IsPartitionedBy, IsPartitionPoint}
use Rattle.std.proofs.lemmas.Option.{slice_get-get_or}
use Rattle.up_maps.specs.Joined.{IsAt}

bool_cases : (b : Bool) → (b ≡ true) ⊎ (b ≡ false)
bool_cases true = inl refl
bool_cases false = inr refl

not_both : (b : Bool) → b ≡ true → b ≡ false → ⊥
not_both b t f = cc

pub found : {X : Type 0} (test : X → Bool) (xs : List X) (i : ℕ) → i ≤ length xs → (0 < i → IsAt test true xs (i - 1)) → IsAt test false xs i → IsPartitionedBy test xs → IsPartitionPoint (λ x. test x ≡ true) (λ x. test x ≡ false) xs i
found test xs i l before here ordered = (
  (λ k d o b. ordered k (i - 1) d (omega arith) (omega arith) (before (omega arith) (get_or xs (i - 1) d) (slice_get-get_or xs (i - 1) d (omega arith)))),
  (λ k d o b. elim (bool_cases (test (get_or xs k d))) [
    | inl below ↦ absurd (not_both (test (get_or xs i d)) (ordered i k d o b below) (here (get_or xs i d) (slice_get-get_or xs i d (omega arith))))
    | inr above ↦ above
  ]),
)
