-- What holds of each item of a list that grows.
use Rattle.std.specs.Prelude.{◌≡◌, ℕ, ◌+◌, List, [], ◌∷◌, ◌++◌, length, slice_get, IfSome}
use Rattle.std.proofs.Common.{◌<◌, ◌==◌, ◌≢◌, Bool, true, false, cond, zero, suc, map, take, refl, ap, arith, subst, sym, ◌∙◌, eq-eqb, append-nil}
use Rattle.std.proofs.Math.ListN.{get_or}
use Rattle.std.proofs.lemmas.Bool.{ne_eqb}
use Rattle.std.proofs.lemmas.List.{map-append}
use Rattle.std.proofs.lemmas.List.Elements.{filter_more}
use Rattle.std.specs.List.{filter}
use Rattle.std.specs.List.{AllByRecursion}
use Rattle.up_disk.specs.Planned.{fails_at}
use Rattle.up_disk.specs.declared.blank.DiskFault.{DiskFault}

-- it holds of one more
pub all_more : {X : Type 0} (P : X → Type 0) (xs : List X) (x : X) → AllByRecursion P xs → P x → AllByRecursion P (xs ++ x ∷ [])
all_more P [] x all one = (one, tt)
all_more P (y ∷ ys) x all one = (all.0, all_more P ys x all.1 one)

-- it holds of each item by its place, and of one more at the next place
pub each_more : {X : Type 0} (P : ℕ → X → Type 0) (xs : List X) (x : X) → ((i : ℕ) → IfSome (slice_get xs i) (P i)) → P (length xs) x → (i : ℕ) → IfSome (slice_get (xs ++ x ∷ []) i) (P i)
each_more P [] x all one zero = one
each_more P [] x all one (suc i) = tt
each_more P (y ∷ ys) x all one zero = all 0
each_more P (y ∷ ys) x all one (suc i) = each_more (λ j. P (suc j)) ys x (λ j. all (suc j)) (subst (λ n. P n x) (let e : length (y ∷ ys) ≡ suc (length ys) = omega arith in e) one) i

abbrev is_at : ℕ → DiskFault → Bool
is_at place fault = fault.disk == place

-- the next fault is one of the disk at the place
pub fails_taken : (place i : ℕ) (faults : List DiskFault) (none : DiskFault) → i < length faults → (get_or faults i none).disk ≡ place
    → fails_at place (take (i + 1) faults) ≡ fails_at place (take i faults) ++ (get_or faults i none).call ∷ []
fails_taken place i faults none within is =
    ap (map (λ fault. fault.call)) (filter_more (is_at place) faults i none within ∙ ap (λ b. filter (is_at place) (take i faults) ++ cond b (get_or faults i none ∷ []) []) (eq-eqb _ _ is))
    ∙ map-append (λ fault. fault.call) (filter (is_at place) (take i faults)) (get_or faults i none ∷ [])

-- the next fault is one of another disk
pub fails_passed : (place i : ℕ) (faults : List DiskFault) (none : DiskFault) → i < length faults → ((get_or faults i none).disk ≡ place → ⊥)
    → fails_at place (take (i + 1) faults) ≡ fails_at place (take i faults)
fails_passed place i faults none within other =
    ap (map (λ fault. fault.call)) (filter_more (is_at place) faults i none within ∙ ap (λ b. filter (is_at place) (take i faults) ++ cond b (get_or faults i none ∷ []) []) (ne_eqb ((get_or faults i none).disk) place other)
    ∙ append-nil (filter (is_at place) (take i faults)))
