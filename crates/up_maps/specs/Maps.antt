-- A finite map in the order of its keys. This project's own.
use Rattle.std.specs.Prelude.{◌≡◌, ℕ, zero, suc, Bool, false, List, [], ◌∷◌, Option, Some, None, if◌then◌else◌}
use Rattle.std.specs.Ordering.{is_eq, is_lt}
use Rattle.std.specs.declared.cmp.Ordering.{Ordering}
use Rattle.std.specs.declared.cmp.Ordering.TheVariants.{Less}

-- the entries in the order of their keys, and whether the next one takes no memory
pub record MapState (K V : Type 0) : Type 0 where
  pub entries : List (K × V)
  pub ready : Bool

-- The place of a key: the entries before it have lesser keys, and the one at it, if there is one, has none.
abbrev pub IsPlaceOf : {K V : Type 0} → (K → K → Ordering) → K → List (K × V) → ℕ → Type 0
IsPlaceOf cmp key [] zero = Unit {0}
IsPlaceOf cmp key [] (suc i) = ⊥
IsPlaceOf cmp key (entry ∷ entries) zero = is_lt (cmp entry.0 key) ≡ false
IsPlaceOf cmp key (entry ∷ entries) (suc i) = (cmp entry.0 key ≡ Less) × IsPlaceOf cmp key entries i

-- the value of an entry, where its key ties with a key
abbrev pub value_at : {K V : Type 0} → (K → K → Ordering) → K → Option (K × V) → Option V
value_at cmp key None = None
value_at cmp key (Some entry) = if is_eq (cmp key entry.0) then Some entry.1 else None
