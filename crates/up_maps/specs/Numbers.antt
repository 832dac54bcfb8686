-- A map that is kept by the numbers of the records of a log that gave its values. This project's own.
use Rattle.std.specs.Prelude.{◌≡◌, ℕ, List, map, Option, Some, slice_get}
use Rattle.std.specs.Option.{option_and_then}

-- the keys of a map, with what is made of their values
abbrev pub with_values : {K V W : Type 0} → (V → W) → List (K × V) → List (K × W)
with_values value entries = map (λ entry. (entry.0, value entry.1)) entries

-- the value that the record with a number, from 0, gives
abbrev pub given_by : {R V : Type 0} → (R → Option V) → List R → ℕ → Option V
given_by value log number = option_and_then value (slice_get log number)

-- at the same keys stand the numbers of the records that gave the values
pub record AreNumbers {K R V : Type 0} (value : R → Option V) (log : List R)
    (numbers : List (K × ℕ)) (entries : List (K × V)) : Type 0 where
  pub same : with_values (given_by value log) numbers ≡ with_values Some entries
