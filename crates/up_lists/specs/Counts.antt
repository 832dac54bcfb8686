-- Counts of faults that never fall and stop at the greatest number of 64 bits. This project's own.
use Rattle.std.specs.Prelude.{◌≡◌, ℕ, ◌+◌, ◌-◌, ◌^◌, ◌<◌, ◌≤◌, min, max}

-- a count after n more, which stops at 2^64 - 1 and stays where it stands there
abbrev pub count_after : ℕ → ℕ → ℕ
count_after count n = max count (min (count + n) (2 ^ 64 - 1))

-- the count rose; of a count that stands at its end this holds of each call
abbrev pub Rose : ℕ → ℕ → Type 0
Rose old new = old < 2 ^ 64 - 1 → old < new

-- A count of faults never falls, one of at most 2^64 - 1 stays so, and it rose where there was a fault.
pub record HasCause (before now : ℕ) (fault : Type 0) : Type 0 where
  pub later : before ≤ now
  pub bounded : before < 2 ^ 64 → now < 2 ^ 64
  pub rose : fault → Rose before now

-- A count of faults is as before where there was no fault: none was passed over, and no call that failed was tried again.
pub record StaysUnless (before now : ℕ) (fault : Type 0) : Type 0 where
  pub stays : (fault → ⊥) → now ≡ before
