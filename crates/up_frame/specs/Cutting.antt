-- What the functions that cut frames off the front of bytes answer.
use Rattle.std.specs.Prelude.{◌≡◌, ℕ, ◌+◌, ◌<◌, ◌≤◌, Bool, List, ◌++◌, length, drop}
use Rattle.std.specs.Bool.{MatchBool}
use Rattle.std.specs.List.{AllByRecursion}
use Rattle.up_frame.specs.declared.cutting.Front.{Front}
use Rattle.up_frame.specs.declared.cutting.Front.TheVariants.{Whole, Partial, Bad}
use Rattle.up_frame.specs.Stream.{IsPayload, told, IsPartial, IsBad, frames}

-- a whole frame with a payload of n bytes is at the front
pub record IsWhole (limit : ℕ) (bytes : List ℕ) (n : ℕ) : Type 0 where
  pub told : told bytes ≡ n
  pub some : 0 < n
  pub most : n ≤ limit
  pub there : 4 + n ≤ length bytes

-- what is at the front of the bytes
abbrev pub IsFront : ℕ → List ℕ → Front → Type 0
IsFront limit bytes (Whole n) = IsWhole limit bytes n
IsFront limit bytes Partial = IsPartial limit bytes
IsFront limit bytes Bad = IsBad limit bytes

-- the first n bytes are the whole frames, and after them is a bad one, or less than a whole one
pub record Cuts (limit : ℕ) (bytes : List ℕ) (payloads : List (List ℕ)) (n : ℕ) : Type 0 where
  pub whole : bytes ≡ frames payloads ++ drop n bytes
  pub each : AllByRecursion (IsPayload limit) payloads
  pub before : n ≡ length (frames payloads)
  pub within : n ≤ length bytes

-- what is after them
abbrev pub IsBehind : ℕ → Bool → List ℕ → Type 0
IsBehind limit is_bad bytes = MatchBool is_bad (IsBad limit bytes) (IsPartial limit bytes)
