-- What a source gives, and how the sources of this crate are seen. This project's own.
use Rattle.std.specs.Prelude.{◌≡◌, ℕ, true, false, ◌+◌, List, [], ◌∷◌, length, drop, min, max, Result, MatchResult}
use Rattle.std.specs.Io.KnownBytes.{Consumes}
use Rattle.std.specs.declared.option.Option.{Option}
use Rattle.up_lists.specs.Counts.{count_after}
use Rattle.up_lists.specs.Calls.{CallPlan, after_call}

-- the count of bytes given grew by what a read gave, and stayed where the read failed
abbrev pub CountsGiven : {E : Type 0} → ℕ → ℕ → Result ℕ E → Type 0
CountsGiven old new result = MatchResult result (λ n. new ≡ count_after old n) (λ _. new ≡ old)

-- a source lost bytes from its front and no others, where it tells them
pub record LosesFront (old new : Option (List ℕ)) : Type 0 where
  pub front : List ℕ
  pub lost : Consumes old new front

-- a reader of std, with the bytes that it gave and its errors counted
pub record CountedReader (R : Type 0) : Type 0 where
  pub reader : R
  pub given : ℕ
  pub faults : ℕ

-- a source in memory: the bytes left, at most how much each next read gives, how many bytes it gave, and which of
-- its calls fail
pub record MemInput : Type 0 where
  pub left : List ℕ
  pub pieces : List ℕ
  pub given : ℕ
  pub plan : CallPlan

-- how many of room bytes the next piece lets through: at least one, and all once the pieces are used up
abbrev pub piece_of : List ℕ → ℕ → ℕ
piece_of [] room = room
piece_of (piece ∷ pieces) room = min (max 1 piece) room

-- how much a read into room bytes gives
abbrev pub read_size : MemInput → ℕ → ℕ
read_size input room = min (piece_of input.pieces room) (length input.left)

-- after a read that failed
abbrev pub after_failed_read : MemInput → MemInput
after_failed_read input = record input { plan = after_call input.plan true }

-- after a read that gave n bytes
abbrev pub after_read : MemInput → ℕ → MemInput
after_read input n = record input {
  left = drop n input.left;
  pieces = drop 1 input.pieces;
  given = input.given + n;
  plan = after_call input.plan false;
}
