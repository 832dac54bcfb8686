-- The bytes of a connection that were read and not yet handled. This project's own.
use Rattle.std.specs.Prelude.{◌≡◌, ◌≤◌, ℕ, List, ◌++◌, length, Result, Ok, Err}
use Rattle.std.specs.Io.KnownBytes.{Consumes, IsAtEnd, Keeps}
use Rattle.up_ends.specs.declared.ends.Source.{Ghosts}
use Rattle.up_lists.specs.Counts.{Rose, HasCause, count_after}
use Rattle.up_talk.specs.declared.fault.ReadWhy.{ReadWhy}
use Rattle.up_talk.specs.declared.fault.ReadWhy.TheVariants as read

-- how many bytes were handled, and those behind them
pub record Held : Type 0 where
  pub handled : ℕ
  pub bytes : List ℕ

-- how many bytes one read gives at most
abbrev pub piece_size : ℕ
piece_size = 65536

-- So many bytes were read, and stand behind the others; none only at the end.
pub record ReadMore {S : Type 0} (sources : Ghosts S) (old : Held) (from : S) (count : ℕ) (new : Held) (then : S) : Type 0 where
  pub piece : List ℕ
  pub long : length piece ≡ count
  pub most : count ≤ piece_size
  pub handled : new.handled ≡ old.handled
  pub bytes : new.bytes ≡ old.bytes ++ piece
  pub taken : Consumes (sources.left from) (sources.left then) piece
  pub end : count ≡ 0 → IsAtEnd (sources.left then)
  pub given : sources.given then ≡ count_after (sources.given from) count
  pub quiet : sources.faults then ≡ sources.faults from

-- the read failed
pub record ReadFailed {S : Type 0} (sources : Ghosts S) (old : Held) (from : S) (new : Held) (then : S) : Type 0 where
  pub same : new ≡ old
  pub kept : Keeps (sources.left from) (sources.left then)
  pub given : sources.given then ≡ sources.given from
  pub cause : HasCause (sources.faults from) (sources.faults then) ⊥
  pub rose : Rose (sources.faults from) (sources.faults then)

-- what came of a read: more bytes, or it failed, or there was no memory
abbrev pub ReadCame : {S : Type 0} → Ghosts S → Held → S → Result ℕ ReadWhy → Held → S → Type 0
ReadCame sources old from (Ok count) new then = ReadMore sources old from count new then
ReadCame sources old from (Err read.Failed) new then = ReadFailed sources old from new then
ReadCame sources old from (Err read.OutOfMemory) new then = (new ≡ old) × (then ≡ from)
