-- How events are gathered.
use Rattle.std.specs.Prelude.{◌≡◌, ◌≢◌, ◌≤◌, ℕ, Bool, true, false, List, ◌++◌, length, Option, IsSome}
use Rattle.std.specs.Option.{option_to_list}
use Rattle.up_entry.specs.declared.records.Rec.{Rec}
use Rattle.up_wire.specs.declared.replies.WatchEvent.{WatchEvent}

-- a position of a log, from 1
pub record IsPosition (log : List Rec) (n : ℕ) : Type 0 where
  pub first : n ≢ 0
  pub within : n ≤ length log

-- an event is added, where there is one; or 256 are there, and it is one more
abbrev pub Takes : List WatchEvent → List WatchEvent → Option WatchEvent → Bool → Type 0
Takes old now event true = (now ≡ old ++ option_to_list event) × (length now ≤ 256)
Takes old now event false = (now ≡ old) × (length old ≡ 256) × IsSome event
