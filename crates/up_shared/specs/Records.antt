-- A user's key record, looked up among many callers. This project's own.
use Rattle.std.specs.Prelude.{◌≡◌, ◌≤◌, ◌+◌, ℕ, true, length, take, is_some, Option, Result, Ok, Err}
use Rattle.up_cell.specs.Known.{Known, Onward}
use Rattle.up_cell.specs.Turned.{rise}
use Rattle.up_journal.specs.Logs.{LogState}
use Rattle.up_journal.specs.declared.limits.Limits.{Limits}
use Rattle.up_keys.specs.Records.{record_in}
use Rattle.up_names.specs.Texts.{UserName}
use Rattle.up_shared.specs.declared.shared.Seats.{Seats}
use Rattle.up_wire.specs.declared.keys.KeyRecord.{KeyRecord}

-- what was found of what is there; memory may be wanting only where something is there
abbrev pub IsFound : {C E : Type 0} → Result (Option C) E → Option C → Type 0
IsFound (Ok found) there = found ≡ there
IsFound (Err e) there = is_some there ≡ true

-- what one turn of the keys finds, which leaves them as they were
pub record FindsKey {D E : Type 0} (user : UserName) (old new : LogState D KeyRecord) (found : Result (Option KeyRecord) E) : Type 0 where
  pub stays : new ≡ old
  pub is : IsFound found (record_in old.log user)

-- A user's record, or that there is none, by the keys' log at a position not before what the seat had seen, and at most what it has seen.
pub record IsKeyOf {E : Type 0} (v w : Known KeyRecord Limits) (user : UserName) (found : Result (Option KeyRecord) E) : Type 0 where
  pub position : ℕ
  pub from : length v.seen ≤ position
  pub to : position ≤ length w.seen
  pub is : IsFound found (record_in (take position w.seen) user)

-- The keys were looked at in one turn, and nothing came to any log. The failures of the keys' seat stay, unless the count of the keys'
-- disk stood at its end, where a turn counts one.
pub record LooksAtKeys {D : Type 0} (a b : Seats D) : Type 0 where
  pub trees : b.trees ≡ a.trees
  pub store : b.store ≡ a.store
  pub store_limits : b.store_limits ≡ a.store_limits
  pub keys : Onward a.keys b.keys
  pub keys_limits : b.keys_limits ≡ a.keys_limits
  pub own : b.keys.own ≡ a.keys.own
  pub count : ℕ
  pub failed : b.keys.failed ≡ a.keys.failed + rise count count
