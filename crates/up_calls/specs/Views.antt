-- What a caller has of the logs of a host. This project's own.
use Rattle.std.specs.Prelude.{◌≡◌, ◌≤◌, ℕ, List, take, Option, Some, None}
use Rattle.std.specs.Option.{option_map}
use Rattle.up_blocks.specs.declared.record.BlockRecord.{BlockRecord}
use Rattle.up_entry.specs.declared.records.Rec.{Rec}
use Rattle.up_journal.specs.declared.limits.Limits.{Limits}
use Rattle.up_lists.specs.Begins.{Begins}
use Rattle.up_names.specs.Texts.{UserName}
use Rattle.up_log_tree.specs.Logs.{Log}
use Rattle.up_wire.specs.declared.keys.KeyRecord.{KeyRecord}

-- Of one log: the records that the caller has seen, the positions of those that it added, how often the log's disk failed it, and
-- the part that never changes.
pub record Seen (E F : Type 0) : Type 0 where
  pub seen : List E
  pub own : List ℕ
  pub failed : ℕ
  pub fixed : F

-- what a caller has of a tree's log, whose owner and limits never change
abbrev pub SeenTree : Type 0
SeenTree = Seen Rec (UserName × Limits)

-- what a caller has of the store's log, whose limits never change
abbrev pub SeenStore : Type 0
SeenStore = Seen BlockRecord Limits

-- what a caller has of the log of the keys, whose limits never change
abbrev pub SeenKeys : Type 0
SeenKeys = Seen KeyRecord Limits

-- what a caller has of all logs of a host: of each owner's tree, if the host has it, of the store, and of the keys
pub record Views : Type 0 where
  pub tree : UserName → Option SeenTree
  pub store : SeenStore
  pub keys : SeenKeys

-- the log of a tree after its first n records
abbrev pub log_after : SeenTree → ℕ → Log
log_after view n = record { owner = view.fixed.0; limits = view.fixed.1; records = take n view.seen }

-- the log of a tree, as far as it was seen
abbrev pub log_seen : SeenTree → Log
log_seen view = record { owner = view.fixed.0; limits = view.fixed.1; records = view.seen }

-- what was seen of a log stays seen, and its disk's failures stay counted
pub record LaterSeen {E F : Type 0} (v w : Seen E F) : Type 0 where
  pub begins : Begins v.seen w.seen
  pub failed : v.failed ≤ w.failed
  pub fixed : w.fixed ≡ v.fixed

-- a host neither gains nor loses a tree
abbrev pub LaterTree : Option SeenTree → Option SeenTree → Type 0
LaterTree None None = Unit {0}
LaterTree (Some v) (Some w) = LaterSeen v w
LaterTree None (Some w) = ⊥
LaterTree (Some v) None = ⊥

-- what was seen of any log stays seen, and a host neither gains nor loses a tree
pub record Later (a b : Views) : Type 0 where
  pub trees : (owner : UserName) → LaterTree (a.tree owner) (b.tree owner)
  pub store : LaterSeen a.store b.store
  pub keys : LaterSeen a.keys b.keys

-- the positions of the records that were added to a tree
abbrev pub own_of : Option SeenTree → Option (List ℕ)
own_of view = option_map (λ (v : SeenTree). v.own) view
