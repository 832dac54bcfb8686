-- A host that is not shared: all that comes to its logs comes by its one caller. This project's own.
use Rattle.std.specs.Prelude.{◌≡◌, ◌≢◌, ◌≤◌, ◌<◌, ◌+◌, ◌-◌, ◌^◌, ℕ, zero, suc, nat_le, if◌then◌else◌, List, [], ◌∷◌, ◌++◌, length}
use Rattle.std.specs.Prelude.{Option, Some, None, Err}
use Rattle.std.specs.Prelude as std
use Rattle.std.specs.List.{AllByRecursion, find, sum_by}
use Rattle.std.specs.Option.{option_map}
use Rattle.std.specs.Str.{bytes_eq}
use Rattle.up_blocks.specs.declared.record.BlockRecord.{BlockRecord}
use Rattle.up_disk.specs.declared.disk.Disk.{Ghosts}
use Rattle.up_answers.specs.Needs.{needs}
use Rattle.up_calls.specs.Rounds.{InRounds}
use Rattle.up_calls.specs.Routes.{LogName, Question, log_asked, refusal}
use Rattle.up_calls.specs.Shown.{FailsAsShown, failures}
use Rattle.up_calls.specs.Views.{Seen, SeenKeys, SeenStore, SeenTree, Views, log_seen}
use Rattle.up_calls.specs.declared.event.Event.{Event}
use Rattle.up_host.specs.declared.held.Held.{Held}
use Rattle.up_ends.specs.Growing.{OnlyGrows}
use Rattle.up_journal.specs.Logs.{LogState}
use Rattle.up_journal.specs.declared.fault.AppendWhy.{AppendWhy}
use Rattle.up_journal.specs.declared.fault.AppendWhy.TheVariants as append
use Rattle.up_lists.specs.Counts.{StaysUnless}
use Rattle.up_keys.specs.Keys.{PutsRecord, limits_of, log_of}
use Rattle.up_names.specs.Texts.{UserName}
use Rattle.up_tree.specs.States.{State, fixed_of}
use Rattle.up_wire.specs.declared.keys.KeyRecord.{KeyRecord}
use Rattle.up_wire.specs.declared.replies.Reply.{Reply}
use Rattle.up_wire.specs.declared.replies.Reply.TheVariants as reply

-- a host: its name, its operator, its trees, its store and its keys
pub record HostState (D : Type 0) : Type 0 where
  pub name : List ℕ
  pub operator : UserName
  pub trees : List (Held (State D))
  pub store : Held (LogState D BlockRecord)
  pub keys : Held (LogState D KeyRecord)

-- ---- what the one caller of it has seen: all of each log; and the records since the opening are its own

-- the positions above the base, up to n
abbrev pub positions : ℕ → ℕ → List ℕ
positions base zero = []
positions base (suc n) = if nat_le base n then positions base n ++ suc n ∷ [] else positions base n

-- what the one caller of a host has of a log: all its records are seen, and those above the base are its own
abbrev pub view_of : {E F : Type 0} → List E → ℕ → ℕ → F → Seen E F
view_of log base failed fixed = record { seen = log; own = positions base (length log); failed = failed; fixed = fixed }

-- what the one caller has of a tree's log
abbrev pub tree_view : {D : Type 0} → Ghosts D → Held (State D) → SeenTree
tree_view disks held = view_of held.state.log held.base (disks.faults held.state.disk) (fixed_of held.state)

-- what the one caller has of the store's log
abbrev pub store_view : {D : Type 0} → Ghosts D → Held (LogState D BlockRecord) → SeenStore
store_view disks held = view_of held.state.log held.base (disks.faults held.state.disk) held.state.limits

-- what the one caller has of the log of the keys
abbrev pub keys_view : {D : Type 0} → Ghosts D → Held (LogState D KeyRecord) → SeenKeys
keys_view disks held = view_of held.state.log held.base (disks.faults held.state.disk) held.state.limits

-- whether a tree is an owner's
abbrev pub is_of : {D : Type 0} → UserName → Held (State D) → std.Bool
is_of owner held = bytes_eq held.state.owner owner

-- the tree of an owner
abbrev pub tree_for : {D : Type 0} → List (Held (State D)) → UserName → Option (Held (State D))
tree_for trees owner = find (is_of owner) trees

-- what the one caller has of all logs of a host
abbrev pub views : {D : Type 0} → Ghosts D → HostState D → Views
views disks host = record {
  tree = λ owner. option_map (tree_view disks) (tree_for host.trees owner);
  store = store_view disks host.store;
  keys = keys_view disks host.keys;
}

-- ---- what its caller learns besides

-- nothing came to a log but own records
abbrev pub AddsOwn : {E F : Type 0} → Seen E F → Seen E F → Type 0
AddsOwn v w = length w.seen + length v.own ≡ length v.seen + length w.own

-- the length of a log
abbrev pub ends_at : Option LogName → Views → Option ℕ
ends_at None a = None
ends_at (Some (LogName.OfTree owner)) a = option_map (λ (v : SeenTree). length v.seen) (a.tree owner)
ends_at (Some LogName.OfStore) a = Some (length a.store.seen)
ends_at (Some LogName.OfKeys) a = Some (length a.keys.seen)

-- Nobody else writes: the answer is at the end of its log, nothing but own records comes to a log, and no other log's disk is touched
-- but the store's, which a fetch may read. What is loaded is loaded in rounds, each of all the groups that are needed with what was
-- loaded by then.
pub record IsAlone (a b : Views) (q : Question) (e : Event) : Type 0 where
  pub at_end : refusal a q ≡ None → e.reply ≢ reply.OutOfMemory → ends_at (log_asked q) a ≡ Some e.position
  pub trees : (owner : UserName) → log_asked q ≢ Some (LogName.OfTree owner) → b.tree owner ≡ a.tree owner
  pub keys : log_asked q ≢ Some LogName.OfKeys → b.keys ≡ a.keys
  pub tree_grown : (owner : UserName) (v w : SeenTree) → a.tree owner ≡ Some v → b.tree owner ≡ Some w → AddsOwn v w
  pub store_grown : AddsOwn a.store b.store
  pub keys_grown : AddsOwn a.keys b.keys
  pub rounds : (owner : UserName) (v : SeenTree) → refusal a q ≡ None
      → log_asked q ≡ Some (LogName.OfTree owner) → a.tree owner ≡ Some v → e.reply ≢ reply.OutOfMemory
      → InRounds (λ so_far. needs (log_seen v) so_far q.user q.request) [] e.loaded

-- what a host keeps: no base is past the end of its log, and there is room for the disk of each log
abbrev pub IsBase : {D : Type 0} → Held (State D) → Type 0
IsBase held = held.base ≤ length held.state.log

-- what a host keeps: no base is past the end of its log, and there is room for the disk of each log
pub record IsHost {D : Type 0} (trees : List (Held (State D))) (store : Held (LogState D BlockRecord))
    (keys : Held (LogState D KeyRecord)) (spare : ℕ) : Type 0 where
  pub trees_base : AllByRecursion IsBase trees
  pub store_base : store.base ≤ length store.state.log
  pub keys_base : keys.base ≤ length keys.state.log
  pub room : length trees + 2 ≤ spare

-- how often the disks of a host failed, together
abbrev pub disk_faults : {D : Type 0} → Ghosts D → HostState D → ℕ
disk_faults disks host =
    sum_by (λ (held : Held (State _)). disks.faults held.state.disk) host.trees +
    (disks.faults host.store.state.disk + disks.faults host.keys.state.disk)

-- 1 for the reply Io, and 0 for every other
abbrev pub io_of : Reply → ℕ
io_of reply.Io = 1
io_of other = 0

-- The counts of the disks and of the loader never fall, and rose together by at least one where the reply is Io, unless they stand at
-- their end.
pub record Counts (disks_before disks_after loader_before loader_after : ℕ) (e : Event) : Type 0 where
  pub disks : disks_before ≤ disks_after
  pub loader : loader_before ≤ loader_after
  pub io : disks_after + loader_after < 2 ^ 64 - 1 → disks_before + loader_before + io_of e.reply ≤ disks_after + loader_after

-- The count of each log's disk is as before, unless the event shows that this disk failed: so none that failed was passed over and
-- asked again.
abbrev pub RisesAsShown : Views → Views → Question → Event → Type 0
RisesAsShown a b q e = FailsAsShown (λ log. failures b log ≡ failures a log) q e

-- A record was put to the keys, and nothing else of the host changed; their disk's count is as before, but for a fault.
pub record Enrols {D : Type 0} (disks : Ghosts D) (card : KeyRecord)
    (host after : HostState D) (result : std.Result ℕ AppendWhy) : Type 0 where
  pub state : LogState D KeyRecord
  pub whole : after ≡ record host { keys = record { state = state; base = host.keys.base } }
  pub puts : PutsRecord disks card host.keys.state state result
  pub grows : OnlyGrows log_of (λ (k : LogState D KeyRecord). disks.faults k.disk) limits_of host.keys.state state
  pub quiet : StaysUnless (disks.faults host.keys.state.disk) (disks.faults state.disk) (result ≡ Err append.Fault)
