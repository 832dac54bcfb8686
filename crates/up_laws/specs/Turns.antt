-- A turn of a user on a tree, and how it goes. This project's own.
use Rattle.std.specs.Prelude.{◌≡◌, ℕ, Bool, true, false, not, ◌||◌, List, map, Ok, Err}
use Rattle.std.specs.List.{list_any}
use Rattle.std.specs.Map.{lookup}
use Rattle.up_names.specs.Texts.{UserName}
use Rattle.up_dir.specs.Crashes.{Survives}
use Rattle.up_disk.specs.declared.disk.Disk.{Ghosts}
use Rattle.up_ends.specs.Growing.{OnlyGrows}
use Rattle.up_entry.specs.declared.entries.Location.{Location}
use Rattle.up_entry.specs.declared.records.Rec.{Rec}
use Rattle.up_lists.specs.Counts.{Rose}
use Rattle.up_policy.specs.Loadings.{Loading}
use Rattle.up_wire.specs.declared.requests.Request.{Request}
use Rattle.up_wire.specs.declared.replies.Reply.{Reply}
use Rattle.up_wire.specs.declared.replies.Reply.TheVariants as reply
use Rattle.up_list.specs.Asking.{asked_of}
use Rattle.up_log_tree.specs.Logs.{Log}
use Rattle.up_tree.specs.States.{State, entries_of, fixed_of, log_of}
use Rattle.up_answers.specs.Answers.{added, answer}
use Rattle.up_answers.specs.Fetching.{Fetched, is_failed, location_eq}
use Rattle.up_answers.specs.Laws.{IsWhole, Turn}
use Rattle.up_answers.specs.Routes.{locations_asked}
use Rattle.up_commit.specs.Steps.{Steps}
use Rattle.up_laws.specs.declared.turns.Turn as given

-- a user's request at a moment, with what was loaded and fetched for it
abbrev pub turn_by : UserName → Request → Loading → Fetched → ℕ → Turn
turn_by user request loaded fetched now = record { user = user; request = request; loaded = loaded; fetched = fetched; now = now }

-- a turn that was handed in
abbrev pub turn_of : given.Turn → Turn
turn_of turn = turn_by turn.user turn.request turn.loaded turn.fetched turn.now

-- the turns that were handed in
abbrev pub turns_of : List given.Turn → List Turn
turns_of turns = map turn_of turns

-- what is answered in a turn over a log
abbrev pub answer_in : Log → Turn → Reply
answer_in log turn = answer log turn.loaded turn.fetched turn.user turn.request turn.now

-- the records that a turn adds to a log
abbrev pub added_in : Log → Turn → List Rec
added_in log turn = added log turn.loaded turn.fetched turn.user turn.request turn.now

-- the fetch of one of these blocks failed
abbrev pub any_failed : Fetched → List Location → Bool
any_failed fetched locations = list_any (λ location. is_failed (lookup (location_eq location) fetched)) locations

-- the fetch of a block failed of the control file that the turn puts
unfoldable pub fetch_failed : Turn → Bool
fetch_failed turn = elim (asked_of turn.user turn.request) [
  | Ok asked ↦ any_failed turn.fetched (locations_asked asked)
  | Err fault ↦ false
]

-- a reply tells of want of memory or of the tree's disk; an Io does not where the fetch of a block failed
abbrev pub is_hindered : Bool → Reply → Bool
is_hindered failed reply.OutOfMemory = true
is_hindered failed reply.Io = not failed
is_hindered failed other = false

-- a turn with this reply stops a run
abbrev pub stops : Turn → Reply → Bool
stops turn replied = is_hindered (fetch_failed turn) replied

-- one of two turns with these replies stops a run of both
abbrev pub one_stops : Turn × Turn → Reply × Reply → Bool
one_stops turns replies = stops turns.0 replies.0 || stops turns.1 replies.1

-- A turn was made on a tree, whose log is one, by its step, and a crash left at any moment of it what a step leaves. Unless it stops a
-- run, its reply is the answer over the log; and an Io that stops one comes only where the disk failed.
pub record IsMade {D : Type 0} (disks : Ghosts D) (turn : Turn) (old new : State D) (replied : Reply) : Type 0 where
  pub log : IsWhole (log_of old)
  pub steps : Steps disks (answer_in (log_of old) turn) (added_in (log_of old) turn) old new replied
  pub grows : OnlyGrows entries_of (λ state. disks.faults state.disk) fixed_of old new
  pub crash : Survives disks (added_in (log_of old) turn) old new
  pub answered : stops turn replied ≡ false → replied ≡ answer_in (log_of old) turn
  pub fault : stops turn replied ≡ true → replied ≡ reply.Io → Rose (disks.faults old.disk) (disks.faults new.disk)
