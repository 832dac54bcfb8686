-- Calls of a host that is not shared, one after the other. This project's own.
use Rattle.std.specs.Prelude.{◌≡◌, ◌≢◌, ◌≤◌, ◌<◌, ◌+◌, ◌-◌, ◌^◌, ℕ, List, [], ◌∷◌, Contains, map, slice_get, Option, Some, None}
use Rattle.up_disk.specs.declared.disk.Disk as disk
use Rattle.up_host.specs.Alone.{Counts, HostState, IsAlone, RisesAsShown, disk_faults, io_of, views}
use Rattle.up_calls.specs.Calls.{Asked}
use Rattle.up_calls.specs.Routes.{LogName, Question, log_asked, refusal}
use Rattle.up_host.specs.Settled.{StaysSettled}
use Rattle.up_calls.specs.Views.{Views, own_of}
use Rattle.up_calls.specs.declared.event.Event.{Event}
use Rattle.up_host.specs.declared.run.Call.{Call}
use Rattle.up_peer.specs.declared.loader.Loader.{Ghosts}
use Rattle.up_wire.specs.declared.replies.Reply.TheVariants as reply

-- one call of a run: what was asked, what came of it, and the host after it
pub record Called (D : Type 0) : Type 0 where
  pub question : Question
  pub event : Event
  pub after : HostState D

-- The host was asked, and the call left this host and this loader.
pub record IsCalled {D L : Type 0} (disks : disk.Ghosts D) (loader : Ghosts L)
    (host : HostState D) (old : L) (c : Called D) (new : L) : Type 0 where
  pub asked : Asked loader host.operator (views disks host) old c.question c.event (views disks c.after) new
  pub alone : IsAlone (views disks host) (views disks c.after) c.question c.event
  pub counts : Counts (disk_faults disks host) (disk_faults disks c.after) (loader.faults old) (loader.faults new) c.event
  pub quiet : RisesAsShown (views disks host) (views disks c.after) c.question c.event
  pub stays : StaysSettled disks host c.after
  pub operator : c.after.operator ≡ host.operator

-- each call starts with what the last one left
abbrev pub IsRun : {D L : Type 0} → disk.Ghosts D → Ghosts L → HostState D → L → List (Called D) → HostState D → L → Type 0
IsRun disks loader host old [] after new = (after ≡ host) × (new ≡ old)
IsRun {D} {L} disks loader host old (c ∷ calls) after new =
    (next : L) × IsCalled disks loader host old c next × IsRun disks loader c.after next calls after new

-- the event is an answer over this log
pub record LooksAt (a : Views) (log : LogName) (q : Question) (e : Event) : Type 0 where
  pub seen : refusal a q ≡ None
  pub log_is : log_asked q ≡ Some log
  pub enough : e.reply ≢ reply.OutOfMemory

-- the positions of the records that the caller added to a log
abbrev pub own_at : LogName → Views → Option (List ℕ)
own_at (LogName.OfTree owner) a = own_of (a.tree owner)
own_at LogName.OfStore a = Some a.store.own
own_at LogName.OfKeys a = Some a.keys.own

-- Of two answers over one log, the later one's position is not before the first one's, and not before a record that the caller had
-- added by then.
pub record AreOrdered (own : Option (List ℕ)) (first next : Event) : Type 0 where
  pub never_falls : first.position ≤ next.position
  pub behind_own : (n : ℕ) (positions : List ℕ) → own ≡ Some positions → Contains positions n → n ≤ next.position

-- the answers of a run that starts with these views are ordered, log by log
abbrev pub IsOrdered : {D : Type 0} → disk.Ghosts D → Views → List (Called D) → Type 0
IsOrdered {D} disks a calls =
    (i j : ℕ) (first next : Called D) (log : LogName) → i < j → slice_get calls i ≡ Some first → slice_get calls j ≡ Some next
    → LooksAt a log first.question first.event → LooksAt a log next.question next.event
    → AreOrdered (own_at log (views disks first.after)) first.event next.event

-- how many of these replies are Io
abbrev pub number_of_io : List Event → ℕ
number_of_io [] = 0
number_of_io (event ∷ events) = io_of event.reply + number_of_io events

-- The replies Io are at most as many as the counts of the disks and of the loader rose together, unless these stand at their end.
pub record HasFewIo (before after : ℕ) (events : List Event) : Type 0 where
  pub later : before ≤ after
  pub io : after < 2 ^ 64 - 1 → before + number_of_io events ≤ after

-- the count of all that may fail
abbrev pub all_faults : {D L : Type 0} → disk.Ghosts D → Ghosts L → HostState D → L → ℕ
all_faults disks loader host state = disk_faults disks host + loader.faults state

-- what a call asks
abbrev pub question_of : Call → Question
question_of call = record { user = call.session.user; request = call.request }

-- These calls were made, one after the other, with these events, and in order.
pub record IsHistory {D L : Type 0} (disks : disk.Ghosts D) (loader : Ghosts L) (host : HostState D)
    (old : L) (calls : List Call) (after : HostState D) (new : L) (events : List Event) : Type 0 where
  pub called : List (Called D)
  pub asked : map (λ (c : Called D). c.question) called ≡ map question_of calls
  pub made : map (λ (c : Called D). c.event) called ≡ events
  pub moments : map (λ (c : Called D). c.event.moment) called ≡ map (λ (call : Call). call.moment) calls
  pub run : IsRun disks loader host old called after new
  pub ordered : IsOrdered disks (views disks host) called
  pub few_io : HasFewIo (all_faults disks loader host old) (all_faults disks loader after new) events
