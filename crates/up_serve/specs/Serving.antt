-- What a server does before it listens: its logs are opened, and users are enrolled. This project's own.
use Rattle.std.specs.Prelude.{◌≡◌, ◌≤◌, ◌<◌, ◌+◌, ◌-◌, ◌^◌, ◌↔◌, ℕ, List, [], ◌∷◌, length, Option, Some, None, IfSome, Result, Ok, Err}
use Rattle.up_blocks.specs.Records as blocks
use Rattle.up_command.specs.Statuses.{IsOneOf, input_limit}
use Rattle.up_disk.specs.declared.disk.Disk.{Ghosts}
use Rattle.up_host.specs.Alone.{HostState}
use Rattle.up_host.specs.Opens.{OpensHost, RefusesHost, disks_of, store_limits}
use Rattle.up_calls.specs.Routes.{LogName}
use Rattle.up_host.specs.declared.fault.HostFault.{HostFault}
use Rattle.up_journal.specs.Damages.{Damage}
use Rattle.up_journal.specs.Journal.{AreLimits}
use Rattle.up_journal.specs.declared.limits.Limits.{Limits}
use Rattle.up_keys.specs.Records as keys
use Rattle.up_lists.specs.Counts.{Rose}
use Rattle.up_names.specs.Texts.{Text}
use Rattle.up_reports.specs.Telling.{AnswersOne, refused_by}
use Rattle.up_serve.specs.Enrolling.{EnrolsUsers, enrolment}
use Rattle.up_serve.specs.Telling.{stopped_by}
use Rattle.up_serve.specs.declared.enrolling.EnrolStop.{EnrolStop}
use Rattle.up_serve.specs.declared.plan.ServePlan.{ServePlan}
use Rattle.up_serve.specs.declared.serve.ServeFault.{ServeFault}
use Rattle.up_tree.specs.States as tree

-- ---- limits

-- limits that the trees and keys of a server may have
pub record AreServeLimits (limits : Limits) : Type 0 where
  pub fit : AreLimits limits
  pub least : keys.largest_room ≤ limits.largest
  pub most : limits.largest ≤ 1048000

-- the limits that the program gives them
abbrev pub serve_limits : Limits
serve_limits = record { records = 1048576; device = 1073741824; largest = 131072 }

-- ---- the result

-- the status of what came of a plan; 0 is that of an opened host
abbrev pub result_code : {D : Type 0} → Result (HostState D) (ServeFault D) → ℕ
result_code (Ok host) = 0
result_code (Err fault) = fault.status

-- the disks after a plan, in their places
abbrev pub disks_after : {D : Type 0} → Result (HostState D) (ServeFault D) → List D
disks_after (Ok host) = disks_of host
disks_after (Err fault) = fault.disks.disks

-- these are the bytes that were left of the source, which were read whole, and are not too many
pub record IsInput (left : Option Text) (text : Text) : Type 0 where
  pub told : IfSome left (λ bytes. text ≡ bytes)
  pub few : length text ≤ input_limit

-- What came of a plan over these disks. Either a log did not open, and the source was left alone; or all did, and the text of users was not
-- read whole; or it was, and enrolling stopped at a line, or went to its end. All disks are back in their places where there is no host.
module _ {D : Type 0} (disks : Ghosts D) (limits : Limits) (plan : ServePlan)
    (given : List D) (unasked : Type 0) (left held held_now : Option Text) where
  -- each way in which a plan may come out, with its result
  pub data Serves : Result (HostState D) (ServeFault D) → Type 0 where
    refused : {fault : HostFault D} {result : ServeFault D}
        → RefusesHost disks limits plan.trees given fault → result.disks.disks ≡ fault.disks.disks → unasked
        → AnswersOne held held_now (refused_by fault.which fault.why) result.status → Serves (Err result)
    unread : {host : HostState D} {result : ServeFault D}
        → OpensHost disks limits plan.host plan.operator plan.trees given host → result.disks.disks ≡ disks_of host
        → IsOneOf (2 ∷ 4 ∷ 7 ∷ []) result.status → held_now ≡ held → Serves (Err result)
    stopped : {host after : HostState D} {text : Text} {why : EnrolStop} {result : ServeFault D}
        → OpensHost disks limits plan.host plan.operator plan.trees given host → IsInput left text
        → EnrolsUsers disks text host after (Err why) → result.disks.disks ≡ disks_of after
        → AnswersOne held held_now (stopped_by why) result.status → Serves (Err result)
    enrolled : {host after : HostState D} {text : Text}
        → OpensHost disks limits plan.host plan.operator plan.trees given host → IsInput left text
        → EnrolsUsers disks text host after (Ok tt) → held_now ≡ held → Serves (Ok after)

-- What the status says of the source of the text of users and of the sink, whatever they tell: a count that rose, or that too many bytes
-- were given. No count falls.
pub record HasCauses (code given given_now read read_now wrote wrote_now : ℕ) (left : Option Text) : Type 0 where
  pub read_fault : code ≡ 2 → Rose read read_now
  pub write_fault : code ≡ 3 → Rose wrote wrote_now
  pub too_long : given + input_limit < 2 ^ 64 - 1 → (code ≡ 7 ↔ (given + input_limit < given_now))
  pub told_long : code ≡ 7 → IfSome left (λ bytes. input_limit < length bytes)
  pub source_later : read ≤ read_now
  pub sink_later : wrote ≤ wrote_now

-- ---- completeness

-- the disk tells its bytes, and they are read as a log that has this
pub record Reads {D R : Type 0} (disks : Ghosts D) (read : List ℕ → Result (List R) Damage)
    (disk : D) (has : List R → Type 0) : Type 0 where
  pub bytes : List ℕ
  pub told : disks.content disk ≡ Some bytes
  pub log : List R
  pub reads : read bytes ≡ Ok log
  pub holds : has log

module _ {D : Type 0} (disks : Ghosts D) (limits : Limits) (text : Text) where
  -- the disk has such a log; that of the keys besides takes the users of the text, whose lines are good
  abbrev pub IsServed : LogName → D → Type 0
  IsServed (LogName.OfTree owner) disk = Reads disks (tree.records_in owner limits.largest) disk (λ log. Unit {0})
  IsServed LogName.OfStore disk = Reads disks (blocks.blocks_in (store_limits limits).largest) disk (λ log. Unit {0})
  IsServed LogName.OfKeys disk = Reads disks (keys.records_in limits.largest) disk (λ log. (enrolment limits log text).stop ≡ None)

  -- each of these disks has its log, in this order
  abbrev pub AreServed : List LogName → List D → Type 0
  AreServed [] [] = Unit {0}
  AreServed (log ∷ logs) (disk ∷ more) = IsServed log disk × AreServed logs more
  AreServed [] (disk ∷ more) = ⊥
  AreServed (log ∷ logs) [] = ⊥
