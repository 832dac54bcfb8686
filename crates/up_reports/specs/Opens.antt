-- How the logs of a stopped server are opened, one after the other. This project's own.
use Rattle.std.specs.Prelude.{◌≡◌, ◌⊎◌, ℕ, List, [], ◌∷◌, ◌++◌, length, map, Some, Result, Ok, IfErr, IfOk}
use Rattle.up_blocks.specs.Records as blocks
use Rattle.up_blocks.specs.declared.record.BlockRecord.{BlockRecord}
use Rattle.up_disk.specs.Leaving.{LeavesNow}
use Rattle.up_disk.specs.declared.disk.Disk.{Ghosts}
use Rattle.up_journal.specs.Crashes.{IsOpened}
use Rattle.up_journal.specs.Damages.{Damage}
use Rattle.up_journal.specs.Logs.{LogState, OpensLog, RefusesLog, StandsForLog}
use Rattle.up_journal.specs.declared.fault.OpenFault.{OpenFault}
use Rattle.up_journal.specs.declared.fault.OpenWhy.TheVariants as why
use Rattle.up_journal.specs.declared.limits.Limits.{Limits}
use Rattle.up_lists.specs.Counts.{HasCause}
use Rattle.up_names.specs.Texts.{UserName}
use Rattle.up_reports.specs.declared.refused.Refused.{Refused}
use Rattle.up_tree.specs.States as tree

-- ---- limits

-- the limits of the trees of servers, whose logs are read
abbrev pub report_limits : Limits
report_limits = record { records = 1048576; device = 1073741824; largest = 131072 }

-- the store has the limits of the trees, but for its largest record
abbrev pub store_limits : Limits → Limits
store_limits limits = record { records = limits.records; device = limits.device; largest = 1048640 }

-- ---- one disk

-- the records of an image of at most so many bytes each, or its damage
abbrev pub Reader : Type 0 → Type 0
Reader R = ℕ → List ℕ → Result (List R) Damage

-- A log was opened on a disk, and the disk did not fail.
pub record IsLogOn {D R : Type 0} (disks : Ghosts D) (read : Reader R) (limits : Limits) (disk : D) (log : LogState D R) : Type 0 where
  pub opens : OpensLog disks read limits disk log
  pub opened : IsOpened disks limits.largest disk log.disk ⊥
  pub counts : HasCause (disks.faults disk) (disks.faults log.disk) ⊥

-- A disk was refused as a log, and failed where the fault says so.
pub record IsNoLog {D R : Type 0} (disks : Ghosts D) (read : Reader R) (limits : Limits) (disk : D) (fault : OpenFault D) : Type 0 where
  pub refuses : RefusesLog disks read limits disk fault
  pub opened : IsOpened disks limits.largest disk fault.disk (fault.why ≡ why.Fault)
  pub counts : HasCause (disks.faults disk) (disks.faults fault.disk) (fault.why ≡ why.Fault)

-- a disk was opened as the tree of an owner
pub record OpensTree {D : Type 0} (disks : Ghosts D) (limits : Limits) (owner : UserName) (disk : D) (state : tree.State D) : Type 0 where
  pub owner_is : state.owner ≡ owner
  pub log : IsLogOn disks (tree.records_in owner) limits disk (tree.over_journal state)

-- a disk was opened as the store
abbrev pub OpensStore : {D : Type 0} → Ghosts D → Limits → D → LogState D BlockRecord → Type 0
OpensStore disks limits disk store = IsLogOn disks blocks.blocks_in (store_limits limits) disk store

-- a disk was opened as a log, and was handed back
pub record WasOpened {D R : Type 0} (disks : Ghosts D) (read : Reader R) (limits : Limits) (disk after : D) : Type 0 where
  pub log : LogState D R
  pub opened : IsLogOn disks read limits disk log
  pub disk_is : log.disk ≡ after

-- ---- which log a disk has

-- whose log a disk has: a user's tree, or the store
pub data LogKind : Type 0 where
  OfTree : UserName → LogKind
  OfStore : LogKind

-- such a log was opened on a disk, and this is the disk after it
abbrev pub WasOpenedAs : {D : Type 0} → Ghosts D → Limits → LogKind → D → D → Type 0
WasOpenedAs disks limits (LogKind.OfTree owner) disk after = WasOpened disks (tree.records_in owner) limits disk after
WasOpenedAs disks limits LogKind.OfStore disk after = WasOpened disks blocks.blocks_in (store_limits limits) disk after

-- a disk was refused as such a log, with this fault
abbrev pub IsRefusedAs : {D : Type 0} → Ghosts D → Limits → LogKind → D → OpenFault D → Type 0
IsRefusedAs disks limits (LogKind.OfTree owner) disk fault = IsNoLog disks (tree.records_in owner) limits disk fault
IsRefusedAs disks limits LogKind.OfStore disk fault = IsNoLog disks blocks.blocks_in (store_limits limits) disk fault

-- the trees of these owners, in this order
abbrev pub trees_of : List UserName → List LogKind
trees_of owners = map LogKind.OfTree owners

-- the trees of these owners, in this order, and the store behind them
abbrev pub logs_of : List UserName → List LogKind
logs_of owners = trees_of owners ++ LogKind.OfStore ∷ []

-- ---- all disks

-- these disks were opened as the trees of these owners
abbrev pub OpensTrees : {D : Type 0} → Ghosts D → Limits → List UserName → List D → List (tree.State D) → Type 0
OpensTrees disks limits [] [] [] = Unit {0}
OpensTrees disks limits (owner ∷ owners) (disk ∷ more) (state ∷ trees) =
    OpensTree disks limits owner disk state × OpensTrees disks limits owners more trees
OpensTrees disks limits owners more trees = ⊥

-- these disks were opened as these logs, and were handed back
abbrev pub WereOpened : {D : Type 0} → Ghosts D → Limits → List LogKind → List D → List D → Type 0
WereOpened disks limits [] [] [] = Unit {0}
WereOpened disks limits (log ∷ logs) (disk ∷ more) (after ∷ rest) =
    WasOpenedAs disks limits log disk after × WereOpened disks limits logs more rest
WereOpened disks limits logs more rest = ⊥

-- The first disks were opened as the trees of these owners, and the others are left.
pub record TakesTrees {D : Type 0} (disks : Ghosts D) (limits : Limits)
    (owners : List UserName) (given now : List D) (trees : List (tree.State D)) : Type 0 where
  pub used : List D
  pub given_is : given ≡ used ++ now
  pub opened : OpensTrees disks limits owners used trees

-- All disks were opened: the first ones as the trees of these owners, and the last as the store.
pub record OpensLogs {D : Type 0} (disks : Ghosts D) (limits : Limits) (owners : List UserName)
    (given : List D) (trees : List (tree.State D)) (store : LogState D BlockRecord) : Type 0 where
  pub of_trees : List D
  pub of_store : D
  pub given_is : given ≡ of_trees ++ of_store ∷ []
  pub trees_are : OpensTrees disks limits owners of_trees trees
  pub store_is : OpensStore disks limits of_store store

-- One disk was refused. Those before it were opened, those behind it were left alone, and all are back in their order.
pub record StopsAtOne {D : Type 0} (disks : Ghosts D) (limits : Limits)
    (logs : List LogKind) (given now : List D) (refused : Refused) : Type 0 where
  pub before : List LogKind
  pub log : LogKind
  pub behind : List LogKind
  pub logs_are : logs ≡ before ++ log ∷ behind
  pub used : List D
  pub disk : D
  pub rest : List D
  pub given_is : given ≡ used ++ disk ∷ rest
  pub opened : List D
  pub fault : OpenFault D
  pub back_is : now ≡ opened ++ fault.disk ∷ rest
  pub were_opened : WereOpened disks limits before used opened
  pub was_refused : IsRefusedAs disks limits log disk fault
  pub refused_is : refused ≡ record { which = length before; why = fault.why }

-- No disk was opened, for want of memory.
pub record OpensNone {D : Type 0} (given now : List D) (refused : Refused) : Type 0 where
  pub back_is : now ≡ given
  pub refused_is : refused ≡ record { which = 0; why = why.OutOfMemory }

-- no disk was opened, for want of memory; or one of them was refused
abbrev pub RefusesLogs : {D : Type 0} → Ghosts D → Limits → List LogKind → List D → List D → Refused → Type 0
RefusesLogs disks limits logs given now refused = OpensNone given now refused ⊎ StopsAtOne disks limits logs given now refused

-- the disk of a tree
abbrev pub disk_of : {D : Type 0} → tree.State D → D
disk_of state = state.disk

-- the disks of these trees in order, and then that of the store
abbrev pub disks_of : {D : Type 0} → List (tree.State D) → LogState D BlockRecord → List D
disks_of trees store = map disk_of trees ++ store.disk ∷ []

-- a crash now leaves a log, or it with its doubtful record
abbrev pub LeavesLog : {D R : Type 0} → Ghosts D → Reader R → LogState D R → Type 0
LeavesLog disks read log = LeavesNow disks log.disk (StandsForLog (read log.limits.largest) log.log log.further)

-- a crash now leaves the log of a tree, or it with its doubtful record
abbrev pub LeavesTree : {D : Type 0} → Ghosts D → tree.State D → Type 0
LeavesTree disks state = LeavesLog disks (tree.records_in state.owner) (tree.over_journal state)

-- ---- what is known of logs that open

-- the disk tells its bytes, and they are read as a log
pub record Reads {D R : Type 0} (disks : Ghosts D) (read : List ℕ → Result (List R) Damage) (disk : D) : Type 0 where
  pub bytes : List ℕ
  pub told : disks.content disk ≡ Some bytes
  pub log : List R
  pub reads : read bytes ≡ Ok log

-- the disk tells its bytes, and they are read as such a log
abbrev pub ReadsAs : {D : Type 0} → Ghosts D → Limits → LogKind → D → Type 0
ReadsAs disks limits (LogKind.OfTree owner) disk = Reads disks (tree.records_in owner limits.largest) disk
ReadsAs disks limits LogKind.OfStore disk = Reads disks (blocks.blocks_in (store_limits limits).largest) disk

-- each of these disks has its log
abbrev pub AreLogs : {D : Type 0} → Ghosts D → Limits → List LogKind → List D → Type 0
AreLogs disks limits [] [] = Unit {0}
AreLogs disks limits (log ∷ logs) (disk ∷ more) = ReadsAs disks limits log disk × AreLogs disks limits logs more
AreLogs disks limits logs more = ⊥

-- ---- on the way

-- the first disk was taken, and opened or refused
pub record TakesOne {D S : Type 0} (opens : D → S → Type 0) (refuses : D → OpenFault D → Type 0)
    (given now : List D) (result : Result S (OpenFault D)) : Type 0 where
  pub disk : D
  pub taken : given ≡ disk ∷ now
  pub opened : IfOk result (opens disk)
  pub refused : IfErr result (refuses disk)

-- some of the first disks were opened as the trees of the first of these owners, and the next one was refused
pub record StopsAtTree {D : Type 0} (disks : Ghosts D) (limits : Limits) (owners : List UserName)
    (given now : List D) (trees : List (tree.State D)) (fault : OpenFault D) : Type 0 where
  pub before : List UserName
  pub owner : UserName
  pub behind : List UserName
  pub owners_are : owners ≡ before ++ owner ∷ behind
  pub used : List D
  pub disk : D
  pub taken : given ≡ used ++ disk ∷ now
  pub opened : OpensTrees disks limits before used trees
  pub refused : IsNoLog disks (tree.records_in owner) limits disk fault
