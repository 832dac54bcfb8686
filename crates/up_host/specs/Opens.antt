-- How the disks of a host are opened, one after the other. This project's own.
use Rattle.std.specs.Prelude.{◌≡◌, ◌⊎◌, ℕ, List, [], ◌∷◌, ◌++◌, length, map, Result, IfErr, IfOk}
use Rattle.std.specs.List.{AllByRecursion}
use Rattle.up_blocks.specs.Records as blocks
use Rattle.up_blocks.specs.declared.record.BlockRecord.{BlockRecord}
use Rattle.up_disk.specs.declared.disk.Disk.{Ghosts}
use Rattle.up_lists.specs.Counts.{HasCause, StaysUnless}
use Rattle.up_host.specs.Alone.{HostState}
use Rattle.up_calls.specs.Routes.{LogName}
use Rattle.up_host.specs.declared.fault.HostFault.{HostFault}
use Rattle.up_host.specs.declared.held.Held.{Held}
use Rattle.up_disk.specs.Leaving.{LeavesNow}
use Rattle.up_journal.specs.Crashes.{IsOpened}
use Rattle.up_journal.specs.Damages.{Damage}
use Rattle.up_journal.specs.Logs.{LogState, OpensLog, RefusesLog, StandsForLog}
use Rattle.up_journal.specs.declared.fault.OpenFault.{OpenFault}
use Rattle.up_journal.specs.declared.fault.OpenWhy.{OpenWhy}
use Rattle.up_journal.specs.declared.fault.OpenWhy.TheVariants as why
use Rattle.up_journal.specs.declared.limits.Limits.{Limits}
use Rattle.up_keys.specs.Records as keys
use Rattle.up_names.specs.Texts.{UserName}
use Rattle.up_tree.specs.States as tree
use Rattle.up_wire.specs.declared.keys.KeyRecord.{KeyRecord}

-- the records of an image of at most so many bytes each, or its damage
abbrev pub Reader : Type 0 → Type 0
Reader R = ℕ → List ℕ → Result (List R) Damage

-- the store has the limits of the others, but for its largest record
abbrev pub store_limits : Limits → Limits
store_limits limits = record { records = limits.records; device = limits.device; largest = 1048640 }

-- ---- one disk

-- A log was opened on a disk, and the disk did not fail: its count is as before.
pub record IsLogOn {D R : Type 0} (disks : Ghosts D) (read : Reader R) (limits : Limits) (disk : D) (log : LogState D R) : Type 0 where
  pub opens : OpensLog disks read limits disk log
  pub opened : IsOpened disks limits.largest disk log.disk ⊥
  pub counts : HasCause (disks.faults disk) (disks.faults log.disk) ⊥
  pub quiet : StaysUnless (disks.faults disk) (disks.faults log.disk) ⊥

-- A disk was refused as a log, and failed where the fault says so, and nowhere else.
pub record IsNoLog {D R : Type 0} (disks : Ghosts D) (read : Reader R) (limits : Limits) (disk : D) (fault : OpenFault D) : Type 0 where
  pub refuses : RefusesLog disks read limits disk fault
  pub opened : IsOpened disks limits.largest disk fault.disk (fault.why ≡ why.Fault)
  pub counts : HasCause (disks.faults disk) (disks.faults fault.disk) (fault.why ≡ why.Fault)
  pub quiet : StaysUnless (disks.faults disk) (disks.faults fault.disk) (fault.why ≡ why.Fault)

-- a disk was opened as the tree of an owner, whose base is its length
pub record OpensTree {D : Type 0} (disks : Ghosts D) (limits : Limits)
    (owner : UserName) (disk : D) (held : Held (tree.State D)) : Type 0 where
  pub owner_is : held.state.owner ≡ owner
  pub log : IsLogOn disks (tree.records_in owner) limits disk (tree.over_journal held.state)
  pub base_is : held.base ≡ length held.state.log

-- a disk was opened as the store or the keys, whose base is its length
pub record OpensHeld {D R : Type 0} (disks : Ghosts D) (read : Reader R)
    (limits : Limits) (disk : D) (held : Held (LogState D R)) : Type 0 where
  pub log : IsLogOn disks read limits disk held.state
  pub base_is : held.base ≡ length held.state.log

-- a disk was opened as a log, and was handed back
pub record WasOpened {D R : Type 0} (disks : Ghosts D) (read : Reader R) (limits : Limits) (disk after : D) : Type 0 where
  pub log : LogState D R
  pub opened : IsLogOn disks read limits disk log
  pub disk_is : log.disk ≡ after

-- a disk was opened as this log, and was handed back
abbrev pub WasOpenedAs : {D : Type 0} → Ghosts D → Limits → LogName → D → D → Type 0
WasOpenedAs disks limits (LogName.OfTree owner) disk after = WasOpened disks (tree.records_in owner) limits disk after
WasOpenedAs disks limits LogName.OfStore disk after = WasOpened disks blocks.blocks_in (store_limits limits) disk after
WasOpenedAs disks limits LogName.OfKeys disk after = WasOpened disks keys.records_in limits disk after

-- a disk was refused as this log, with this fault
abbrev pub IsRefusedAs : {D : Type 0} → Ghosts D → Limits → LogName → D → OpenFault D → Type 0
IsRefusedAs disks limits (LogName.OfTree owner) disk fault = IsNoLog disks (tree.records_in owner) limits disk fault
IsRefusedAs disks limits LogName.OfStore disk fault = IsNoLog disks blocks.blocks_in (store_limits limits) disk fault
IsRefusedAs disks limits LogName.OfKeys disk fault = IsNoLog disks keys.records_in limits disk fault

-- ---- all disks

-- the logs of a host, in the order of its disks
abbrev pub logs_of : List UserName → List LogName
logs_of owners = map LogName.OfTree owners ++ LogName.OfStore ∷ LogName.OfKeys ∷ []

-- these disks were opened as the trees of these owners
abbrev pub OpensTrees : {D : Type 0} → Ghosts D → Limits → List UserName → List D → List (Held (tree.State D)) → Type 0
OpensTrees disks limits [] [] [] = Unit {0}
OpensTrees disks limits (owner ∷ owners) (disk ∷ more) (held ∷ trees) =
    OpensTree disks limits owner disk held × OpensTrees disks limits owners more trees
OpensTrees disks limits owners more trees = ⊥

-- these disks were opened as these logs, and were handed back
abbrev pub WereOpened : {D : Type 0} → Ghosts D → Limits → List LogName → List D → List D → Type 0
WereOpened disks limits [] [] [] = Unit {0}
WereOpened disks limits (log ∷ logs) (disk ∷ more) (after ∷ rest) =
    WasOpenedAs disks limits log disk after × WereOpened disks limits logs more rest
WereOpened disks limits logs more rest = ⊥

-- All were opened: the trees over the first disks, the store over the next, the keys over the last.
pub record OpensLogs {D : Type 0} (disks : Ghosts D) (limits : Limits) (owners : List UserName) (given : List D)
    (trees : List (Held (tree.State D))) (store : Held (LogState D BlockRecord)) (key_log : Held (LogState D KeyRecord)) : Type 0 where
  pub of_trees : List D
  pub of_store : D
  pub of_keys : D
  pub given_is : given ≡ of_trees ++ of_store ∷ of_keys ∷ []
  pub trees_are : OpensTrees disks limits owners of_trees trees
  pub store_is : OpensHeld disks blocks.blocks_in (store_limits limits) of_store store
  pub keys_are : OpensHeld disks keys.records_in limits of_keys key_log

-- a host was opened
pub record OpensHost {D : Type 0} (disks : Ghosts D) (limits : Limits) (name : List ℕ)
    (operator : UserName) (owners : List UserName) (given : List D) (host : HostState D) : Type 0 where
  pub name_is : host.name ≡ name
  pub operator_is : host.operator ≡ operator
  pub logs : OpensLogs disks limits owners given host.trees host.store host.keys

-- the place of a refusal among the logs; want of memory has the place 0
abbrev pub place_by : ℕ → OpenWhy → ℕ
place_by n why.OutOfMemory = 0
place_by n other = n

-- One disk was refused. Those before it were opened, those behind it were left alone, and all come back in their order.
pub record StopsAtOne {D : Type 0} (disks : Ghosts D) (limits : Limits)
    (owners : List UserName) (given : List D) (fault : HostFault D) : Type 0 where
  pub before : List LogName
  pub log : LogName
  pub behind : List LogName
  pub logs_are : logs_of owners ≡ before ++ log ∷ behind
  pub used : List D
  pub disk : D
  pub rest : List D
  pub given_is : given ≡ used ++ disk ∷ rest
  pub opened : List D
  pub refused : OpenFault D
  pub handed : fault.disks.disks ≡ opened ++ refused.disk ∷ rest
  pub were_opened : WereOpened disks limits before used opened
  pub was_refused : IsRefusedAs disks limits log disk refused
  pub why_is : fault.why ≡ refused.why
  pub which_is : fault.which ≡ place_by (length before) refused.why

-- no disk was opened, for want of memory
pub record OpensNone {D : Type 0} (given : List D) (fault : HostFault D) : Type 0 where
  pub handed : fault.disks.disks ≡ given
  pub why_is : fault.why ≡ why.OutOfMemory
  pub which_is : fault.which ≡ 0

-- no disk was opened, for want of memory; or one of them was refused
abbrev pub RefusesHost : {D : Type 0} → Ghosts D → Limits → List UserName → List D → HostFault D → Type 0
RefusesHost disks limits owners given fault = OpensNone given fault ⊎ StopsAtOne disks limits owners given fault

-- ---- on the way

-- the first disk was taken, and opened or refused
pub record TakesOne {D S : Type 0} (opens : D → S → Type 0) (refuses : D → OpenFault D → Type 0)
    (old new : List D) (result : Result S (OpenFault D)) : Type 0 where
  pub disk : D
  pub taken : old ≡ disk ∷ new
  pub opened : IfOk result (opens disk)
  pub refused : IfErr result (refuses disk)

-- the first disks were opened as the trees of these owners
pub record TakesTrees {D : Type 0} (disks : Ghosts D) (limits : Limits) (owners : List UserName)
    (old new : List D) (trees : List (Held (tree.State D))) : Type 0 where
  pub used : List D
  pub taken : old ≡ used ++ new
  pub opened : OpensTrees disks limits owners used trees

-- some of the first disks were opened as the trees of the first of these owners, and the next one was refused
pub record StopsAtTree {D : Type 0} (disks : Ghosts D) (limits : Limits) (owners : List UserName)
    (old new : List D) (trees : List (Held (tree.State D))) (fault : OpenFault D) : Type 0 where
  pub before : List UserName
  pub owner : UserName
  pub behind : List UserName
  pub owners_are : owners ≡ before ++ owner ∷ behind
  pub used : List D
  pub disk : D
  pub taken : old ≡ used ++ disk ∷ new
  pub opened : OpensTrees disks limits before used trees
  pub refused : IsNoLog disks (tree.records_in owner) limits disk fault

-- the disk of a tree
abbrev pub disk_of : {D : Type 0} → Held (tree.State D) → D
disk_of held = held.state.disk

-- the disks of a host, in their order
abbrev pub disks_of : {D : Type 0} → HostState D → List D
disks_of host = map disk_of host.trees ++ host.store.state.disk ∷ host.keys.state.disk ∷ []

-- a crash now leaves a log, or it with its doubtful record
abbrev pub LeavesLog : {D R : Type 0} → Ghosts D → Reader R → LogState D R → Type 0
LeavesLog disks read log = LeavesNow disks log.disk (StandsForLog (read log.limits.largest) log.log log.further)

-- a crash now leaves the log of a tree, or it with its doubtful record
abbrev pub LeavesTree : {D : Type 0} → Ghosts D → Held (tree.State D) → Type 0
LeavesTree disks held = LeavesLog disks (tree.records_in held.state.owner) (tree.over_journal held.state)

-- a crash now leaves of each log of a host that log, or it with its doubtful record
pub record LeavesHost {D : Type 0} (disks : Ghosts D) (host : HostState D) : Type 0 where
  pub trees : AllByRecursion (LeavesTree disks) host.trees
  pub store : LeavesLog disks blocks.blocks_in host.store.state
  pub keys : LeavesLog disks keys.records_in host.keys.state
