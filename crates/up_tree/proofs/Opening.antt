-- What comes of a journal that was opened, once its records are read as a tree, or are not.
use Rattle.std.proofs.Common.{◌≡◌, ℕ, List, [], Some, Result, Ok, Err, IfErr, IfOk, sym, ap, ◌∙◌}
use Rattle.up_disk.specs.declared.disk.Disk.{Ghosts}
use Rattle.up_disk.specs.Leaving.{LeavesNow}
use Rattle.up_entry.specs.Spelling as spelling
use Rattle.up_journal.specs.Crashes.{IsOpened}
use Rattle.up_journal.specs.Journal.{HasLog, IsSettled, State}
use Rattle.up_journal.specs.Logs.{RefusesLog, log_step}
use Rattle.up_journal.specs.Opened.{IsDamageOf, IsLogOf, IsRefusedFor}
use Rattle.up_journal.specs.Records.{OnlyPayloads, replay}
use Rattle.up_journal.specs.declared.fault.OpenWhy.{OpenWhy}
use Rattle.up_journal.specs.declared.fault.OpenWhy.TheVariants as open_why
use Rattle.up_journal.specs.declared.limits.Limits.{Limits}
use Rattle.up_journal.proofs.Logs.{opens_log, refuses_read}
use Rattle.up_journal.proofs.Records.{opened_and_read}
use Rattle.up_names.specs.Texts.{UserName}
use Rattle.up_mem_tree.specs.MemTrees.{TreeLog}
use Rattle.up_log_tree.specs.Fits.{fits}
use Rattle.up_log_tree.specs.Sizes.{sizes_of}
use Rattle.up_tree.specs.States.{IsKept, Opens, disk_after, read_by, record_in, records_in}

-- the tree is the owner's, and of the records of the journal's log
pub record IsReplayed {D : Type 0} (owner : UserName) (opened : State D) (tree : TreeLog) : Type 0 where
  pub owner_is : tree.owner ≡ owner
  pub log : (log : List (List ℕ)) → opened.log ≡ Some log → replay (log_step record_in (fits owner)) [] log ≡ Ok tree.log
  pub sizes : opened.sizes ≡ sizes_of tree.log

pub is_replayed : {D : Type 0} (owner : UserName) (opened : State D) (replayed : Result TreeLog OpenWhy) → IfOk replayed (λ tree. tree.owner ≡ owner)
    → IfOk replayed (λ tree. (log : List (List ℕ)) → opened.log ≡ Some log → replay (log_step record_in (fits owner)) [] log ≡ Ok tree.log) → IfOk replayed (λ tree. opened.sizes ≡ sizes_of tree.log)
    → IfOk replayed (IsReplayed owner opened)
is_replayed owner opened (Ok tree) owner_is log sizes = record { owner_is = owner_is; log = log; sizes = sizes }
is_replayed owner opened (Err why) owner_is log sizes = tt

module _ {D : Type 0} (disks : Ghosts D) (owner : UserName) (disk : D) (limits : Limits) (opened read : State D) (log : IsLogOf limits.largest (disks.content disk) opened.log) (settled : IsSettled opened)
    (same : opened.limits ≡ limits) (safe : LeavesNow disks opened.disk (HasLog limits.largest opened.log)) (reads : OnlyPayloads disks opened read) where
  -- the journal has the records of the tree
  pub kept_by : (replayed : Result TreeLog OpenWhy) → IfOk replayed (IsReplayed owner opened) → IfOk replayed (λ tree. IsKept disks tree.owner read tree.log limits)
  kept_by (Ok tree) is = rw is.owner_is (record {
    keeps = (opens_log disks record_in (fits owner) spelling.rec disk limits opened read tree.log log settled same safe is.sizes is.log reads).0;
    limits_are = sym (ap (λ (j : State D). j.limits) reads.unchanged ∙ same);
  })
  kept_by (Err why) is = tt

  -- and is opened as it
  pub opens_by : (replayed : Result TreeLog OpenWhy) → IfOk replayed (IsReplayed owner opened) → IfOk (read_by read replayed) (Opens disks owner limits disk)
  opens_by (Ok tree) is = record {
    owner_is = is.owner_is;
    opens = (opens_log disks record_in (fits owner) spelling.rec disk limits opened read tree.log log settled same safe is.sizes is.log reads).1;
  }
  opens_by (Err why) is = tt

  -- or refused for the damage of its records
  pub refuses_by : (replayed : Result TreeLog OpenWhy) → IfErr replayed (IsDamageOf (replay (log_step record_in (fits owner)) []) opened.log) → IfErr (read_by read replayed) (RefusesLog disks (records_in owner) limits disk)
  refuses_by (Ok tree) damaged = tt
  refuses_by (Err why) damaged = refuses_read disks record_in (fits owner) disk limits opened read why log safe damaged reads

  pub opened_by : (replayed : Result TreeLog OpenWhy) → IsOpened disks limits.largest disk opened.disk ⊥
      → IsOpened disks limits.largest disk (disk_after (read_by read replayed)) (IsRefusedFor (read_by read replayed) open_why.Fault)
  opened_by (Ok tree) is_opened = opened_and_read disks disk opened read limits ⊥ log settled.nothing same is_opened reads
  opened_by (Err why) is_opened = opened_and_read disks disk opened read limits (why ≡ open_why.Fault) log settled.nothing same is_opened reads
