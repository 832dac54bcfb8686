-- What a store keeps in memory. This project's own.
use Rattle.std.specs.Prelude.{◌≡◌, ◌≤◌, ◌+◌, ◌&&◌, ℕ, Bool, true, not, nat_le, is_some, List, [], ◌∷◌, ◌++◌, map, replicate}
use Rattle.std.specs.Prelude.{Option, Some, None}
use Rattle.std.specs.FinMap.Entries.{find, put, where_key}
use Rattle.std.specs.Ordering.{eq_by_cmp}
use Rattle.up_blocks.specs.Records.{blocks_of, decoded, fits, held_sizes, largest_block, largest_room, reference_cmp}
use Rattle.up_blocks.specs.declared.record.BlockRecord.{BlockRecord}
use Rattle.up_blocks.specs.declared.record.BlockRecord.TheVariants.{Put, Delete}
use Rattle.up_blocks.specs.declared.record.Kept.{Kept}
use Rattle.up_blocks.specs.declared.record.Kept.TheVariants as kept
use Rattle.up_disk.specs.declared.disk.Disk.{Ghosts}
use Rattle.up_disk.specs.Leaving.{LeavesNow}
use Rattle.up_journal.specs.Journal.{State}
use Rattle.up_journal.specs.Logs.{EachFits, KeepsLog, LogState, further_record, log_step}
use Rattle.up_maps.specs.Numbers.{AreNumbers}

-- all of a record but its bytes
abbrev pub kept_of : BlockRecord → Kept
kept_of (Put reference size bytes) = kept.Put reference size
kept_of (Delete reference) = kept.Delete reference

-- the record without its bytes
abbrev pub untold : Kept → BlockRecord
untold (kept.Put reference size) = Put reference size None
untold (kept.Delete reference) = Delete reference

-- the bytes of its payload
abbrev pub size_kept : Kept → ℕ
size_kept (kept.Put reference size) = size + 1
size_kept (kept.Delete reference) = 33

-- the record of a payload that decodes; of no other is one asked for
abbrev pub record_or : Option BlockRecord → BlockRecord
record_or None = Delete (replicate 32 0)
record_or (Some rec) = rec

-- the record that a payload decodes to; asked for only where it decodes
abbrev pub record_of : List ℕ → BlockRecord
record_of payload = record_or (decoded payload)

-- the log: the records of the payloads, where these are told, and else those that are kept, without bytes
abbrev pub log_seen : Option (List (List ℕ)) → List Kept → List BlockRecord
log_seen None records = map untold records
log_seen (Some payloads) records = map record_of payloads

-- the doubtful record, where the payloads are told
abbrev pub further_seen : Option (List (List ℕ)) → Option (List ℕ) → Option BlockRecord
further_seen None further = None
further_seen (Some payloads) further = further_record decoded further

-- the store over a journal that tells this of its payloads, as contracts see it
abbrev pub store_state : {D : Type 0} → State D → Option (List (List ℕ)) → List Kept → LogState D BlockRecord
store_state journal told records = record {
  disk = journal.disk;
  limits = journal.limits;
  log = log_seen told records;
  doubtful = journal.doubtful;
  further = further_seen told journal.further;
}

-- ---- where the blocks are

-- the bytes of a block that is put
abbrev pub block_of : BlockRecord → Option (Option (List ℕ))
block_of (Put reference size bytes) = Some bytes
block_of (Delete reference) = None

-- the size of the block that a record puts
abbrev pub size_put : BlockRecord → Option ℕ
size_put (Put reference size bytes) = Some size
size_put (Delete reference) = None

-- the numbers of the records of blocks, after the record with that number
abbrev pub numbered : ℕ → Kept → List (List ℕ × ℕ) → List (List ℕ × ℕ)
numbered number (kept.Put reference size) numbers = put reference_cmp reference number numbers
numbered number (kept.Delete reference) numbers = where_key reference_cmp (λ other. not (eq_by_cmp reference_cmp reference other)) numbers

-- these are the records of a log without their bytes, and the numbers of the records of the blocks that are held, with their sizes
pub record IsIndex (log : List BlockRecord) (records : List Kept) (numbers : List (List ℕ × ℕ)) : Type 0 where
  pub same : map kept_of log ≡ records
  pub held : AreNumbers block_of log numbers (blocks_of log)
  pub sized : AreNumbers size_put log numbers (held_sizes log)

-- whether a record fits, by these numbers
abbrev pub fits_by : List (List ℕ × ℕ) → Kept → Bool
fits_by numbers (kept.Put reference size) = nat_le size largest_block && not (is_some (find reference_cmp reference numbers))
fits_by numbers (kept.Delete reference) = is_some (find reference_cmp reference numbers)

-- A payload was taken as the next record: it is one, and fits. Where the log is without bytes, so is the record.
pub record IsTaken (log : List BlockRecord) (payload : List ℕ) (before records : List Kept) (numbers : List (List ℕ × ℕ)) : Type 0 where
  pub change : Kept
  pub added : records ≡ before ++ change ∷ []
  pub fitted : fits log (untold change) ≡ true
  pub step : log_step decoded fits log payload ≡ Some (log ++ record_of payload ∷ [])
  pub told : IsIndex (log ++ record_of payload ∷ []) records numbers
  pub silent : IsIndex (log ++ untold change ∷ []) records numbers

-- ---- the invariant

-- how a told record is spelled
abbrev pub spelling : BlockRecord → List ℕ
spelling (Put reference size (Some bytes)) = 1 ∷ bytes
spelling (Put reference size None) = []
spelling (Delete reference) = 2 ∷ reference

-- What the journal says of the log: where it tells its payloads, they lead to it; and else no image is left.
abbrev pub Keeps : {D : Type 0} → Ghosts D → State D → Option (List (List ℕ)) → Type 0
Keeps disks journal None = LeavesNow disks journal.disk (λ image. ⊥)
Keeps disks journal (Some payloads) = KeepsLog disks decoded fits spelling journal (map record_of payloads)

-- What a store keeps in memory fits its journal: the sizes, the records, and the index of the blocks that are held; and a record of the
-- longest block has room.
pub record IsStore {D : Type 0} (disks : Ghosts D) (journal : State D) (records : List Kept) (numbers : List (List ℕ × ℕ)) : Type 0 where
  pub sizes : journal.sizes ≡ map size_kept records
  pub keeps : Keeps disks journal journal.log
  pub fitting : EachFits fits (log_seen journal.log records)
  pub index : IsIndex (log_seen journal.log records) records numbers
  pub room : largest_room ≤ journal.limits.largest
