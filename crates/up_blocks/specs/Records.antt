-- The records of a store's log, and the blocks that a log of them leaves. References are the SHA-256 (FIPS 180-4) of the bytes, as
-- Upspin's store servers have them; all else is this project's own.
use Rattle.std.specs.Prelude.{◌≡◌, ◌==◌, ◌&&◌, ◌+◌, ℕ, Bool, true, false, not, nat_le, if◌then◌else◌, List, [], ◌∷◌, length, map, is_some}
use Rattle.std.specs.Prelude.{Option, Some, None, Result}
use Rattle.std.specs.Cmp.Lexicographic.{slice_cmp}
use Rattle.std.specs.FinMap.Entries.{find, put, where_key}
use Rattle.std.specs.List.{fold}
use Rattle.std.specs.Ordering.{eq_by_cmp, nat_cmp}
use Rattle.std.specs.declared.cmp.Ordering.{Ordering}
use Rattle.up_blocks.specs.declared.record.BlockRecord.{BlockRecord}
use Rattle.up_blocks.specs.declared.record.BlockRecord.TheVariants.{Put, Delete}
use Rattle.up_journal.specs.Damages.{Damage}
use Rattle.up_journal.specs.Logs.{log_in}
use Rattle.up_refs.specs.Sha256.{sha256}

-- the most bytes of a block
abbrev pub largest_block : ℕ
largest_block = 1048576

-- what the limits have to leave for one record
abbrev pub largest_room : ℕ
largest_room = 1048577

-- ---- records and their payloads

-- the record of a block that is put, with its bytes where they are told
abbrev pub put_record : Bool → List ℕ → BlockRecord
put_record told bytes = Put (sha256 bytes) (length bytes) (if told then Some bytes else None)

-- the record that a payload is: 01 and the bytes of a block, or 02 and the 32 bytes of a reference
unfoldable pub decoded : List ℕ → Option BlockRecord
decoded [] = None
decoded (tag ∷ bytes) =
    if tag == 1 then Some (put_record true bytes)
    else (if tag == 2 && length bytes == 32 then Some (Delete bytes)
    else None)

-- the bytes of a record's payload
abbrev pub size_of : BlockRecord → ℕ
size_of (Put reference size bytes) = size + 1
size_of (Delete reference) = 33

-- the sizes of the payloads of a log's records
abbrev pub sizes_of : List BlockRecord → List ℕ
sizes_of log = map size_of log

-- where the bytes are told, the reference of a Put is theirs, and so is the size; else there are none
abbrev pub IsTold : Bool → BlockRecord → Type 0
IsTold told (Put reference size (Some bytes)) = (told ≡ true) × (reference ≡ sha256 bytes) × (size ≡ length bytes)
IsTold told (Put reference size None) = told ≡ false
IsTold told (Delete reference) = Unit {0}

-- ---- the block map

-- the order of references is that of their bytes
abbrev pub reference_cmp : List ℕ → List ℕ → Ordering
reference_cmp = slice_cmp nat_cmp

-- a block that is put stands under its reference, and one that is deleted is taken out
abbrev pub after_record : List (List ℕ × Option (List ℕ)) → BlockRecord → List (List ℕ × Option (List ℕ))
after_record blocks (Put reference size bytes) = put reference_cmp reference bytes blocks
after_record blocks (Delete reference) = where_key reference_cmp (λ other. not (eq_by_cmp reference_cmp reference other)) blocks

-- the block map of a log: in the order of references the blocks that are held, each with its bytes where they are told
abbrev pub blocks_of : List BlockRecord → List (List ℕ × Option (List ℕ))
blocks_of log = fold after_record [] log

-- the block with a reference, if it is held
abbrev pub block_in : List BlockRecord → List ℕ → Option (Option (List ℕ))
block_in log reference = find reference_cmp reference (blocks_of log)

-- whether a block is held
abbrev pub holds : List BlockRecord → List ℕ → Bool
holds log reference = is_some (block_in log reference)

-- the sizes of the blocks that are held, by the same fold
abbrev pub sized_after : List (List ℕ × ℕ) → BlockRecord → List (List ℕ × ℕ)
sized_after sizes (Put reference size bytes) = put reference_cmp reference size sizes
sized_after sizes (Delete reference) = where_key reference_cmp (λ other. not (eq_by_cmp reference_cmp reference other)) sizes

-- the sizes of the blocks that are held after all these records
abbrev pub held_sizes : List BlockRecord → List (List ℕ × ℕ)
held_sizes log = fold sized_after [] log

-- the size of the block with a reference, if it is held, whether or not its bytes are told
abbrev pub size_in : List BlockRecord → List ℕ → Option ℕ
size_in log reference = find reference_cmp reference (held_sizes log)

-- ---- the log

-- a Put fits where its block is not too long and not held, and a Delete where the block is held
abbrev pub fits : List BlockRecord → BlockRecord → Bool
fits log (Put reference size bytes) = nat_le size largest_block && not (holds log reference)
fits log (Delete reference) = holds log reference

-- The records of an image; or its damage; or, where all gates are good, damage at the gate of the first record that does not
-- decode or does not fit.
abbrev pub blocks_in : ℕ → List ℕ → Result (List BlockRecord) Damage
blocks_in largest image = log_in decoded fits largest image
