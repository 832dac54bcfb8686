-- A raw entry, as it is handed to Put: the fields of an entry in their order, each name as any text, packing and attr as any
-- byte, and the sequence as a signed number. This project's own format.
use Rattle.std.specs.Prelude.{ℕ, List, ◌++◌, Result, Ok}
use Rattle.std.specs.List.{AllByRecursion}
use Rattle.up_bytes.specs.declared.fault.FieldFault.{FieldFault}
use Rattle.up_bytes.specs.Input.{Input}
use Rattle.up_bytes.specs.Spelling.{int, text, list, IsByte, IsI64, IsText, IsList}
use Rattle.up_bytes.specs.Reading.{◌>>=◌, byte_at, int_at, text_at}
use Rattle.up_entry.specs.declared.puts.PutEntry.{PutEntry}
use Rattle.up_entry.specs.Reading.{blocks_at}
use Rattle.up_entry.specs.Spelling.{block, heading, HasAddress, IsBlock}

-- the bytes of an entry as it is handed to Put: its fields one after the other
unfoldable pub raw_entry : PutEntry → List ℕ
raw_entry put =
    heading put.name put.signed_name put.packing put.time put.writer put.attr
    ++ text put.link
    ++ text put.packdata
    ++ list block put.blocks
    ++ int put.sequence

-- an entry as it is handed to Put, field by field
unfoldable pub raw_entry_at : Input → Result (PutEntry × Input) FieldFault
raw_entry_at input = do
  name ← text_at input
  signed_name ← text_at name.1
  packing ← byte_at signed_name.1
  time ← int_at packing.1
  writer ← text_at time.1
  attr ← byte_at writer.1
  link ← text_at attr.1
  packdata ← text_at link.1
  blocks ← blocks_at packdata.1
  sequence ← int_at blocks.1
  Ok (
    record {
      name = name.0;
      signed_name = signed_name.0;
      packing = packing.0;
      time = time.0;
      writer = writer.0;
      attr = attr.0;
      link = link.0;
      packdata = packdata.0;
      blocks = blocks.0;
      sequence = sequence.0;
    },
    sequence.1,
  )

-- what each of the program is, by its type
pub record IsRawEntry (put : PutEntry) : Type 0 where
  pub name : IsText put.name
  pub signed_name : IsText put.signed_name
  pub packing : IsByte put.packing
  pub time : IsI64 put.time
  pub writer : IsText put.writer
  pub attr : IsByte put.attr
  pub link : IsText put.link
  pub packdata : IsText put.packdata
  pub blocks : IsList IsBlock put.blocks
  pub sequence : IsI64 put.sequence

-- an entry as it is handed to Put has a spelling where no address of its blocks is empty
abbrev pub IsSpelledRaw : PutEntry → Type 0
IsSpelledRaw put = AllByRecursion (λ b. HasAddress b.location.endpoint) put.blocks

-- an entry that the program can hold and that has a spelling
abbrev pub FitsRawEntry : PutEntry → Type 0
FitsRawEntry put = IsRawEntry put × IsSpelledRaw put
