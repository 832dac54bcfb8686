-- Reading an entry or a record, field by field: its value and what is left after it, or the first fault. A field that
-- the input ends within is Short. A field whose bytes are no spelling of a value that may stand there is Spelling, with
-- the field's place.
use Rattle.std.specs.Prelude.{ℕ, Bool, false, not, ◌&&◌, ◌||◌, ◌==◌, if◌then◌else◌, List, [], ◌∷◌, length, Option, Some, None, option_map}
use Rattle.std.specs.Prelude.{Result, Ok, Err}
use Rattle.std.specs.Str.{bytes_eq}
use Rattle.up_bytes.specs.declared.fault.FieldFault.{FieldFault}
use Rattle.up_bytes.specs.Input.{Input, place}
use Rattle.up_bytes.specs.Reading.{◌>>=◌, byte_at, bytes_at, num_at, int_at, text_at, list_at, known, made_of, tagged_at, whole_of}
use Rattle.up_names.specs.PathNames.{PathName, canonical, path_of}
use Rattle.up_names.specs.UserNames.{user_of}
use Rattle.up_entry.specs.declared.entries.Attr.{Attr}
use Rattle.up_entry.specs.declared.entries.Block.{Block}
use Rattle.up_entry.specs.declared.entries.Endpoint.{Endpoint}
use Rattle.up_entry.specs.declared.entries.Endpoint.TheVariants.{Local, Address}
use Rattle.up_entry.specs.declared.entries.Entry.{Entry}
use Rattle.up_entry.specs.declared.entries.Kind.{Kind}
use Rattle.up_entry.specs.declared.entries.Kind.TheVariants.{File, Directory, Link}
use Rattle.up_entry.specs.declared.reading.Heading.{Heading}
use Rattle.up_entry.specs.declared.records.Rec.{Rec}
use Rattle.up_entry.specs.declared.records.Rec.TheVariants.{Put, Delete, Snap}
use Rattle.up_entry.specs.Attrs.{attr_of}
use Rattle.up_entry.specs.ControlFiles.{is_control_file}

-- the path that has this canonical text
unfoldable pub canonical_path : List ℕ → Option PathName
canonical_path text = elim (path_of text) [
  | Ok path ↦ if bytes_eq (canonical path) text then Some path else None
  | Err fault ↦ None
]

-- the user that has this canonical name
unfoldable pub canonical_user : List ℕ → Option (List ℕ)
canonical_user text = elim (user_of text) [
  | Ok user ↦ if bytes_eq user text then Some user else None
  | Err fault ↦ None
]

-- a path: a canonical text
unfoldable pub path_at : Input → Result (PathName × Input) FieldFault
path_at input = do
  text ← text_at input
  known (place input) (canonical_path text.0) text.1

-- a user: a canonical name
unfoldable pub user_at : Input → Result (List ℕ × Input) FieldFault
user_at input = do
  text ← text_at input
  known (place input) (canonical_user text.0) text.1

-- the attributes of a byte; with the mark only where marks may stand
abbrev pub attr_in : Bool → ℕ → Option Attr
attr_in marks byte = elim (attr_of byte) [
  | Some attr ↦ if attr.incomplete && not marks then None else Some attr
  | None ↦ None
]

-- the attributes of an entry: one byte
unfoldable pub attr_at : Bool → Input → Result (Attr × Input) FieldFault
attr_at marks input = do
  found ← byte_at input
  known (place input) (attr_in marks found.0) found.1

-- the target of an entry of this kind: a link has one, and another kind has the empty text
abbrev pub link_in : Kind → List ℕ → Option (Option PathName)
link_in Link text = option_map (λ target. Some target) (canonical_path text)
link_in File text = if length text == 0 then Some None else None
link_in Directory text = if length text == 0 then Some None else None

-- the target of an entry of this kind: a text
unfoldable pub link_at : Kind → Input → Result (Option PathName × Input) FieldFault
link_at kind input = do
  text ← text_at input
  known (place input) (link_in kind text.0) text.1

-- the host's own store for the empty text, else the store at that address
abbrev pub endpoint_in : List ℕ → Endpoint
endpoint_in address = if length address == 0 then Local else Address address

-- an endpoint: a text
unfoldable pub endpoint_at : Input → Result (Endpoint × Input) FieldFault
endpoint_at input = do
  address ← text_at input
  Ok (endpoint_in address.0, address.1)

-- a block: its endpoint, its reference, its offset, its size and its packdata
unfoldable pub block_at : Input → Result (Block × Input) FieldFault
block_at input = do
  endpoint ← endpoint_at input
  reference ← bytes_at 32 endpoint.1
  offset ← num_at reference.1
  size ← num_at offset.1
  packdata ← text_at size.1
  Ok (
    record {
      location = record { endpoint = endpoint.0; reference = reference.0 };
      offset = offset.0;
      size = size.0;
      packdata = packdata.0;
    },
    packdata.1,
  )

-- blocks: their number, and each of them
abbrev pub blocks_at : Input → Result (List Block × Input) FieldFault
blocks_at = list_at block_at

-- what stands in front of an entry's link; with the incomplete mark only where marks may stand
unfoldable pub heading_at : Bool → Input → Result (Heading × Input) FieldFault
heading_at marks input = do
  name ← path_at input
  signed_name ← path_at name.1
  packing ← byte_at signed_name.1
  time ← int_at packing.1
  writer ← user_at time.1
  attr ← attr_at marks writer.1
  Ok (
    record {
      name = name.0;
      signed_name = signed_name.0;
      packing = packing.0;
      time = time.0;
      writer = writer.0;
      attr = attr.0;
    },
    attr.1,
  )

-- an entry; with the incomplete mark only where marks may stand
unfoldable pub entry_at : Bool → Input → Result (Entry × Input) FieldFault
entry_at marks input = do
  heading ← heading_at marks input
  link ← link_at heading.0.attr.kind heading.1
  packdata ← text_at link.1
  blocks ← blocks_at packdata.1
  sequence ← num_at blocks.1
  Ok (
    record {
      name = heading.0.name;
      signed_name = heading.0.signed_name;
      packing = heading.0.packing;
      time = heading.0.time;
      writer = heading.0.writer;
      attr = heading.0.attr;
      link = link.0;
      packdata = packdata.0;
      blocks = blocks.0;
      sequence = sequence.0;
    },
    sequence.1,
  )

-- the text kept beside an entry: any for a control file, else the empty one
unfoldable pub control_text_at : Entry → Input → Result (List ℕ × Input) FieldFault
control_text_at entry input = do
  text ← text_at input
  known (place input) (if is_control_file entry.attr.kind entry.name || length text.0 == 0 then Some text.0 else None) text.1

-- a record of a put: an entry without the mark, and the text kept beside it
unfoldable pub put_at : Input → Result (Rec × Input) FieldFault
put_at input = do
  entry ← entry_at false input
  control ← control_text_at entry.0 entry.1
  Ok (Put entry.0 control.0, control.1)

-- the fields after each tag
abbrev pub rec_table : List (ℕ × (Input → Result (Rec × Input) FieldFault))
rec_table =
    (1, put_at)
    ∷ (2, made_of (λ path. Delete path) path_at)
    ∷ (3, made_of (λ time. Snap time) num_at)
    ∷ []

-- a record is read by its tag
abbrev pub rec_at : Input → Result (Rec × Input) FieldFault
rec_at = tagged_at rec_table

-- the record that is the whole of these bytes
abbrev pub rec_of : List ℕ → Result Rec FieldFault
rec_of = whole_of rec_at
