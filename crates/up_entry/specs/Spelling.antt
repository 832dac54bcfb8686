-- The one spelling of an entry and of a record of a tree's log, in the fields of up_bytes. This project's own format.
use Rattle.std.specs.Prelude.{◌≡◌, ℕ, ℤ, ◌<◌, false, List, [], ◌++◌, length, Option, Some, None, Ok, IsSome, ⊤}
use Rattle.std.specs.List.{AllByRecursion}
use Rattle.up_bytes.specs.Num.{num}
use Rattle.up_bytes.specs.Spelling.{byte, int, text, raw, list, IsByte, IsU64, IsI64, IsText, IsList, HasLength}
use Rattle.up_names.specs.PathNames.{PathName, canonical, IsCanonical}
use Rattle.up_names.specs.UserNames.{user_of}
use Rattle.up_entry.specs.declared.entries.Block.{Block}
use Rattle.up_entry.specs.declared.entries.Endpoint.{Endpoint}
use Rattle.up_entry.specs.declared.entries.Endpoint.TheVariants.{Local, Address}
use Rattle.up_entry.specs.declared.entries.Entry.{Entry}
use Rattle.up_entry.specs.declared.entries.Kind.{Kind}
use Rattle.up_entry.specs.declared.entries.Kind.TheVariants.{File, Directory, Link}
use Rattle.up_entry.specs.declared.records.Rec.{Rec}
use Rattle.up_entry.specs.declared.records.Rec.TheVariants.{Put, Delete, Snap}
use Rattle.up_entry.specs.Attrs.{attr_byte}
use Rattle.up_entry.specs.ControlFiles.{is_control_file}

-- ---- how they are spelled

-- an endpoint: a text, empty for the host's own store
abbrev pub endpoint_text : Endpoint → List ℕ
endpoint_text Local = []
endpoint_text (Address address) = address

-- a block: endpoint, reference of 32 bytes, offset, size, packdata
unfoldable pub block : Block → List ℕ
block b =
    text (endpoint_text b.location.endpoint)
    ++ raw b.location.reference
    ++ num b.offset
    ++ num b.size
    ++ text b.packdata

-- the text of a link's target, empty where there is none
abbrev pub link_text : Option PathName → List ℕ
link_text None = []
link_text (Some target) = canonical target

-- what stands in front of an entry's link: name, signed name, packing, time, writer, attr
abbrev pub heading : List ℕ → List ℕ → ℕ → ℤ → List ℕ → ℕ → List ℕ
heading name signed_name packing time writer attr =
    text name
    ++ text signed_name
    ++ byte packing
    ++ int time
    ++ text writer
    ++ byte attr

-- an entry: that, and link, packdata, the list of blocks, sequence
unfoldable pub entry : Entry → List ℕ
entry e =
    heading (canonical e.name) (canonical e.signed_name) e.packing e.time e.writer (attr_byte e.attr)
    ++ text (link_text e.link)
    ++ text e.packdata
    ++ list block e.blocks
    ++ num e.sequence

-- a record: 01 and an entry with the text of a control file, 02 and a path, or 03 and a time
abbrev pub rec_tag : Rec → ℕ
rec_tag (Put e control) = 1
rec_tag (Delete path) = 2
rec_tag (Snap time) = 3

-- the fields of a record, after its tag
abbrev pub rec_fields : Rec → List ℕ
rec_fields (Put e control) = entry e ++ text control
rec_fields (Delete path) = text (canonical path)
rec_fields (Snap time) = num time

-- the bytes of a record: its tag and its fields
abbrev pub rec : Rec → List ℕ
rec r = byte (rec_tag r) ++ rec_fields r

-- ---- what each value of the program is, by its types

-- a block as the program can hold it
pub record IsBlock (b : Block) : Type 0 where
  pub endpoint : IsText (endpoint_text b.location.endpoint)
  pub reference : HasLength 32 b.location.reference
  pub offset : IsU64 b.offset
  pub size : IsU64 b.size
  pub packdata : IsText b.packdata

-- a target, where there is one, is a canonical path
abbrev pub IsTarget : Option PathName → Type 0
IsTarget None = ⊤
IsTarget (Some target) = IsCanonical target

-- an entry as the program can hold it
pub record IsEntry (e : Entry) : Type 0 where
  pub name : IsCanonical e.name
  pub signed_name : IsCanonical e.signed_name
  pub packing : IsByte e.packing
  pub time : IsI64 e.time
  pub writer : user_of e.writer ≡ Ok e.writer
  pub link : IsTarget e.link
  pub packdata : IsText e.packdata
  pub blocks : IsList IsBlock e.blocks
  pub sequence : IsU64 e.sequence

-- a record as the program can hold it
abbrev pub IsRec : Rec → Type 0
IsRec (Put e control) = IsEntry e × IsText control
IsRec (Delete path) = IsCanonical path
IsRec (Snap time) = IsU64 time

-- ---- which of them have a spelling

-- the address of a store is not empty
abbrev pub HasAddress : Endpoint → Type 0
HasAddress Local = ⊤
HasAddress (Address address) = 0 < length address

-- a link has a target, an entry of another kind has none
abbrev pub HasItsLink : Kind → Option PathName → Type 0
HasItsLink Link target = IsSome target
HasItsLink File target = target ≡ None
HasItsLink Directory target = target ≡ None

-- an entry has a spelling: a link has a target and another kind has none, and no block has an empty address
pub record IsSpelled (e : Entry) : Type 0 where
  pub link : HasItsLink e.attr.kind e.link
  pub addresses : AllByRecursion (λ b. HasAddress b.location.endpoint) e.blocks

-- an entry in a log is whole, and one that is no control file has the empty text beside it
abbrev pub IsSpelledRec : Rec → Type 0
IsSpelledRec (Put e control) = IsSpelled e × (e.attr.incomplete ≡ false) × (is_control_file e.attr.kind e.name ≡ false → control ≡ [])
IsSpelledRec (Delete path) = ⊤
IsSpelledRec (Snap time) = ⊤

-- ---- the values that have a spelling

-- the canonical name of a user
abbrev pub FitsUser : List ℕ → Type 0
FitsUser user = user_of user ≡ Ok user

-- an endpoint whose address, where it has one, is a text that is not empty
abbrev pub FitsEndpoint : Endpoint → Type 0
FitsEndpoint endpoint = IsText (endpoint_text endpoint) × HasAddress endpoint

-- a block that the program can hold and that has a spelling
abbrev pub FitsBlock : Block → Type 0
FitsBlock b = IsBlock b × HasAddress b.location.endpoint

-- fewer than 2 ^ 64 blocks, each with a spelling
abbrev pub FitsBlocks : List Block → Type 0
FitsBlocks = IsList FitsBlock

-- an entry that the program can hold and that has a spelling
abbrev pub FitsEntry : Entry → Type 0
FitsEntry e = IsEntry e × IsSpelled e

-- an entry that fits, without the incomplete mark
abbrev pub FitsWhole : Entry → Type 0
FitsWhole e = FitsEntry e × (e.attr.incomplete ≡ false)

-- a record that the program can hold and that has a spelling
abbrev pub FitsRec : Rec → Type 0
FitsRec r = IsRec r × IsSpelledRec r
