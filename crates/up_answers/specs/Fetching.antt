-- The blocks that are fetched for a Put of a control file, and its text (this project's own).
use Rattle.std.specs.Prelude.{◌==◌, Bool, true, false, not, ◌&&◌, if◌then◌else◌, List, [], ◌∷◌, ◌++◌, length, Option, Some, None, Result}
use Rattle.std.specs.Prelude as std
use Rattle.std.specs.List.{list_any}
use Rattle.std.specs.Map.{lookup}
use Rattle.std.specs.Str.{bytes_eq}
use Rattle.up_names.specs.declared.fault.TextFault.{TextFault}
use Rattle.up_names.specs.declared.fault.TextFault.TheVariants as fault
use Rattle.up_names.specs.declared.paths.Control.{Control}
use Rattle.up_names.specs.declared.paths.Control.TheVariants as control
use Rattle.up_names.specs.Texts.{Text, UserName}
use Rattle.up_names.specs.PathNames.{control_of}
use Rattle.up_access.specs.AccessTexts.{access_of}
use Rattle.up_group.specs.GroupTexts.{group_of}
use Rattle.up_entry.specs.declared.entries.Block.{Block}
use Rattle.up_entry.specs.declared.entries.Endpoint.{Endpoint}
use Rattle.up_entry.specs.declared.entries.Endpoint.TheVariants.{Local, Address}
use Rattle.up_entry.specs.declared.entries.Entry.{Entry}
use Rattle.up_entry.specs.declared.entries.Location.{Location}
use Rattle.up_entry.specs.declared.fetch.Fetch.{Fetch}
use Rattle.up_entry.specs.declared.fetch.Fetch.TheVariants.{Got, Missing, Failed}
use Rattle.up_entry.specs.ControlFiles.{is_control_file}
use Rattle.up_wire.specs.declared.replies.Reply.{Reply}
use Rattle.up_wire.specs.declared.replies.Reply.TheVariants as reply
use Rattle.up_list.specs.Changes.{◌>>=◌}
use Rattle.sha2.specs.Sha256.{sha256}

-- what was fetched: locations of blocks, each with the answer
abbrev pub Fetched : Type 0
Fetched = List (Location × Fetch)

-- two endpoints are the same: both the host's own store, or the same address
abbrev pub endpoint_eq : Endpoint → Endpoint → Bool
endpoint_eq Local Local = true
endpoint_eq Local (Address b) = false
endpoint_eq (Address a) Local = false
endpoint_eq (Address a) (Address b) = bytes_eq a b

-- two locations are the same: reference and endpoint are
abbrev pub location_eq : Location → Location → Bool
location_eq a b = bytes_eq a.reference b.reference && endpoint_eq a.endpoint b.endpoint

-- the answer for a block: that of its location
abbrev pub fetch_for : Fetched → Block → Option Fetch
fetch_for fetched block = lookup (location_eq block.location) fetched

-- whether a fetch failed; one that found nothing, or was not made, did not
abbrev pub is_failed : Option Fetch → Bool
is_failed None = false
is_failed (Some Failed) = true
is_failed (Some Missing) = false
is_failed (Some (Got bytes)) = false

-- the block's bytes, where bytes of its size and its reference were fetched (FIPS 180-4)
abbrev pub good_bytes : Block → Option Fetch → Option Text
good_bytes block None = None
good_bytes block (Some (Got bytes)) =
    if length bytes == block.size && bytes_eq (sha256 bytes) block.location.reference then Some bytes else None
good_bytes block (Some Missing) = None
good_bytes block (Some Failed) = None

-- the bytes of all blocks, joined; or BadBlock of the first that has no good bytes
abbrev pub joined_bytes : Fetched → List Block → Result Text Reply
joined_bytes fetched [] = std.Ok []
joined_bytes fetched (block ∷ blocks) = elim (good_bytes block (fetch_for fetched block)) [
  | None ↦ std.Err (reply.BadBlock block.location.reference)
  | Some bytes ↦ joined_bytes fetched blocks >>= λ more. std.Ok (bytes ++ more)
]

-- a text that parses; or BadText of its first bad line
abbrev pub parsed : {X : Type 0} → Text → Result X TextFault → Result Text Reply
parsed text (std.Ok said) = std.Ok text
parsed text (std.Err (fault.BadText line)) = std.Err (reply.BadText line)
parsed text (std.Err fault.OutOfMemory) = std.Err reply.OutOfMemory

-- the text of a control file, where it parses as its kind; or the reply that names its first bad line
abbrev pub parsed_as : UserName → Control → Text → Result Text Reply
parsed_as owner control.Access text = parsed text (access_of owner text)
parsed_as owner control.Group text = parsed text (group_of owner text)
parsed_as owner control.Ordinary text = std.Ok text

-- The text that is kept with an entry. Of a control file: Io where the fetch of one of its blocks failed; BadBlock of the first
-- block that is not as the entry says; BadText where the joined bytes do not parse; else the joined bytes. Any other text is empty.
unfoldable pub text_put : UserName → Fetched → Entry → Result Text Reply
text_put owner fetched entry =
    if not (is_control_file entry.attr.kind entry.name) then std.Ok []
    else if list_any (λ block. is_failed (fetch_for fetched block)) entry.blocks then std.Err reply.Io
    else (joined_bytes fetched entry.blocks >>= parsed_as owner (control_of entry.name))
