-- The single rules of an entry, each of what it looks at alone (Upspin overview and access control document; the limits and
-- a control file's packing are this project's own).
use Rattle.std.specs.Prelude.{ℕ, ◌+◌, Bool, true, false, not, ◌&&◌, ◌||◌, ◌==◌, nat_le, nat_lt, if◌then◌else◌, List, [], ◌∷◌, length, map}
use Rattle.std.specs.Prelude.{Option, Some, None}
use Rattle.std.specs.List.{list_all, sum}
use Rattle.up_names.specs.PathNames.{PathName}
use Rattle.up_names.specs.declared.paths.Control.{Control}
use Rattle.up_names.specs.declared.paths.Control.TheVariants.{Ordinary, Access, Group}
use Rattle.up_entry.specs.declared.entries.Attr.{Attr}
use Rattle.up_entry.specs.declared.entries.Block.{Block}
use Rattle.up_entry.specs.declared.entries.Endpoint.{Endpoint}
use Rattle.up_entry.specs.declared.entries.Endpoint.TheVariants.{Local, Address}
use Rattle.up_entry.specs.declared.entries.Kind.{Kind}
use Rattle.up_entry.specs.declared.entries.Kind.TheVariants.{File, Directory, Link}
use Rattle.up_entry.specs.ControlFiles.{is_control_file}

-- a directory, a link and a control file are plain; attributes that are none ask for nothing
abbrev pub is_plain_only : Option Attr → PathName → Bool
is_plain_only None path = false
is_plain_only (Some attr) path = elim (attr.kind) [
  | File ↦ is_control_file File path
  | Directory ↦ true
  | Link ↦ true
]

-- packing 1 is plain, 2 to 255 are opaque, 0 is refused
abbrev pub packing_fits : Option Attr → PathName → ℕ → Bool
packing_fits attr path packing = if is_plain_only attr path then packing == 1 else not (packing == 0)

-- the address of a store has 1 to 255 bytes from 0x21 to 0x7E
unfoldable pub is_address : List ℕ → Bool
is_address address = nat_le 1 (length address) && nat_le (length address) 255 && list_all (λ b. nat_le 0x21 b && nat_le b 0x7E) address

-- an endpoint may be that of a block: the host's own store, or a store at an address
abbrev pub endpoint_fits : Endpoint → Bool
endpoint_fits Local = true
endpoint_fits (Address address) = is_address address

-- a block has 1 to 1,048,576 bytes, and its store an address
unfoldable pub block_fits : Block → Bool
block_fits block = nat_le 1 block.size && nat_le block.size 1048576 && endpoint_fits block.location.endpoint

-- each block begins where the one before it ends, the first at this place; ends are exact, also past 2 ^ 64
abbrev pub are_joined : ℕ → List Block → Bool
are_joined place [] = true
are_joined place (block ∷ blocks) = block.offset == place && are_joined (place + block.size) blocks

-- a directory or a link has none; a file's blocks fit, and are joined from 0 on
abbrev pub blocks_fit : Kind → List Block → Bool
blocks_fit File blocks = list_all block_fits blocks && are_joined 0 blocks
blocks_fit Directory blocks = length blocks == 0
blocks_fit Link blocks = length blocks == 0

-- a directory or a link has none
abbrev pub packdata_fits : Kind → List ℕ → Bool
packdata_fits File packdata = true
packdata_fits Directory packdata = length packdata == 0
packdata_fits Link packdata = length packdata == 0

-- whether an entry is a directory
abbrev pub is_directory : Kind → Bool
is_directory File = false
is_directory Directory = true
is_directory Link = false

-- at a root stands a directory
abbrev pub root_fits : Kind → PathName → Bool
root_fits kind path = is_directory kind || nat_lt 0 (length path.elements)

-- at an Access path stands a file, at a Group path a file or a directory
abbrev pub control_fits : Kind → Control → Bool
control_fits File control = true
control_fits Directory Ordinary = true
control_fits Directory Access = false
control_fits Directory Group = true
control_fits Link Ordinary = true
control_fits Link Access = false
control_fits Link Group = false

-- the blocks of a control file have at most 32,768 bytes
abbrev pub control_size_fits : Kind → PathName → List Block → Bool
control_size_fits kind path blocks = not (is_control_file kind path) || nat_le (sum (map (λ block. block.size) blocks)) 32768
