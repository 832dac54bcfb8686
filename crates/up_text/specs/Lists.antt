-- Words that are lists: the blocks of a file, and endpoints. This project's own. A list is cut at its commas, and a block at
-- its colons, before anything in it is decoded; a word `-` is the empty list.
use Rattle.std.specs.Prelude.{ℕ, ◌+◌, ◌^◌, Bool, ◌==◌, nat_lt, if◌then◌else◌, List, [], ◌∷◌, ◌++◌, length}
use Rattle.std.specs.Prelude.{Option, Some, None, option_map, codes, bytes_eq}
use Rattle.std.specs.List.{after_first, before_first, slice_split}
use Rattle.std.specs.Option.{option_and_then}
use Rattle.up_names.specs.Texts.{Text}
use Rattle.up_entry.specs.declared.entries.Block.{Block}
use Rattle.up_entry.specs.declared.entries.Endpoint.{Endpoint}
use Rattle.up_entry.specs.declared.entries.Endpoint.TheVariants.{Local, Address}
use Rattle.up_refs.specs.References.{reference_in}
use Rattle.up_text.specs.Numbers.{num_of}
use Rattle.up_text.specs.Words.{decoded}

infixl 10 ◌>>=◌
-- what a text stands for, and then what is made of that
abbrev pub ◌>>=◌ : {A B : Type 0} → Option A → (A → Option B) → Option B
found >>= next = option_and_then next found

-- a comma parts two things of a list
abbrev pub is_comma : ℕ → Bool
is_comma b = b == 44

-- a colon parts two fields of a block
abbrev pub is_colon : ℕ → Bool
is_colon b = b == 58

-- whether a word is the empty list
abbrev pub is_no_list : Text → Bool
is_no_list word = bytes_eq word (codes "-")

-- ---- the blocks of a file

-- `REF:SIZE`: what stands in front of the first colon is a reference of 64 upper-case hexadecimal digits, and what stands after
-- it a number
unfoldable pub sized_block : Text → Option (List ℕ × ℕ)
sized_block piece = do
  reference ← reference_in (before_first is_colon piece)
  size ← num_of (after_first is_colon piece)
  Some (reference, size)

-- a block of the host's own store
abbrev pub local_block : ℕ → List ℕ × ℕ → Block
local_block offset sized = record {
  location = record { endpoint = Local; reference = sized.0 };
  offset = offset;
  size = sized.1;
  packdata = [];
}

-- the block that a piece of a list is, at an offset
unfoldable pub block_at : Option ℕ → Text → Option Block
block_at offset piece = do
  begin ← offset
  sized ← sized_block piece
  Some (local_block begin sized)

-- the offset after a block: none where it does not fit a u64
abbrev pub offset_behind : Block → Option ℕ
offset_behind b = if nat_lt (b.offset + b.size) (2 ^ 64) then Some (b.offset + b.size) else None

-- blocks with this one after them, and the offset after it
abbrev pub with_block : List Block → Block → List Block × Option ℕ
with_block blocks b = (blocks ++ b ∷ [], offset_behind b)

-- blocks from an offset on, each where the one before it ends
unfoldable pub blocks_from : Option ℕ → List Text → Option (List Block)
blocks_from offset [] = Some []
blocks_from offset (piece ∷ more) = do
  first ← block_at offset piece
  others ← blocks_from (offset_behind first) more
  Some (first ∷ others)

-- BLOCKS: `-`, or blocks joined by commas, the first at offset 0
unfoldable pub blocks_named : Text → Option (List Block)
blocks_named word = if is_no_list word then Some [] else blocks_from (Some 0) (slice_split is_comma word)

-- ---- endpoints

-- what an address of a list stands for: nothing at all and `-` for no bytes
unfoldable pub address_named : Text → Option Text
address_named piece = if length piece == 0 then Some [] else decoded piece

-- an endpoint of a list: `local`, or an address
unfoldable pub endpoint_named : Text → Option Endpoint
endpoint_named piece =
    if bytes_eq piece (codes "local") then Some Local
    else option_map (λ address. Address address) (address_named piece)

-- the endpoints that the pieces of a list stand for, where each stands for one
unfoldable pub all_endpoints : List Text → Option (List Endpoint)
all_endpoints [] = Some []
all_endpoints (piece ∷ more) = do
  endpoint ← endpoint_named piece
  others ← all_endpoints more
  Some (endpoint ∷ others)

-- a list of endpoints: `-`, or endpoints joined by commas; nothing at all is no word
unfoldable pub endpoints_named : Text → Option (List Endpoint)
endpoints_named word =
    if length word == 0 then None
    else if is_no_list word then Some []
    else all_endpoints (slice_split is_comma word)
