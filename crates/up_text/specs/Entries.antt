-- How an entry, its blocks and lists of endpoints are told in words. This project's own.
use Rattle.std.specs.Prelude.{Bool, true, false, if◌then◌else◌, List, [], ◌∷◌, ◌++◌, codes, decimal}
use Rattle.std.specs.Fmt.{signed_decimal}
use Rattle.std.specs.List.{join_by}
use Rattle.up_names.specs.PathNames.{canonical}
use Rattle.up_names.specs.PathOrder.{path_eq}
use Rattle.up_names.specs.Texts.{Text}
use Rattle.up_entry.specs.declared.entries.Attr.{Attr}
use Rattle.up_entry.specs.declared.entries.Block.{Block}
use Rattle.up_entry.specs.declared.entries.Endpoint.{Endpoint}
use Rattle.up_entry.specs.declared.entries.Endpoint.TheVariants.{Local, Address}
use Rattle.up_entry.specs.declared.entries.Entry.{Entry}
use Rattle.up_entry.specs.declared.entries.Kind.{Kind}
use Rattle.up_entry.specs.declared.entries.Kind.TheVariants.{File, Directory, Link}
use Rattle.up_entry.specs.Spelling.{link_text}
use Rattle.up_refs.specs.References.{text_of}
use Rattle.up_text.specs.Words.{coded, field}

-- ---- blocks

-- the host's own store is `-`
abbrev pub store_field : Endpoint → Text
store_field Local = codes "-"
store_field (Address address) = field address

-- `REF:OFFSET:SIZE:ADDRESS:PACKDATA`
unfoldable pub block_word : Block → Text
block_word b =
    join_by (λ part. part) (codes ":") (
    text_of b.location.reference
    ∷ decimal b.offset
    ∷ decimal b.size
    ∷ store_field b.location.endpoint
    ∷ field b.packdata
    ∷ []
    )

-- BLOCKS: blocks joined by commas, `-` for none
unfoldable pub blocks_word : List Block → Text
blocks_word [] = codes "-"
blocks_word (first ∷ more) = join_by (λ b. block_word b) (codes ",") (first ∷ more)

-- ---- endpoints

-- an endpoint as it stands in a list: `local`, or its address coded
unfoldable pub endpoint_word : Endpoint → Text
endpoint_word Local = codes "local"
endpoint_word (Address address) = field address

-- endpoints joined by commas, `-` for none
unfoldable pub endpoints_word : List Endpoint → Text
endpoints_word [] = codes "-"
endpoints_word (first ∷ more) = join_by (λ endpoint. endpoint_word endpoint) (codes ",") (first ∷ more)

-- ---- entries

-- the word of a kind, with `?` after it where the incomplete mark is set
abbrev pub mark : Bool → Text
mark true = codes "?"
mark false = []

-- the word of a kind
abbrev pub plain_kind : Kind → Text
plain_kind File = codes "file"
plain_kind Directory = codes "dir"
plain_kind Link = codes "link"

-- the word of a kind, with `?` after it where the incomplete mark is set
unfoldable pub kind_word : Attr → Text
kind_word attr = plain_kind attr.kind ++ mark attr.incomplete

-- the signed name: `=` where it is the name
unfoldable pub signed_word : Entry → Text
signed_word e = if path_eq e.signed_name e.name then codes "=" else coded (canonical e.signed_name)

-- ENTRY: NAME KIND SEQUENCE TIME WRITER PACKING PACKDATA LINK SIGNED BLOCKS
unfoldable pub entry_words : Entry → List Text
entry_words e =
    coded (canonical e.name)
    ∷ kind_word e.attr
    ∷ decimal e.sequence
    ∷ signed_decimal e.time
    ∷ coded e.writer
    ∷ decimal e.packing
    ∷ coded e.packdata
    ∷ coded (link_text e.link)
    ∷ signed_word e
    ∷ blocks_word e.blocks
    ∷ []
