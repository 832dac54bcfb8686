-- Worked examples of the rules of Put: they compute.
use Rattle.std.specs.Prelude.{◌≡◌, ◌∷◌, [], List, ℕ, pos, negsuc, codes, map, refl, false, Option, Some, None, Ok, Err}
use Rattle.std.specs.Str.{is_utf8, chars}
use lib.Utf8.{encode}
use Rattle.up_names.specs.UserNames.{user_of, without_final_period, is_local_part, is_suffix, is_domain, is_label}
use Rattle.up_names.specs.PathNames.{path_of, pieces_of, is_element, cleaned}
use Rattle.up_entry.specs.declared.entries.Block.{Block}
use Rattle.up_entry.specs.declared.entries.Endpoint.TheVariants.{Local, Address}
use Rattle.up_entry.specs.declared.entries.Kind.TheVariants.{File}
use Rattle.up_entry.specs.declared.puts.PutEntry.{PutEntry}
use Rattle.up_entry.specs.declared.fault.EntryFault.TheVariants.{Invalid, OutOfMemory}
use Rattle.up_entry.specs.declared.what.What.{What}
use Rattle.up_entry.specs.declared.what.What.TheVariants as what
use Rattle.up_entry.specs.Attrs.{attr_of}
use Rattle.up_entry.specs.Checking.{checked_as, signed_name_of, writer_of, kind_of, content_rules}
use Rattle.up_entry.specs.Rules.{is_address, block_fits}

abbrev user : List ℕ
user = codes "a@x.example"

-- an empty file
abbrev file : PutEntry
file = record {
  signed_name = codes "a@x.example/f";
  packing = 1;
  time = pos 100;
  blocks = [];
  packdata = [];
  link = [];
  writer = user;
  name = codes "a@x.example/f";
  attr = 0;
  sequence = pos 0;
}

-- the same entry at another path
abbrev at : List ℕ → PutEntry → PutEntry
at path put = record put { signed_name = path; name = path }

abbrev directory : PutEntry
directory = record file { attr = 1 }

abbrev link : PutEntry
link = record file { attr = 2; link = codes "a@x.example/g" }

abbrev access : PutEntry
access = at (codes "a@x.example/Access") file

abbrev block : ℕ → ℕ → Block
block offset size = record { location = record { endpoint = Local; reference = [] }; offset = offset; size = size; packdata = [] }

-- one byte in the store at an address
abbrev block_at : List ℕ → Block
block_at address = record { location = record { endpoint = Address address; reference = [] }; offset = 0; size = 1; packdata = [] }

-- the first rule that the entry breaks; none where it keeps all
abbrev broken : PutEntry → Option What
broken put = elim (checked_as put user) [
  | Ok checked ↦ None
  | Err (Invalid what) ↦ Some what
  | Err OutOfMemory ↦ None
]

-- each rule failing alone
abbrev alone : List (PutEntry × What)
alone =
    (record file { name = codes "a" }, what.Name)
    ∷ (record file { signed_name = codes "a" }, what.SignedName)
    ∷ (record file { signed_name = codes "a@x.example/g" }, what.SignedName)
    ∷ (record file { writer = codes "a" }, what.Writer)
    ∷ (record file { writer = codes "b@x.example" }, what.Writer)
    ∷ (record file { packing = 0 }, what.Packing)
    ∷ (record directory { packing = 2 }, what.Packing)
    ∷ (record link { packing = 2 }, what.Packing)
    ∷ (record access { packing = 2 }, what.Packing)
    ∷ (record file { attr = 3 }, what.Attr)
    ∷ (record file { attr = 4 }, what.Attr)
    ∷ (record file { attr = 7 }, what.Attr)
    ∷ (record file { link = codes "a@x.example/g" }, what.Link)
    ∷ (record link { link = [] }, what.Link)
    ∷ (record link { link = codes "g" }, what.Link)
    ∷ (record directory { blocks = block 0 1 ∷ [] }, what.Blocks)
    ∷ (record link { blocks = block 0 1 ∷ [] }, what.Blocks)
    ∷ (record file { blocks = block 0 0 ∷ [] }, what.Blocks)
    ∷ (record file { blocks = block 0 1048577 ∷ [] }, what.Blocks)
    ∷ (record file { blocks = block 1 1 ∷ [] }, what.Blocks)
    ∷ (record file { blocks = block 0 1 ∷ block 2 1 ∷ [] }, what.Blocks)
    ∷ (record file { blocks = block 0 2 ∷ block 1 1 ∷ [] }, what.Blocks)
    ∷ (record file { blocks = block_at [] ∷ [] }, what.Blocks)
    ∷ (record file { blocks = block_at (0x20 ∷ []) ∷ [] }, what.Blocks)
    ∷ (record file { blocks = block_at (0x7F ∷ []) ∷ [] }, what.Blocks)
    ∷ (record directory { packdata = 1 ∷ [] }, what.Packdata)
    ∷ (record link { packdata = 1 ∷ [] }, what.Packdata)
    ∷ (at (codes "a@x.example/") file, what.Root)
    ∷ (at (codes "a@x.example/") link, what.Root)
    ∷ (at (codes "a@x.example/Access") directory, what.Control)
    ∷ (at (codes "a@x.example/Access") link, what.Control)
    ∷ (at (codes "a@x.example/Group/g") link, what.Control)
    ∷ (record access { blocks = block 0 32769 ∷ [] }, what.ControlSize)
    ∷ (record file { sequence = negsuc 1 }, what.Sequence)
    ∷ []

alone_is : map (λ row. broken row.0) alone ≡ map (λ row. Some row.1) alone
unfolding checked_as signed_name_of writer_of kind_of content_rules attr_of is_address block_fits path_of pieces_of is_element cleaned user_of without_final_period is_local_part is_suffix is_domain is_label is_utf8 chars encode
alone_is = refl

-- two rules failing: the first in the order is told
abbrev pairs : List (PutEntry × What)
pairs =
    (record file { name = codes "a"; signed_name = codes "b" }, what.Name)
    ∷ (record file { signed_name = codes "a"; writer = codes "b" }, what.SignedName)
    ∷ (record file { writer = codes "b"; packing = 0 }, what.Writer)
    ∷ (record directory { attr = 5; packing = 2 }, what.Packing)
    ∷ (record file { attr = 3; packing = 0 }, what.Packing)
    ∷ (record file { attr = 3; link = codes "g" }, what.Attr)
    ∷ (record file { link = codes "g"; blocks = block 1 1 ∷ [] }, what.Link)
    ∷ (record directory { blocks = block 0 1 ∷ []; packdata = 1 ∷ [] }, what.Blocks)
    ∷ (at (codes "a@x.example/") (record link { packdata = 1 ∷ [] }), what.Packdata)
    ∷ (at (codes "a@x.example/") (record file { sequence = negsuc 1 }), what.Root)
    ∷ (at (codes "a@x.example/Access") (record directory { sequence = negsuc 1 }), what.Control)
    ∷ (record access { blocks = block 0 32769 ∷ []; sequence = negsuc 1 }, what.ControlSize)
    ∷ []

pairs_are : map (λ row. broken row.0) pairs ≡ map (λ row. Some row.1) pairs
unfolding checked_as signed_name_of writer_of kind_of content_rules attr_of is_address block_fits path_of pieces_of is_element cleaned user_of without_final_period is_local_part is_suffix is_domain is_label is_utf8 chars encode
pairs_are = refl

-- entries that keep all rules
abbrev kept : List PutEntry
kept =
    file
    ∷ record file { blocks = block 0 1048576 ∷ block 1048576 1 ∷ [] }
    ∷ record file { blocks = block_at (0x21 ∷ 0x7E ∷ []) ∷ [] }
    ∷ record file { packing = 255; packdata = 1 ∷ [] }
    ∷ record file { time = negsuc 0; sequence = negsuc 0 }
    ∷ record file { signed_name = codes "a@X.example.//f"; writer = codes "a@X.example." }
    ∷ directory
    ∷ at (codes "a@x.example/") directory
    ∷ at (codes "a@x.example/Group/g") directory
    ∷ link
    ∷ record access { blocks = block 0 32767 ∷ block 32767 1 ∷ [] }
    ∷ at (codes "a@x.example/Group/g") file
    ∷ []

kept_are : map broken kept ≡ map (λ put. None) kept
unfolding checked_as signed_name_of writer_of kind_of content_rules attr_of is_address block_fits path_of pieces_of is_element cleaned user_of without_final_period is_local_part is_suffix is_domain is_label is_utf8 chars encode
kept_are = refl

-- the checked entry has what was handed in, in canonical form, and the sequence 0; beside it stands the sequence that was handed in
file_kept : checked_as (record file { signed_name = codes "a@X.example.//f"; sequence = pos 7 }) user ≡ Ok (record {
  entry = record {
    signed_name = record { owner = user; elements = codes "f" ∷ [] };
    packing = 1;
    time = pos 100;
    blocks = [];
    packdata = [];
    link = None;
    writer = user;
    name = record { owner = user; elements = codes "f" ∷ [] };
    attr = record { kind = File; incomplete = false };
    sequence = 0;
  };
  sequence = pos 7;
})
unfolding checked_as signed_name_of writer_of kind_of content_rules attr_of is_address block_fits path_of pieces_of is_element cleaned user_of without_final_period is_local_part is_suffix is_domain is_label is_utf8 chars encode
file_kept = refl
