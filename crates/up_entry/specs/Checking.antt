-- The rules of an entry that is handed to Put, in their order (Upspin overview and access control document; the order,
-- the limits, a control file's packing and the session's user as the only writer are this project's own).
use Rattle.std.specs.Prelude.{◌≡◌, ◌≢◌, ℕ, negsuc, int_le, ◌≤ℤ◌, Bool, false, ◌==◌, if◌then◌else◌, List, [], length, Option, Some, None}
use Rattle.std.specs.Prelude.{Result, Ok, Err, ⊤}
use Rattle.std.specs.Str.{bytes_eq}
use Rattle.up_names.specs.PathNames.{PathName, control_of, path_of}
use Rattle.up_names.specs.PathOrder.{path_eq}
use Rattle.up_names.specs.UserNames.{user_of}
use Rattle.up_entry.specs.declared.entries.Attr.{Attr}
use Rattle.up_entry.specs.declared.entries.Kind.{Kind}
use Rattle.up_entry.specs.declared.entries.Kind.TheVariants.{File, Directory, Link}
use Rattle.up_entry.specs.declared.puts.Checked.{Checked}
use Rattle.up_entry.specs.declared.puts.PutEntry.{PutEntry}
use Rattle.up_entry.specs.declared.fault.EntryFault.{EntryFault}
use Rattle.up_entry.specs.declared.fault.EntryFault.TheVariants.{Invalid, OutOfMemory}
use Rattle.up_entry.specs.declared.what.What.{What}
use Rattle.up_entry.specs.declared.what.What.TheVariants as what
use Rattle.up_entry.specs.Attrs.{attr_of}
use Rattle.up_entry.specs.FixedForm.{HasFixedForm}
use Rattle.up_entry.specs.Rules.{blocks_fit, control_fits, control_size_fits, packdata_fits, packing_fits, root_fits}
use Rattle.up_entry.specs.Spelling.{IsSpelled}

-- The result, with its value seen by `view`, is exactly what is meant; want of memory alone is free.
abbrev pub Gives : {X Y : Type 0} → (X → Y) → Result X EntryFault → Result Y EntryFault → Type 0
Gives view (Ok x) meant = meant ≡ Ok (view x)
Gives view (Err fault) meant = fault ≢ OutOfMemory → meant ≡ Err fault

infixl 10 ◌>>=◌
-- one rule after another, up to the first that fails
abbrev pub ◌>>=◌ : {A B : Type 0} → Result A EntryFault → (A → Result B EntryFault) → Result B EntryFault
(Ok x) >>= f = f x
(Err e) >>= f = Err e

-- a rule that holds, or fails by this word
abbrev pub rule : What → Bool → Result ⊤ EntryFault
rule what holds = if holds then Ok tt else Err (Invalid what)

-- the path of a text that has to be a path text
abbrev pub path_or : What → List ℕ → Result PathName EntryFault
path_or what text = elim (path_of text) [
  | Ok path ↦ Ok path
  | Err fault ↦ Err (Invalid what)
]

-- the user of a text that has to be a user name
abbrev pub user_or : What → List ℕ → Result (List ℕ) EntryFault
user_or what text = elim (user_of text) [
  | Ok user ↦ Ok user
  | Err fault ↦ Err (Invalid what)
]

-- one of the three kinds, without the incomplete mark
abbrev pub whole_kind : Option Attr → Result Kind EntryFault
whole_kind None = Err (Invalid what.Attr)
whole_kind (Some attr) = if attr.incomplete then Err (Invalid what.Attr) else Ok attr.kind

-- the target of a link is a path text; an entry of another kind has the empty text
abbrev pub link_or : Kind → List ℕ → Result (Option PathName) EntryFault
link_or Link text = path_or what.Link text >>= λ target. Ok (Some target)
link_or File text = rule what.Link (length text == 0) >>= λ ok. Ok None
link_or Directory text = rule what.Link (length text == 0) >>= λ ok. Ok None

-- the signed name: a text of the same path as the name
unfoldable pub signed_name_of : PutEntry → PathName → Result PathName EntryFault
signed_name_of put name = do
  signed_name ← path_or what.SignedName put.signed_name
  same ← rule what.SignedName (path_eq signed_name name)
  Ok signed_name

-- the writer: this user
unfoldable pub writer_of : PutEntry → List ℕ → Result (List ℕ) EntryFault
writer_of put user = do
  writer ← user_or what.Writer put.writer
  own ← rule what.Writer (bytes_eq writer user)
  Ok writer

-- the kind, once the packing fits it
unfoldable pub kind_of : PutEntry → PathName → Result Kind EntryFault
kind_of put name = do
  packed ← rule what.Packing (packing_fits (attr_of put.attr) name put.packing)
  whole_kind (attr_of put.attr)

-- the rules of all else that an entry of this kind has, and of where it stands
unfoldable pub content_rules : PutEntry → Kind → PathName → Result ⊤ EntryFault
content_rules put kind name = do
  blocks ← rule what.Blocks (blocks_fit kind put.blocks)
  packdata ← rule what.Packdata (packdata_fits kind put.packdata)
  root ← rule what.Root (root_fits kind name)
  control ← rule what.Control (control_fits kind (control_of name))
  size ← rule what.ControlSize (control_size_fits kind name put.blocks)
  rule what.Sequence (int_le (negsuc 0) put.sequence)

-- the path, that of the signed name and the writer, by the first three rules
unfoldable pub names_of : PutEntry → List ℕ → Result (PathName × PathName × List ℕ) EntryFault
names_of put user = do
  name ← path_or what.Name put.name
  signed_name ← signed_name_of put name
  writer ← writer_of put user
  Ok (name, signed_name, writer)

-- the kind and the target, once all that is no name keeps its rules
unfoldable pub rest_of : PutEntry → PathName → Result (Kind × Option PathName) EntryFault
rest_of put name = do
  kind ← kind_of put name
  link ← link_or kind put.link
  content ← content_rules put kind name
  Ok (kind, link)

-- what was checked, of its parts
abbrev pub checked_of : PutEntry → PathName → PathName → List ℕ → Kind → Option PathName → Checked
checked_of put name signed_name writer kind link = record {
  entry = record {
    signed_name = signed_name;
    packing = put.packing;
    time = put.time;
    blocks = put.blocks;
    packdata = put.packdata;
    link = link;
    writer = writer;
    name = name;
    attr = record { kind = kind; incomplete = false };
    sequence = 0;
  };
  sequence = put.sequence;
}

-- The entry that was handed to Put by this user, or the first rule that it breaks.
unfoldable pub checked_as : PutEntry → List ℕ → Result Checked EntryFault
checked_as put user = do
  name ← path_or what.Name put.name
  signed_name ← signed_name_of put name
  writer ← writer_of put user
  kind ← kind_of put name
  link ← link_or kind put.link
  content ← content_rules put kind name
  Ok (checked_of put name signed_name writer kind link)

-- the text of this target, or the empty text where there is none
abbrev pub IsLinkText : List ℕ → Option PathName → Type 0
IsLinkText text None = text ≡ []
IsLinkText text (Some target) = path_of text ≡ Ok target

-- what a checked entry is, told by what this user handed to Put
pub record IsChecked (put : PutEntry) (user : List ℕ) (checked : Checked) : Type 0 where
  -- the entry has the form of each entry of a tree, and one that its format can spell
  pub form : HasFixedForm checked.entry
  pub spelled : IsSpelled checked.entry
  -- all of it but its sequence is what was handed in, under the path that the name is a text of
  pub name : path_of put.name ≡ Ok checked.entry.name
  pub writer : checked.entry.writer ≡ user
  pub attr : attr_of put.attr ≡ Some checked.entry.attr
  pub link : IsLinkText put.link checked.entry.link
  pub blocks : checked.entry.blocks ≡ put.blocks
  pub packdata : checked.entry.packdata ≡ put.packdata
  pub packing : checked.entry.packing ≡ put.packing
  pub time : checked.entry.time ≡ put.time
  -- its own sequence is given later; the one that was handed in is at least -1
  pub sequence : checked.entry.sequence ≡ 0
  pub given : checked.sequence ≡ put.sequence
  pub least : negsuc 0 ≤ℤ put.sequence
