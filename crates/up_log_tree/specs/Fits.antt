-- Which record fits a log as its next one. This project's own.
use Rattle.std.specs.Prelude.{◌≡◌, ◌≢◌, ℕ, Bool, true, false, not, ◌&&◌, ◌==◌, ◌+◌, ◌≤◌, nat_lt, nat_le, ⊤, List, [], ◌∷◌, ◌++◌, length}
use Rattle.std.specs.Prelude.{take, codes, slice_get, Contains, Option, Some, None, is_none, is_some, IsSome, MatchOption, Ok, is_ok}
use Rattle.std.specs.List.{list_any}
use Rattle.std.specs.Str.{byte, bytes_eq}
use Rattle.up_names.specs.Texts.{Text, UserName}
use Rattle.up_names.specs.PathNames.{PathName, control_of, parent_of}
use Rattle.up_names.specs.UserNames.{domain_part, name_part, suffix_of}
use Rattle.up_names.specs.declared.items.Item.{Item}
use Rattle.up_names.specs.declared.paths.Control.{Control}
use Rattle.up_names.specs.declared.paths.Control.TheVariants.{Ordinary, Access, Group}
use Rattle.up_access.specs.AccessTexts.{access_of}
use Rattle.up_access.specs.declared.Rule.{Rule}
use Rattle.up_ends.specs.Moments.{IsMoment, is_moment}
use Rattle.up_group.specs.GroupTexts.{group_of}
use Rattle.up_entry.specs.FixedForm.{HasFixedForm, has_fixed_form}
use Rattle.up_entry.specs.Rules.{is_directory}
use Rattle.up_entry.specs.declared.entries.Entry.{Entry}
use Rattle.up_entry.specs.declared.entries.Kind.{Kind}
use Rattle.up_entry.specs.declared.entries.Kind.TheVariants.{File, Directory, Link}
use Rattle.up_entry.specs.declared.records.Rec.{Rec}
use Rattle.up_entry.specs.declared.records.Rec.TheVariants.{Put, Delete, Snap}
use Rattle.up_policy.specs.Trees.{owns_snapshots}
use Rattle.up_log_tree.specs.Trees.{Tree, Node, node_at, kind_of, is_file, children, tree_of}

-- ---- the rules, one a field

-- a directory stands at a path
abbrev pub HasDirectory : Tree → PathName → Type 0
HasDirectory tree path = (node : Node) × (node_at tree path ≡ Some node) × (kind_of node ≡ Directory)

-- a path of the owner's tree that is the root, or whose parent is a directory of the tree
abbrev pub HasPlace : UserName → Tree → PathName → Type 0
HasPlace owner tree path = MatchOption (parent_of path) (path.owner ≡ owner) (HasDirectory tree)

-- nothing stands there, or a file does and the entry is no directory
abbrev pub MayReplace : Option Node → Kind → Type 0
MayReplace found kind = MatchOption found ⊤ (λ node. (kind_of node ≡ File) × (kind ≢ Directory))

-- which control file an entry of this kind is at a path
abbrev pub control_for : Kind → PathName → Control
control_for File path = control_of path
control_for Directory path = Ordinary
control_for Link path = Ordinary

-- the text of a control file parses; any other text is empty
abbrev pub TextFits : UserName → Control → Text → Type 0
TextFits owner Access text = (rules : List Rule) × (access_of owner text ≡ Ok rules)
TextFits owner Group text = (items : List Item) × (group_of owner text ≡ Ok items)
TextFits owner Ordinary text = text ≡ []

-- A Put fits where its entry has the fixed form, without the incomplete mark, and the record's position as its sequence;
-- where its path is the root, or its parent is a directory; where nothing stands at its path, or a file does and the entry is
-- no directory; and where the text of a control file parses, and any other text is empty.
pub record PutFits (owner : UserName) (before : List Rec) (entry : Entry) (text : Text) : Type 0 where
  pub form : HasFixedForm entry
  pub sequence : entry.sequence ≡ length before + 1
  pub place : HasPlace owner (tree_of before) entry.name
  pub replaces : MayReplace (node_at (tree_of before) entry.name) entry.attr.kind
  pub parses : TextFits owner (control_for entry.attr.kind entry.name) text

-- A Delete fits where its path is in the tree and has no child.
pub record DeleteFits (before : List Rec) (path : PathName) : Type 0 where
  pub there : IsSome (node_at (tree_of before) path)
  pub empty : children (tree_of before) path ≡ []

-- the root of a user's tree
abbrev pub root_of : UserName → PathName
root_of owner = record { owner = owner; elements = [] }

-- the user whose tree shows the snapshots of a user's tree
abbrev pub snapshot_user : UserName → UserName
snapshot_user user = name_part user ++ codes "+snapshot" ++ byte "@" ∷ domain_part user

-- A Snap fits where the owner has no suffix, and the name of its snapshot user is no longer than a user's may be; where the
-- tree has a root; where the time is before the year 10000 in every time zone; and where no Snap before has the same time.
pub record SnapFits (owner : UserName) (before : List Rec) (time : ℕ) : Type 0 where
  pub plain : suffix_of owner ≡ None
  pub short : length (snapshot_user owner) ≤ 254
  pub rooted : IsSome (node_at (tree_of before) (root_of owner))
  pub calendar : IsMoment time
  pub new : Contains before (Snap time) → ⊥

-- the record fits a log of these records as the next one
abbrev pub Fits : UserName → List Rec → Rec → Type 0
Fits owner before (Put entry text) = PutFits owner before entry text
Fits owner before (Delete path) = DeleteFits before path
Fits owner before (Snap time) = SnapFits owner before time

-- each record fits those before it
pub record AreFitting (owner : UserName) (records : List Rec) : Type 0 where
  pub each : (n : ℕ) (rec : Rec) → slice_get records n ≡ Some rec → Fits owner (take n records) rec

-- the records of a log of this owner: each fits those before it, and the owner is no snapshot user
pub record IsLog (owner : UserName) (records : List Rec) : Type 0 where
  pub fitting : AreFitting owner records
  pub plain : owns_snapshots owner ≡ false

-- ---- the same as a test that computes

-- whether a directory is there
abbrev pub is_directory_node : Option Node → Bool
is_directory_node None = false
is_directory_node (Some node) = is_directory (kind_of node)

-- whether a path may have an item: it is the owner's root, or its parent is a directory
unfoldable pub has_place : UserName → Tree → PathName → Bool
has_place owner tree path = elim (parent_of path) [
  | None ↦ bytes_eq path.owner owner
  | Some parent ↦ is_directory_node (node_at tree parent)
]

-- whether an entry of this kind may take the place of what is there: any kind where there is nothing, and any but a directory where there
-- is a file
abbrev pub may_replace : Option Node → Kind → Bool
may_replace None kind = true
may_replace (Some node) kind = is_file (kind_of node) && not (is_directory kind)

-- whether the text beside an entry is one that a file of this kind may have
abbrev pub text_fits : UserName → Control → Text → Bool
text_fits owner Access text = is_ok (access_of owner text)
text_fits owner Group text = is_ok (group_of owner text)
text_fits owner Ordinary text = length text == 0

-- whether a Put of this entry fits a log as its next record
unfoldable pub put_fits : UserName → List Rec → Entry → Text → Bool
put_fits owner before entry text =
    has_fixed_form entry
    && entry.sequence == length before + 1
    && has_place owner (tree_of before) entry.name
    && may_replace (node_at (tree_of before) entry.name) entry.attr.kind
    && text_fits owner (control_for entry.attr.kind entry.name) text

-- whether a Delete fits a log as its next record: something stands there, with nothing below it
unfoldable pub delete_fits : List Rec → PathName → Bool
delete_fits before path = is_some (node_at (tree_of before) path) && length (children (tree_of before) path) == 0

-- a Snap of that time
abbrev pub is_snap_at : ℕ → Rec → Bool
is_snap_at time (Put entry text) = false
is_snap_at time (Delete path) = false
is_snap_at time (Snap at) = at == time

-- whether a tree may have snapshots: its owner has no suffix, and the snapshot user's name is not too long
abbrev pub has_snapshots : UserName → Bool
has_snapshots owner = is_none (suffix_of owner) && nat_le (length (snapshot_user owner)) 254

-- whether a Snap fits a log as its next record
unfoldable pub snap_fits : UserName → List Rec → ℕ → Bool
snap_fits owner before time =
    has_snapshots owner
    && is_some (node_at (tree_of before) (root_of owner))
    && is_moment time
    && not (list_any (is_snap_at time) before)

-- whether a record fits a log as its next one
abbrev pub fits : UserName → List Rec → Rec → Bool
fits owner before (Put entry text) = put_fits owner before entry text
fits owner before (Delete path) = delete_fits before path
fits owner before (Snap time) = snap_fits owner before time
