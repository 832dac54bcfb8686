-- The groups of other owners that the texts of a log name, and named once. This project's own.
use Rattle.std.specs.Prelude.{◌≡◌, ◌≢◌, ◌<◌, ◌==◌, ℕ, Bool, true, false, not, ◌&&◌, ◌||◌, List, length, filter, take, nat_lt, slice_get}
use Rattle.std.specs.Prelude.{Option, Some, None, is_some, Contains, IfSome, ⊤}
use Rattle.std.specs.List.{list_any}
use Rattle.std.specs.FinMap.Entries.{find}
use Rattle.std.specs.Map.{keys_of}
use Rattle.std.specs.Option.{option_and_then}
use Rattle.std.specs.Ordering.{nat_cmp}
use Rattle.std.specs.Str.{bytes_eq}
use Rattle.up_names.specs.Texts.{UserName}
use Rattle.up_names.specs.PathNames.{PathName}
use Rattle.up_names.specs.PathOrder.{path_cmp}
use Rattle.up_names.specs.declared.items.Item.{Item}
use Rattle.up_access.specs.declared.Rule.{Rule}
use Rattle.up_entry.specs.declared.records.Rec.{Rec}
use Rattle.up_policy.specs.Members.{groups_in}
use Rattle.up_policy.specs.Reached.{groups_named}
use Rattle.up_log_tree.specs.Orders.{has_path}
use Rattle.up_log_tree.specs.Changes.{last_change}
use Rattle.up_log_tree.specs.Rights.{access_path, facts_of}
use Rattle.up_log_tree.specs.Trees.{tree_at}
use Rattle.up_mem_tree.specs.declared.history.Change.{Change}
use Rattle.up_mem_tree.specs.declared.others.Named.{Named}
use Rattle.up_mem_tree.specs.declared.gone.Naming.{Naming}
use Rattle.up_mem_tree.specs.declared.others.Others.{Others}
use Rattle.up_mem_tree.specs.declared.steps.ParentStep.{ParentStep}
use Rattle.up_mem_tree.specs.declared.steps.Step.{Step}

-- those of these groups that pass a test are among the paths
abbrev pub HasTested : (PathName → Bool) → List PathName → List PathName → Type 0
HasTested test paths groups = (group : PathName) → Contains groups group → test group ≡ true → has_path paths group ≡ true

-- a group of another owner
abbrev pub is_foreign : UserName → PathName → Bool
is_foreign owner group = not (bytes_eq group.owner owner)

-- those of these groups that are another owner's are among the paths
abbrev pub HasOthers : UserName → List PathName → List PathName → Type 0
HasOthers owner paths groups = HasTested (is_foreign owner) paths groups

-- Each group of another owner that some Access or Group text names, after whatever number of records, is among the paths.
pub record HasAllOthers (owner : UserName) (records : List Rec) (paths : List PathName) : Type 0 where
  pub access : (n : ℕ) (dir : PathName) (rules : List Rule)
      → (facts_of owner (tree_at records n)).access dir ≡ Some rules → HasOthers owner paths (groups_named rules)
  pub groups : (n : ℕ) (path : PathName) (items : List Item)
      → (facts_of owner (tree_at records n)).group path ≡ Some items → HasOthers owner paths (groups_in items)

-- the paths are there still
pub record KeepsPaths (old new : List PathName) : Type 0 where
  pub each : (path : PathName) → has_path old path ≡ true → has_path new path ≡ true

-- ---- what is kept of them

-- what is kept of a group
abbrev pub kept_of : Others → PathName → Option Named
kept_of others group = option_and_then (slice_get others.named.items) (find path_cmp group others.numbers.entries)

-- this is the text of the record at that position, and no record had replaced it after the first n records
abbrev pub was_then : ℕ → ℕ → Naming → Bool
was_then n position naming = naming.by == position && nat_lt n naming.until

-- the text of the record at that position is one of those that name a group now
abbrev pub names_now : ℕ → Option Named → Bool
names_now position None = false
names_now position (Some named) = is_some (find nat_cmp position named.by.entries)

-- the text of the record at that position is one of those that name a group, and had not been replaced after the first n records; or there
-- was no memory to keep which texts were replaced, of which some was later than that
abbrev pub named_then : ℕ → ℕ → Option Named → Bool
named_then n position None = false
named_then n position (Some named) = names_now position (Some named) || nat_lt n named.until || list_any (was_then n position) named.gone

-- the groups that the text of the record at that position is known to name
abbrev pub named_by : Others → ℕ → List PathName
named_by others position = filter (λ group. names_now position (kept_of others group)) (keys_of others.numbers.entries)

-- the groups that the text of the record at that position is known to have named after the first n records
abbrev pub named_at : Others → ℕ → ℕ → List PathName
named_at others n position = filter (λ group. named_then n position (kept_of others group)) (keys_of others.numbers.entries)

-- those of these groups that are another owner's are known by the position of the record
abbrev pub AreNamedBy : UserName → Others → Option ℕ → List PathName → Type 0
AreNamedBy owner others None groups = ⊥
AreNamedBy owner others (Some position) groups = HasOthers owner (named_by others position) groups

-- those of these groups that are another owner's are known to have been named after the first n records, by the position of the record
abbrev pub AreNamedAt : UserName → Others → ℕ → Option ℕ → List PathName → Type 0
AreNamedAt owner others n None groups = ⊥
AreNamedAt owner others n (Some position) groups = HasOthers owner (named_at others n position) groups

-- Each group of another owner that a text names is known by the record that has made the text: by the last one that changes the text's
-- path, for a text that is in force; and for one that was in force after fewer records, by the last of these that does.
pub record AreNamed (owner : UserName) (records : List Rec) (others : Others) : Type 0 where
  pub access_then : (n : ℕ) (dir : PathName) (rules : List Rule) → n < length records
      → (facts_of owner (tree_at records n)).access dir ≡ Some rules
      → AreNamedAt owner others n (last_change (take n records) (access_path dir)) (groups_named rules)
  pub groups_then : (n : ℕ) (path : PathName) (items : List Item) → n < length records
      → (facts_of owner (tree_at records n)).group path ≡ Some items
      → AreNamedAt owner others n (last_change (take n records) path) (groups_in items)
  pub access_now : (dir : PathName) (rules : List Rule) → (facts_of owner (tree_at records (length records))).access dir ≡ Some rules
      → AreNamedBy owner others (last_change records (access_path dir)) (groups_named rules)
  pub groups_now : (path : PathName) (items : List Item) → (facts_of owner (tree_at records (length records))).group path ≡ Some items
      → AreNamedBy owner others (last_change records path) (groups_in items)

-- what was known is known still
pub record Grows (old new : Others) : Type 0 where
  pub by : (position : ℕ) → KeepsPaths (named_by old position) (named_by new position)
  pub at : (n position : ℕ) → KeepsPaths (named_at old n position) (named_at new n position)

-- of the tree as it is, what was known is known still but for the text of the record at `gone`; of the trees after fewer than `until`
-- records, all of it
pub record Releases (gone : Option ℕ) (until : ℕ) (old new : Others) : Type 0 where
  pub by : (position : ℕ) → gone ≢ Some position → KeepsPaths (named_by old position) (named_by new position)
  pub at : (n position : ℕ) → n < until → KeepsPaths (named_at old n position) (named_at new n position)

-- ---- a record made ready

-- the other owners' groups that the new text of an Access file names are among the paths
abbrev pub HasAccessOthers : UserName → List PathName → Option (Change (List Rule)) → Type 0
HasAccessOthers owner paths access =
    IfSome access (λ (change : Change (List Rule)). IfSome change.text (λ rules. HasOthers owner paths (groups_named rules)))

-- those that the new text of a Group file names are
abbrev pub HasGroupOthers : UserName → List PathName → Option (Change (List Item)) → Type 0
HasGroupOthers owner paths group =
    IfSome group (λ (change : Change (List Item)). IfSome change.text (λ items. HasOthers owner paths (groups_in items)))

-- those that the new text of an Access file names are, where a directory gets one
abbrev pub HasParentOthers : UserName → List PathName → Option ParentStep → Type 0
HasParentOthers owner paths parent = IfSome parent (λ (step : ParentStep). HasAccessOthers owner paths step.access)

-- those that the texts of a step name are
pub record HasTextsOthers (owner : UserName) (paths : List PathName) (step : Step) : Type 0 where
  pub parent : HasParentOthers owner paths step.parent
  pub group : HasGroupOthers owner paths step.group

-- the same of the step of a record; that of a Snap is none
abbrev pub HasStepOthers : UserName → List PathName → Option Step → Type 0
HasStepOthers owner paths None = ⊤
HasStepOthers owner paths (Some step) = HasTextsOthers owner paths step
