-- What is kept of a search for the groups that have to be loaded, from one round of loads to the next. This project's own.
use Rattle.std.specs.Prelude.{◌≡◌, ◌≤◌, ◌<◌, ℕ, false, List, [], length, slice_get, Option, Some, None}
use Rattle.up_access.specs.declared.Rule.{Rule}
use Rattle.up_entry.specs.declared.records.Rec.{Rec}
use Rattle.up_foreign.specs.declared.kept.KeptSearch.{KeptSearch}
use Rattle.up_log_tree.specs.Rights.{facts_of}
use Rattle.up_log_tree.specs.Trees.{tree_at, tree_of}
use Rattle.up_names.specs.PathNames.{PathName}
use Rattle.up_names.specs.Texts.{UserName}
use Rattle.up_policy.specs.Governors.{governor}
use Rattle.up_policy.specs.Loadings.{Loading}
use Rattle.up_policy.specs.Members.{text_of}
use Rattle.up_policy.specs.Reached.{groups_named, is_wanted, met_after}
use Rattle.up_policy.specs.Trees.{TreeFacts}

-- the groups that a text names; none where there is no text
abbrev pub named_by : Option (List Rule) → List PathName
named_by None = []
named_by (Some rules) = groups_named rules

-- the groups that the text names that governs a path
abbrev pub starts : TreeFacts → PathName → List PathName
starts tree path = named_by (governor tree path)

-- A search from the text that governs a path has met these groups, after a look at the first `next` of them; and none of these first has
-- to be loaded.
pub record HasReached (tree : TreeFacts) (loaded : Loading) (path : PathName) (next : ℕ) (met : List PathName) : Type 0 where
  pub met_is : met ≡ met_after (text_of tree loaded) (starts tree path) next
  pub settled : (i : ℕ) (group : PathName) → i < next → slice_get met i ≡ Some group → is_wanted tree loaded group ≡ false

-- a search that has come to the first place has come to the second
pub record GoesOn (tree : TreeFacts) (loaded : Loading) (from : ℕ) (met : List PathName) (next : ℕ) (now : List PathName) : Type 0 where
  pub goes : (path : PathName) → HasReached tree loaded path from met → HasReached tree loaded path next now

-- What is kept is of the tree as it was after all of these records, or after the first of them: if there is a path, of a search from
-- there.
pub record Keeps (owner : UserName) (records : List Rec) (loaded : Loading) (kept : KeptSearch) : Type 0 where
  pub within : kept.records ≤ length records
  pub reached : (path : PathName) → kept.path ≡ Some path
      → HasReached (facts_of owner (tree_at records kept.records)) loaded path kept.next kept.met

-- what is kept is of a search from a path of the tree after all of these records
pub record IsOver (owner : UserName) (records : List Rec) (loaded : Loading) (path : PathName) (kept : KeptSearch) : Type 0 where
  pub all : kept.records ≡ length records
  pub path_is : kept.path ≡ Some path
  pub reached : HasReached (facts_of owner (tree_of records)) loaded path kept.next kept.met
