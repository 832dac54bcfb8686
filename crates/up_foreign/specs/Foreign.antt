-- The needed groups of a request, over a tree in memory.
use Rattle.std.specs.Prelude.{◌≡◌, ◌≤◌, ℕ, List, [], ◌∷◌, length, Some, None}
use Rattle.std.specs.Option.{option_and_then}
use Rattle.up_names.specs.Texts.{UserName}
use Rattle.up_names.specs.PathNames.{PathName}
use Rattle.up_entry.specs.declared.records.Rec.{Rec}
use Rattle.up_policy.specs.Loadings.{Loading}
use Rattle.up_policy.specs.Reached.{needed}
use Rattle.up_log_tree.specs.Changes.{path_of_change, record_at}
use Rattle.up_log_tree.specs.Rights.{facts_of, group_paths}
use Rattle.up_log_tree.specs.Trees.{Tree, tree_at, tree_of}
use Rattle.up_answers.specs.Needs.{Place}
use Rattle.up_mem_tree.specs.MemTrees.{TreeLog}

-- the needed groups of a place in this owner's tree
abbrev pub needed_in : UserName → Loading → Place → List PathName
needed_in owner loaded place = needed (facts_of owner place.0) (group_paths place.0) loaded place.1

-- a path, in this tree
abbrev pub in_tree : Tree → PathName → Place
in_tree tree path = (tree, path)

-- the places of the path that record n, from 1, changes: as the tree is now, and directly after the record
abbrev pub places_at : List Rec → ℕ → List Place
places_at records n = elim (option_and_then path_of_change (record_at records n)) [
  | None ↦ []
  | Some path ↦ (tree_of records, path) ∷ (tree_at records n, path) ∷ []
]

-- a position, and what the record at it changes is the owner's
pub record IsOwnChange (tree : TreeLog) (n : ℕ) : Type 0 where
  pub within : n ≤ length tree.log
  pub owned : (path : PathName) → option_and_then path_of_change (record_at tree.log n) ≡ Some path → path.owner ≡ tree.owner
