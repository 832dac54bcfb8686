-- The last change of a Group file at each position of a log, and texts that stay as they are. This project's own.
use Rattle.std.specs.Prelude.{◌≡◌, ◌<◌, ℕ, suc, List, length, take, None, Some, slice_get, unwrap_or}
use Rattle.std.specs.List.{last_or}
use Rattle.up_names.specs.Texts.{UserName}
use Rattle.up_names.specs.PathNames.{PathName}
use Rattle.up_entry.specs.declared.records.Rec.{Rec}
use Rattle.up_log_tree.specs.Changes.{changes_some, positions_of}
use Rattle.up_log_tree.specs.Rights.{facts_of, group_paths, is_group}
use Rattle.up_log_tree.specs.Trees.{Tree, tree_at}

-- the position of the last record that changes a Group path, or 0
unfoldable pub last_group_change : List Rec → ℕ
last_group_change records = unwrap_or (last_or None (positions_of (changes_some is_group) 0 records)) 0

-- for each record the position of the last record, up to it, that changes a Group path
pub record AreGroupChanges (records : List Rec) (kept : List ℕ) : Type 0 where
  pub size : length kept ≡ length records
  pub each : (n : ℕ) → n < length records → slice_get kept n ≡ Some (last_group_change (take (suc n) records))

-- the texts of all Group files are the same in two trees of an owner
pub record HaveSameGroups (owner : UserName) (one two : Tree) : Type 0 where
  pub texts : (facts_of owner one).group ≡ (facts_of owner two).group
  pub paths : group_paths one ≡ group_paths two

-- the text of the Access file in a directory, and those of all Group files, are the same after the first m records as after the first n
pub record StayTexts (owner : UserName) (records : List Rec) (dir : PathName) (m n : ℕ) : Type 0 where
  pub access : (facts_of owner (tree_at records m)).access dir ≡ (facts_of owner (tree_at records n)).access dir
  pub groups : HaveSameGroups owner (tree_at records m) (tree_at records n)
