-- Which groups can be needed at all. (That no others are is proved; nothing outside rests on these definitions.)
use Rattle.std.specs.Prelude.{◌≡◌, ◌≤◌, ◌<◌, ℕ, Bool, true, not, ◌&&◌, ◌⊎◌, List, [], Contains, Some, is_none, slice_get}
use Rattle.std.specs.FinMap.Entries.{find}
use Rattle.std.specs.Str.{bytes_eq}
use Rattle.up_names.specs.Texts.{UserName}
use Rattle.up_names.specs.PathNames.{PathName, is_under}
use Rattle.up_names.specs.PathOrder.{path_cmp}
use Rattle.up_names.specs.declared.items.Item.{Item}
use Rattle.up_policy.specs.Loadings.{Loading, answer_for, loaded_text}
use Rattle.up_policy.specs.Members.{groups_in}
use Rattle.up_log_tree.specs.Trees.{tree_at}
use Rattle.up_mem_tree.specs.MemTrees.{TreeLog}
use Rattle.up_mem_tree.specs.Namings.{CanMeet, ChangesPath, IsFrom}
use Rattle.up_foreign.specs.Foreign.{needed_in}
use Rattle.up_foreign.specs.declared.left.Left.{Left}

-- has to be loaded, once it is reached: a group of another owner that has no answer yet
abbrev pub is_unanswered : UserName → Loading → PathName → Bool
is_unanswered owner loaded group = not (bytes_eq group.owner owner) && is_none (answer_for loaded group)

-- at no place of the tree, as it was after whatever number of records, any group is needed
pub record NeedsNothing (tree : TreeLog) (loaded : Loading) : Type 0 where
  pub none : (n : ℕ) (path : PathName) → needed_in tree.owner loaded (tree_at tree.log n, path) ≡ []

-- ---- at the changes that a Watch passes

-- The group is needed at the path that record n changes, which is under this one, as the tree is directly after the record, or after more;
-- and the record is above a position.
pub record IsNeededBy (tree : TreeLog) (loaded : Loading) (path : PathName) (above n : ℕ) (group : PathName) : Type 0 where
  pub late : above < n
  pub changed : PathName
  pub is : ChangesPath tree.log n changed
  pub under : is_under changed path ≡ true
  pub m : ℕ
  pub later : n ≤ m
  pub needed : Contains (needed_in tree.owner loaded (tree_at tree.log m, changed)) group

-- the group is left at this position: from it on, or from an earlier one on
abbrev pub IsLeftAt : List (PathName × ℕ) → ℕ → PathName → Type 0
IsLeftAt left n group = IsFrom (find path_cmp group left) n

-- what was left is left still, from the same positions on or from earlier ones
pub record KeepsLeft (old new : List (PathName × ℕ)) : Type 0 where
  pub each : (n : ℕ) (group : PathName) → IsLeftAt old n group → IsLeftAt new n group

-- the group, where it is another owner's without an answer yet, is left wherever it can be met at a change
pub record IsLeftWhereMet (tree : TreeLog) (loaded : Loading) (path : PathName) (above : ℕ)
    (left : List (PathName × ℕ)) (group : PathName) : Type 0 where
  pub each : is_unanswered tree.owner loaded group ≡ true → (n m : ℕ) (changed : PathName) → above < n → n ≤ m
      → ChangesPath tree.log n changed → is_under changed path ≡ true → CanMeet tree.owner tree.log m changed group → IsLeftAt left n group

-- each of these groups is
abbrev pub AreLeftWhereMet : TreeLog → Loading → PathName → ℕ → List (PathName × ℕ) → List PathName → Type 0
AreLeftWhereMet tree loaded path above left groups =
    (group : PathName) → Contains groups group → IsLeftWhereMet tree loaded path above left group

-- those of these groups that are another owner's without an answer yet are left everywhere
abbrev pub AreLeft : UserName → Loading → List (PathName × ℕ) → List PathName → Type 0
AreLeft owner loaded left groups =
    (group : PathName) → Contains groups group → is_unanswered owner loaded group ≡ true → (n : ℕ) → IsLeftAt left n group

-- those that a loaded text names are, where they have no answer yet
abbrev pub HasReadOnes : UserName → Loading → PathName → List (PathName × ℕ) → Type 0
HasReadOnes owner loaded name left =
    (items : List Item) → loaded_text loaded name ≡ Some items → AreLeft owner loaded left (groups_in items)

-- each group that is needed at a change is among the names, or left at it
pub record CoversNeeds (tree : TreeLog) (loaded : Loading) (path : PathName) (above : ℕ)
    (left : List (PathName × ℕ)) (names : List PathName) : Type 0 where
  pub each : (n : ℕ) (group : PathName) → IsNeededBy tree loaded path above n group
      → IsLeftAt left n group ⊎ Contains names group

-- none of those that are left can be needed before this position
abbrev pub IsSoon : List (PathName × ℕ) → ℕ → Type 0
IsSoon left soon = (n : ℕ) (group : PathName) → IsLeftAt left n group → soon ≤ n

-- Where all that is left was gathered, each group that is needed at a change is among the names or left at it; and none is left before
-- `soon`.
pub record MayCover (tree : TreeLog) (loaded : Loading) (path : PathName) (above : ℕ)
    (left : Left) (names : List PathName) : Type 0 where
  pub covers : left.whole ≡ true → CoversNeeds tree loaded path above left.groups.entries names
  pub soon : IsSoon left.groups.entries left.soon

-- the positions never fall
pub record IsRising (positions : List ℕ) : Type 0 where
  pub each : (i j m n : ℕ) → i ≤ j → slice_get positions i ≡ Some m → slice_get positions j ≡ Some n → m ≤ n
