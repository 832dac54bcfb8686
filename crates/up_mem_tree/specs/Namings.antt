-- Where, and from which record on, a text can be met that names a group. This project's own.
use Rattle.std.specs.Prelude.{◌≡◌, ◌≤◌, ◌<◌, ◌⊎◌, ℕ, true, List, Contains, Option, Some, MatchOption}
use Rattle.std.specs.Option.{option_and_then}
use Rattle.up_names.specs.Texts.{UserName}
use Rattle.up_names.specs.PathNames.{PathName, is_under}
use Rattle.up_names.specs.declared.items.Item.{Item}
use Rattle.up_access.specs.declared.Rule.{Rule}
use Rattle.up_entry.specs.declared.records.Rec.{Rec}
use Rattle.up_policy.specs.Members.{groups_in}
use Rattle.up_policy.specs.Reached.{groups_named}
use Rattle.up_log_tree.specs.Changes.{path_of_change, record_at}
use Rattle.up_log_tree.specs.Rights.{access_path, facts_of, is_group}
use Rattle.up_log_tree.specs.Trees.{tree_at}
use Rattle.up_mem_tree.specs.declared.gone.Naming.{Naming}

-- an Access file that after n records stands in a directory at the path or above it names the group
pub record IsNamedAbove (owner : UserName) (records : List Rec) (n : ℕ) (path group : PathName) : Type 0 where
  pub dir : PathName
  pub above : is_under path dir ≡ true
  pub rules : List Rule
  pub text : (facts_of owner (tree_at records n)).access dir ≡ Some rules
  pub named : Contains (groups_named rules) group

-- the text of a Group file names the group, wherever it stands after n records
pub record IsNamedInGroup (owner : UserName) (records : List Rec) (n : ℕ) (group : PathName) : Type 0 where
  pub file : PathName
  pub items : List Item
  pub text : (facts_of owner (tree_at records n)).group file ≡ Some items
  pub named : Contains (groups_in items) group

-- After n records the tree's own texts can lead a search from the path to the group: an Access text at the path or above it names it, or
-- some Group text does.
abbrev pub CanMeet : UserName → List Rec → ℕ → PathName → PathName → Type 0
CanMeet owner records n path group = IsNamedAbove owner records n path group ⊎ IsNamedInGroup owner records n group

-- the record at that position changes the path
abbrev pub ChangesPath : List Rec → ℕ → PathName → Type 0
ChangesPath records n path = option_and_then path_of_change (record_at records n) ≡ Some path

-- the position is the first one or behind it; where there is no first one, no position is
abbrev pub IsFrom : Option ℕ → ℕ → Type 0
IsFrom first n = MatchOption first ⊥ (λ position. position ≤ n)

-- Of the records above a position that change a path under this one, only those from the first one on change a path from which the group
-- can be met, as the tree is directly after the record, or after more. (The first one may be too early.)
pub record IsFirstNaming (owner : UserName) (records : List Rec) (group path : PathName) (above : ℕ) (first : Option ℕ) : Type 0 where
  pub each : (n m : ℕ) (changed : PathName) → above < n → n ≤ m → ChangesPath records n changed → is_under changed path ≡ true
      → CanMeet owner records m changed group → IsFrom first n

-- ---- by the records whose texts name a group

-- A text that the record at `by` has made is not replaced by the record at a position, nor before; and it may govern the path, or is that
-- of a Group file.
pub record IsMetBy (records : List Rec) (naming : Naming) (n : ℕ) (path : PathName) : Type 0 where
  pub lasts : (naming.until ≡ 0) ⊎ (n < naming.until)
  pub file : PathName
  pub is : ChangesPath records naming.by file
  pub reaches : (is_group file ≡ true) ⊎ ((dir : PathName) × (file ≡ access_path dir) × (is_under path dir ≡ true))

-- of the records above a position that change a path under this one, only those from the first one on change a path at which this text can
-- be met
abbrev pub IsFirstMet : List Rec → PathName → ℕ → Option ℕ → Naming → Type 0
IsFirstMet records path above first naming = (n : ℕ) (changed : PathName) → above < n → ChangesPath records n changed
    → is_under changed path ≡ true → IsMetBy records naming n changed → IsFrom first n

-- the same of each of these texts
abbrev pub IsFirstOf : List Rec → List Naming → PathName → ℕ → Option ℕ → Type 0
IsFirstOf records namings path above first = (naming : Naming) → Contains namings naming → IsFirstMet records path above first naming

-- the same of each text that one of these records has made and that was not replaced
abbrev pub IsFirstNow : List Rec → List ℕ → PathName → ℕ → Option ℕ → Type 0
IsFirstNow records positions path above first = (position : ℕ) → Contains positions position
    → IsFirstMet records path above first (record { by = position; until = 0 })
