-- Texts of Access files whose needed groups were noted. (That all groups are noted is proved; nothing outside rests on these definitions.)
use Rattle.std.specs.Prelude.{◌≡◌, ℕ, List, Contains, Some}
use Rattle.std.specs.FinMap.Entries.{find}
use Rattle.up_names.specs.Texts.{UserName}
use Rattle.up_names.specs.PathNames.{PathName}
use Rattle.up_names.specs.PathOrder.{path_cmp}
use Rattle.up_access.specs.declared.Rule.{Rule}
use Rattle.up_policy.specs.Loadings.{Loading}
use Rattle.up_policy.specs.Reached.{needed_by}
use Rattle.up_log_tree.specs.Rights.{facts_of, group_paths}
use Rattle.up_log_tree.specs.Trees.{Tree, tree_at}
use Rattle.up_mem_tree.specs.MemTrees.{TreeLog}
use Rattle.up_foreign.specs.declared.noted.Noted.{Noted}

-- each group that the text in a directory needs is among these names
abbrev pub HasNeeded : UserName → Loading → Tree → PathName → List PathName → Type 0
HasNeeded owner loaded tree dir names = (rules : List Rule) → (facts_of owner tree).access dir ≡ Some rules → (group : PathName) →
    Contains (needed_by (facts_of owner tree) (group_paths tree) loaded rules) group → Contains names group

-- of the text of each directory that was looked at, as it was then, the needed groups are among the names
pub record AreNoted (tree : TreeLog) (loaded : Loading) (noted : Noted) (names : List PathName) : Type 0 where
  pub each : (dir : PathName) (at : ℕ) → find path_cmp dir noted.dirs.entries ≡ Some at
      → HasNeeded tree.owner loaded (tree_at tree.log at) dir names
