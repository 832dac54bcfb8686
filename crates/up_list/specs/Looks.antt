-- A tree as one user meets it: which rights the user has where, and what the user is shown of an entry (Upspin access
-- control document). A snapshot tree is a tree like any other, with the snapshot user as its owner.
use Rattle.std.specs.Prelude.{ℕ, Bool}
use Rattle.up_names.specs.Texts.{UserName}
use Rattle.up_names.specs.PathNames.{PathName}
use Rattle.up_rights.specs.RightSets.{Rights, has_any}
use Rattle.up_entry.specs.declared.entries.Entry.{Entry}
use Rattle.up_entry.specs.Showing.{shown_as}
use Rattle.up_policy.specs.Loadings.{Loading}
use Rattle.up_policy.specs.Verdicts.{rights_held}
use Rattle.up_log_tree.specs.Trees.{Tree, tree_at, tree_of}
use Rattle.up_log_tree.specs.Rights.{facts_of, group_paths}
use Rattle.up_log_tree.specs.Logs.{Log}

-- a tree with its owner, a user, and what was loaded of the groups of other owners in the user's request
pub record Look : Type 0 where
  pub owner : UserName
  pub tree : Tree
  pub loaded : Loading
  pub user : UserName

-- the rights of the user on a path
unfoldable pub rights : Look → PathName → Rights
rights look path = rights_held (facts_of look.owner look.tree) (group_paths look.tree) look.loaded look.user path

-- whether the user has any right on a path
abbrev pub has_some : Look → PathName → Bool
has_some look path = has_any (rights look path)

-- what the user is shown of an entry: all of it exactly where read holds on its name
abbrev pub shown : Look → Entry → Entry
shown look entry = shown_as (rights look entry.name).read entry

-- the tree of a log as it is now, as a user meets it
abbrev pub look_now : Log → Loading → UserName → Look
look_now log loaded user = record { owner = log.owner; tree = tree_of log.records; loaded = loaded; user = user }

-- the tree of a log as it was directly after the first n records, as a user meets it
abbrev pub look_after : ℕ → Log → Loading → UserName → Look
look_after n log loaded user = record { owner = log.owner; tree = tree_at log.records n; loaded = loaded; user = user }
