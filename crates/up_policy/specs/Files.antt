-- A tree's Access and Group files, held in memory (this project's own).
use Rattle.std.specs.Prelude.{List, Contains, IsSome}
use Rattle.std.specs.Map.{keys_of, lookup}
use Rattle.std.proofs.Common.{sym, ◌∙◌}
use Rattle.std.proofs.lemmas.Map.Made.{is_some-lookup}
use Rattle.std.proofs.lemmas.Map.Views.{Contains-from_any}
use Rattle.up_names.specs.Texts.{UserName}
use Rattle.up_names.specs.declared.items.Item.{Item}
use Rattle.up_names.specs.PathNames.{PathName}
use Rattle.up_names.specs.PathOrder.{path_eq}
use Rattle.up_names.specs.PathOrderLaws.{path_eq-Decides}
use Rattle.up_policy.specs.Directories.{AccessList, text_at}
use Rattle.up_policy.specs.Trees.{TreeFacts}

-- the owner, the directories that have an Access text, and the paths that have a Group text
pub record Files : Type 0 where
  pub owner : UserName
  pub access : AccessList
  pub groups : List (PathName × List Item)

-- what the files say of rights
abbrev pub facts_of : Files → TreeFacts
facts_of files = record {
  owner = files.owner;
  access = text_at files.access;
  group = λ path. lookup (path_eq path) files.groups;
}

-- a path with a Group text is among the paths
pub group_listed : (files : Files) (path : PathName) → IsSome ((facts_of files).group path) → Contains (keys_of files.groups) path
group_listed files path some =
    Contains-from_any (λ p q. (path_eq-Decides p q).0) path (keys_of files.groups) (sym (is_some-lookup (path_eq path) files.groups) ∙ some)
