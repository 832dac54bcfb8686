-- What a tree says of rights (Upspin access control document).
use Rattle.std.specs.Prelude.{Bool, false, List, codes, Option, Some, None}
use Rattle.std.specs.Str.{bytes_eq}
use Rattle.up_names.specs.Texts.{UserName}
use Rattle.up_names.specs.declared.items.Item.{Item}
use Rattle.up_names.specs.UserNames.{suffix_of}
use Rattle.up_names.specs.PathNames.{PathName}
use Rattle.up_access.specs.declared.Rule.{Rule}

-- Access texts: the rules of the one in each directory that has one
abbrev pub AccessTexts : Type 0
AccessTexts = PathName → Option (List Rule)

-- Group texts: the items of the one at each path that has one
abbrev pub GroupTexts : Type 0
GroupTexts = PathName → Option (List Item)

-- a tree: its owner, the rules of the Access file in each directory that has one, and the items of the Group file at
-- each path of the owner that has one
pub record TreeFacts : Type 0 where
  pub owner : UserName
  pub access : AccessTexts
  pub group : GroupTexts

-- the owner of a snapshot tree has exactly the suffix `snapshot` (Upspin overview)
abbrev pub owns_snapshots : UserName → Bool
owns_snapshots owner = elim (suffix_of owner) [ None ↦ false | Some suffix ↦ bytes_eq suffix (codes "snapshot") ]
