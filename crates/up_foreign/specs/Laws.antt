-- Laws of what is needed as more is loaded. This project's own.
use Rattle.std.specs.Prelude.{◌≡◌, ◌++◌, ℕ, List, drop, filter}
use Rattle.std.specs.Map.{keys_of}
use Rattle.up_foreign.specs.Kept.{HasReached, starts}
use Rattle.up_names.specs.PathNames.{PathName}
use Rattle.up_policy.specs.Laws.{ListsGroups}
use Rattle.up_policy.specs.Loadings.{Loading}
use Rattle.up_policy.specs.Members.{text_of}
use Rattle.up_policy.specs.Reached.{is_wanted, needed, reached}
use Rattle.up_policy.specs.Trees.{TreeFacts}

-- Where a search has come to a place with what is loaded, it has come there with more loaded too; and what is needed then is found behind
-- that place: among the groups that were met and not yet looked at, and those that are met after them.
pub record NeededBehind (tree : TreeFacts) (listed : List PathName) (loaded : Loading) (path : PathName)
    (next : ℕ) (met : List PathName) : Type 0 where
  pub reached_too : HasReached tree loaded path next met
  pub behind : List PathName
  pub whole : reached (text_of tree loaded) (listed ++ keys_of loaded) (starts tree path) ≡ met ++ behind
  pub needed_is : needed tree listed loaded path ≡ filter (is_wanted tree loaded) (drop next met ++ behind)

-- what is needed with more loaded goes on from what was needed before
abbrev pub NeededGoesOn : Type 0
NeededGoesOn = (tree : TreeFacts) (listed : List PathName) (loaded more : Loading) (path : PathName) (next : ℕ) (met : List PathName)
    → ListsGroups tree listed → HasReached tree loaded path next met → NeededBehind tree listed (loaded ++ more) path next met
