-- Laws of rights: the values that compute are what is meant, and rights only grow with what is loaded.
use Rattle.std.specs.Prelude.{◌≡◌, ◌↔◌, IsTrue, IsSome, List, ◌++◌, Contains, Option, Some}
use Rattle.std.specs.Map.{keys_of}
use Rattle.up_names.specs.Texts.{UserName}
use Rattle.up_names.specs.PathNames.{PathName}
use Rattle.up_rights.specs.declared.Right.{Right}
use Rattle.up_access.specs.declared.Rule.{Rule}
use Rattle.up_names.specs.declared.items.Item.{Item}
use Rattle.up_policy.specs.Trees.{GroupTexts, TreeFacts}
use Rattle.up_policy.specs.Loadings.{Loading, loaded_text}
use Rattle.up_policy.specs.Governors.{IsGovernor, governor}
use Rattle.up_policy.specs.Members.{text_of}
use Rattle.up_policy.specs.Reached.{IsReached, reached}
use Rattle.up_policy.specs.Verdicts.{HasRight, right_test}

-- each path at which the tree has a Group text is listed
abbrev pub ListsGroups : TreeFacts → List PathName → Type 0
ListsGroups tree listed = (path : PathName) → IsSome (tree.group path) → Contains listed path

-- the governor as a value is the governor, and no other text is
abbrev pub GovernorIsOne : Type 0
GovernorIsOne = (tree : TreeFacts) (path : PathName) (text : Option (List Rule)) → IsGovernor tree path text ↔ (text ≡ governor tree path)

-- however many groups are looked at, those that are reached are one list
abbrev pub ReachedIsOne : Type 0
ReachedIsOne = (texts : GroupTexts) (starts a b : List PathName) → IsReached texts starts a → IsReached texts starts b → a ≡ b

-- the reached list as a value is reached
abbrev pub ReachedIsReached : Type 0
ReachedIsReached = (tree : TreeFacts) (listed : List PathName) (loaded : Loading) (starts : List PathName) → ListsGroups tree listed →
    IsReached (text_of tree loaded) starts (reached (text_of tree loaded) (listed ++ keys_of loaded) starts)

-- the test of a right holds exactly where the user has the right
abbrev pub TestIsRight : Type 0
TestIsRight =
    (tree : TreeFacts) (listed : List PathName) (loaded : Loading) (user : UserName) (right : Right) (path : PathName)
    → ListsGroups tree listed →
    IsTrue (right_test tree listed loaded user right path) ↔ HasRight tree loaded user right path

-- the second loading has each text of the first
abbrev pub HasTextsOf : Loading → Loading → Type 0
HasTextsOf more less = (group : PathName) (items : List Item) → loaded_text less group ≡ Some items → loaded_text more group ≡ Some items

-- where a loading has each text of another, it takes no right away
abbrev pub RightsAreMonotone : Type 0
RightsAreMonotone = (tree : TreeFacts) (less more : Loading) (user : UserName) (right : Right) (path : PathName) → HasTextsOf more less →
    HasRight tree less user right path → HasRight tree more user right path
