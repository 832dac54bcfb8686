-- What was decided of one user's rights, and is not decided again. (That it holds is proved; nothing outside rests on these
-- definitions.)
use Rattle.std.specs.Prelude.{◌≡◌, Bool, true, false, List, [], Option, Some, None}
use Rattle.std.specs.FinMap.Entries.{find}
use Rattle.up_names.specs.Texts.{UserName}
use Rattle.up_names.specs.PathNames.{PathName}
use Rattle.up_names.specs.PathOrder.{path_cmp}
use Rattle.up_rights.specs.declared.Right.{Right}
use Rattle.up_rights.specs.declared.Right.TheVariants.{Read, Write, List as ListRight, Create, Delete}
use Rattle.up_rights.specs.RightSets.{Rights}
use Rattle.up_access.specs.declared.Rule.{Rule}
use Rattle.up_policy.specs.Verdicts.{text_decides, without_text}
use Rattle.up_log_tree.specs.Rights.{access_path, facts_of, group_paths}
use Rattle.up_log_tree.specs.Trees.{tree_at}
use Rattle.up_list.specs.Looks.{Look}
use Rattle.up_watch.specs.declared.decided.Decided.{Decided}
use Rattle.up_watch.specs.declared.decided.Given.{Given}
use Rattle.up_watch.specs.declared.watcher.Known.{Known}
use Rattle.up_watch.specs.Watching.{Watching, after}

-- an ordinary path of an owner, and an Access or Group path
abbrev pub place : UserName → Bool → PathName
place owner false = record { owner = owner; elements = [] }
place owner true = access_path (record { owner = owner; elements = [] })

-- whether a text that governs, or none, gives the user a right on the ordinary paths, or on the Access and Group paths
abbrev pub right_by : Look → Bool → Option (List Rule) → Right → Bool
right_by look control text right = elim (without_text look.owner look.user right (place look.owner control)) [
  | Some answer ↦ answer
  | None ↦ text_decides (facts_of look.owner look.tree) (group_paths look.tree) look.loaded look.user right text
]

-- the rights of the user on them
unfoldable pub rights_by : Look → Bool → Option (List Rule) → Rights
rights_by look control text =
    let has = λ (right : Right). right_by look control text right in
    record { read = has Read; write = has Write; list = has ListRight; create = has Create; delete = has Delete }

-- what the texts gave on the ordinary paths, or on the Access and Group paths, by their directories
abbrev pub given_on : Decided → Bool → List (PathName × Given)
given_on decided false = decided.ordinary.entries
given_on decided true = decided.control.entries

-- what the text in a directory gave, where that was decided
abbrev pub given_in : Decided → PathName → Bool → Option Given
given_in decided dir control = find path_cmp dir (given_on decided control)

-- the text in a directory gave these rights after so many records
abbrev pub IsGiven : Watching → Bool → PathName → Given → Type 0
IsGiven watching control dir given =
    rights_by (after watching given.at) control ((facts_of watching.owner (tree_at watching.log given.at)).access dir) ≡ given.held

-- what the texts gave is what they gave then
pub record AreDecided (watching : Watching) (decided : Decided) : Type 0 where
  pub each : (dir : PathName) (control : Bool) (given : Given)
      → given_in decided dir control ≡ Some given → IsGiven watching control dir given

-- what is kept of decisions is right in the tree as it is, and in the tree as it was
pub record Remembers (watching : Watching) (known : Known) : Type 0 where
  pub current : AreDecided watching known.current
  pub past : AreDecided watching known.past
