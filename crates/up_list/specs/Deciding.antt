-- What was decided of a user's rights under the text that governs a directory, and is not decided again for what it governs
-- besides.
use Rattle.std.specs.Prelude.{◌≡◌, Bool, true, false, Option, Some}
use Rattle.up_names.specs.PathNames.{PathName}
use Rattle.up_rights.specs.RightSets.{Rights}
use Rattle.up_policy.specs.Governors.{governor}
use Rattle.up_policy.specs.Verdicts.{is_control}
use Rattle.up_log_tree.specs.Rights.{facts_of}
use Rattle.up_list.specs.Looks.{Look, rights}
use Rattle.up_list.specs.declared.decided.Decided.{Decided}

-- one text governs both paths, or none does
abbrev pub AreGovernedAlike : Look → PathName → PathName → Type 0
AreGovernedAlike look one two = governor (facts_of look.owner look.tree) one ≡ governor (facts_of look.owner look.tree) two

-- what was decided for Access and Group paths, or for ordinary ones
abbrev pub decided_for : Decided → Bool → Option Rights
decided_for decided true = decided.control
decided_for decided false = decided.ordinary

-- what was decided, with these rights for Access and Group paths, or for ordinary ones
abbrev pub with_decided : Decided → Bool → Rights → Decided
with_decided decided true held = record decided { control = Some held }
with_decided decided false held = record decided { ordinary = Some held }

-- what was decided holds of each path that is governed as the directory is
pub record IsDecided (look : Look) (dir : PathName) (decided : Decided) : Type 0 where
  pub each : (path : PathName) (held : Rights) → AreGovernedAlike look dir path
      → decided_for decided (is_control path) ≡ Some held → rights look path ≡ held
