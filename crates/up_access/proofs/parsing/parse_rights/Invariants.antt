-- The rights so far, together with those of the words that are left, are those of all words.
use Rattle.std.proofs.Common.{◌≡◌, length, option_map}
use Rattle.up_names.specs.ControlTexts.{words_in}
use Rattle.up_rights.specs.RightSets.{both_rights}
use Rattle.up_access.specs.AccessTexts.{granted_by, rights_in}
use Rattle.up_access.proofs.parsing.parse_rights.Given as goal

abbrev pub invariant-loop-word : goal.invariant-loop-word
invariant-loop-word l = option_map (both_rights l.rights) (rights_in (words_in l.rest)) ≡ granted_by (words_in l.fn.part)

abbrev pub decreases-loop-word : goal.decreases-loop-word
decreases-loop-word l = length l.rest
