-- The rules so far, before those of the lines that are left, are those of all lines.
use Rattle.std.proofs.Common.{length}
use Rattle.up_names.proofs.TextMeaningLemmas.{Reads}
use Rattle.up_access.specs.AccessTexts.{rules_in}
use Rattle.up_access.proofs.parsing.parse_access.Given as goal

abbrev pub invariant-loop-rules : goal.invariant-loop-rules
invariant-loop-rules l = Reads (rules_in l.owner) l.text l.rest l.number l.rules.items

abbrev pub decreases-loop-rules : goal.decreases-loop-rules
decreases-loop-rules l = length l.rest
