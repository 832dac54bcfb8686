-- What is left of the part gets shorter.
use Rattle.std.proofs.Common.{length}
use Rattle.up_explain_can.proofs.control_flaws.name_flaw.Given as goal

abbrev pub decreases-loop-word : goal.decreases-loop-word
decreases-loop-word l = length l.rest
