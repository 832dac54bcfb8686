-- What is left gets shorter.
use Rattle.std.proofs.Common.{length}
use Rattle.up_explain_script.proofs.host_flaws.twice.Given as goal

abbrev pub decreases-loop-first : goal.decreases-loop-first
decreases-loop-first l = length l.left
