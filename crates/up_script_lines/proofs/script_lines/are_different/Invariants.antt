-- What is left is different exactly where all is.
use Rattle.std.proofs.Common.{◌≡◌, length}
use Rattle.up_command.specs.Users.{are_different}
use Rattle.up_script_lines.proofs.script_lines.are_different.Given as goal

abbrev pub invariant-loop-first : goal.invariant-loop-first
invariant-loop-first l = are_different l.left ≡ are_different l.fn.users

abbrev pub decreases-loop-first : goal.decreases-loop-first
decreases-loop-first l = length l.left
