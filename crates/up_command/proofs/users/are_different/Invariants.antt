-- No user that is left stands twice or was seen, exactly where no user stands twice.
use Rattle.std.proofs.Common.{length}
use Rattle.up_command.proofs.UserLemmas.{SeenGoing}
use Rattle.up_command.proofs.users.are_different.Given as goal

abbrev pub invariant-loop-first : goal.invariant-loop-first
invariant-loop-first l = SeenGoing l.fn.users l.seen l.left

abbrev pub decreases-loop-first : goal.decreases-loop-first
decreases-loop-first l = length l.left
