-- The rules so far are printed.
use Rattle.std.proofs.Common.{◌≡◌, take}
use Rattle.up_access.specs.Printing.{printed}
use Rattle.up_access.proofs.printing.print_access.Given as goal

abbrev pub invariant-loop-rule : goal.invariant-loop-rule
invariant-loop-rule l = l.out.items ≡ printed (take l.rule-index l.rule-items)
