-- The text so far is that of the lines gone through.
use Rattle.std.proofs.Common.{◌≡◌, ◌++◌, take}
use Rattle.up_command.specs.Printed.{all_numbered}
use Rattle.up_command.proofs.saying.say_all.Given as goal

abbrev pub invariant-loop-line : goal.invariant-loop-line
invariant-loop-line l = l.out.items ≡ l.fn.out.items ++ all_numbered l.fn.number (take l.line-index l.lines)
