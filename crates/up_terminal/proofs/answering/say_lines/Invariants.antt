-- The text so far is that of the lines gone through.
use Rattle.std.proofs.Common.{◌≡◌, ◌++◌, take}
use Rattle.up_terminal.specs.Lines.{lines_text}
use Rattle.up_terminal.proofs.answering.say_lines.Given as goal

abbrev pub invariant-loop-line : goal.invariant-loop-line
invariant-loop-line l = l.out.items ≡ l.fn.out.items ++ lines_text (take l.line-index l.lines)
