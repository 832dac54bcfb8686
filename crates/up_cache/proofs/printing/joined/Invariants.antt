-- The text so far is that of the lines gone through.
use Rattle.std.proofs.Common.{◌≡◌, take}
use Rattle.up_cache.specs.Copying.{lines_text}
use Rattle.up_cache.proofs.printing.joined.Given as goal

abbrev pub invariant-loop-line : goal.invariant-loop-line
invariant-loop-line l = l.text.items ≡ lines_text (take l.line-index l.lines)
