-- The words so far, and those that are left, are all of them.
use Rattle.std.proofs.Common.{◌≡◌, ◌++◌}
use Rattle.std.specs.Option.{option_copied}
use Rattle.up_text.specs.Lines.{words_left}
use Rattle.up_command.proofs.WordLemmas.{left_size}
use Rattle.up_command.proofs.words.words_of.Given as goal

abbrev pub invariant-loop-left : goal.invariant-loop-left
invariant-loop-left l = l.all ++ words_left (option_copied l.left) ≡ words_left (option_copied l.fn.words)

abbrev pub decreases-loop-left : goal.decreases-loop-left
decreases-loop-left l = left_size (option_copied l.left)
