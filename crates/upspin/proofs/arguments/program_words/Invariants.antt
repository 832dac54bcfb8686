-- The words so far, and those that are left, are all of them.
use Rattle.std.proofs.Common.{length, map, string_bytes}
use Rattle.upspin.proofs.ProgramLemmas.{WordsGoing}
use Rattle.upspin.proofs.arguments.program_words.Given as goal

abbrev pub invariant-loop-word : goal.invariant-loop-word
invariant-loop-word l = WordsGoing (map string_bytes l.words.items) l.left l.fn.given

abbrev pub decreases-loop-word : goal.decreases-loop-word
decreases-loop-word l = length l.left
