use Rattle.std.proofs.Common.{◌≡◌, ◌++◌, map, drop, string_bytes}
use Rattle.up_net.proofs.in_memory.words_of.Given as goal

-- the copies so far and those of the words that are left are those of all words
abbrev pub invariant-loop-word : goal.invariant-loop-word
invariant-loop-word l = l.copies.items ++ map string_bytes (drop l.word-index l.words) ≡ map string_bytes l.words
