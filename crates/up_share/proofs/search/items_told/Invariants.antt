use Rattle.std.proofs.Common.{◌≡◌, drop}
use Rattle.std.specs.Map.{keys_of}
use Rattle.up_share.proofs.LoopLemmas.{joined}
use Rattle.up_share.proofs.search.items_told.Given as goal

-- the copies, and what is left
abbrev pub invariant-loop-i : goal.invariant-loop-i
invariant-loop-i l = joined l.items (drop l.i (keys_of l.readers.entries)) ≡ keys_of l.readers.entries
