use Rattle.std.proofs.Common.{◌≡◌, drop}
use Rattle.up_share.proofs.LoopLemmas.{with_plain}
use Rattle.up_share.proofs.search.add_plain.Given as goal

-- the items that are left give what all give
abbrev pub invariant-loop-item : goal.invariant-loop-item
invariant-loop-item l = with_plain l.readers.entries (drop l.item-index l.items) ≡ with_plain l.fn.readers.entries l.items
