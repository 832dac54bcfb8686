-- The blocks so far, and those of the pieces that are left, are all of them.
use Rattle.std.proofs.Common.{length, drop, Some}
use Rattle.std.specs.List.{slice_split}
use Rattle.up_text.specs.Lists.{blocks_from, is_comma}
use Rattle.up_text.proofs.ListLemmas.{BlocksGoing}
use Rattle.up_text.proofs.lists.some_blocks.Given as goal

abbrev pub invariant-loop-piece : goal.invariant-loop-piece
invariant-loop-piece l =
    BlocksGoing (blocks_from (Some 0) (slice_split is_comma l.fn.list)) l.blocks l.offset (drop (length l.yielded) (slice_split is_comma l.fn.list))
