-- The pieces that are left are blocks exactly where all are.
use Rattle.std.proofs.Common.{length, drop, Some, is_some}
use Rattle.std.specs.List.{slice_split}
use Rattle.up_text.specs.Lists.{blocks_from, is_comma}
use Rattle.up_text.proofs.ListLemmas.{FitsGoing}
use Rattle.up_text.proofs.lists.are_blocks.Given as goal

abbrev pub invariant-loop-piece : goal.invariant-loop-piece
invariant-loop-piece l =
    FitsGoing (is_some (blocks_from (Some 0) (slice_split is_comma l.fn.list))) l.offset (drop (length l.yielded) (slice_split is_comma l.fn.list))
