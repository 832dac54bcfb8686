-- The pieces that are left are endpoints exactly where all are.
use Rattle.std.proofs.Common.{length, drop, is_some}
use Rattle.std.specs.List.{slice_split}
use Rattle.up_text.specs.Lists.{all_endpoints, is_comma}
use Rattle.up_text.proofs.ListLemmas.{EachGoing}
use Rattle.up_text.proofs.lists.are_endpoints.Given as goal

abbrev pub invariant-loop-piece : goal.invariant-loop-piece
invariant-loop-piece l =
    EachGoing (is_some (all_endpoints (slice_split is_comma l.fn.list))) (drop (length l.yielded) (slice_split is_comma l.fn.list))
