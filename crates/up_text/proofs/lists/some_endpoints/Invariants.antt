-- The endpoints so far, and those of the pieces that are left, are all of them.
use Rattle.std.proofs.Common.{length, drop}
use Rattle.std.specs.List.{slice_split}
use Rattle.up_text.specs.Lists.{all_endpoints, is_comma}
use Rattle.up_text.proofs.ListLemmas.{EndpointsGoing}
use Rattle.up_text.proofs.lists.some_endpoints.Given as goal

abbrev pub invariant-loop-piece : goal.invariant-loop-piece
invariant-loop-piece l =
    EndpointsGoing (all_endpoints (slice_split is_comma l.fn.list)) l.endpoints (drop (length l.yielded) (slice_split is_comma l.fn.list))
