use Rattle.std.proofs.Common.{length, drop}
use Rattle.std.specs.List.{slice_split}
use Rattle.up_names.specs.PathNames.{is_slash}
use Rattle.up_pattern.proofs.Stack.{Going}
use Rattle.up_pattern.proofs.patterns.parse_elements.Given as goal

abbrev pub invariant-loop-piece : goal.invariant-loop-piece
invariant-loop-piece l =
    Going (slice_split is_slash l.fn.pieces) l.elements.items l.place (drop (length l.yielded) (slice_split is_slash l.fn.pieces))
