use Rattle.std.proofs.Common.{length, drop}
use Rattle.std.specs.List.{slice_split}
use Rattle.up_names.specs.PathNames.{is_slash}
use Rattle.up_names.proofs.PathPieces.{Going}
use Rattle.up_names.proofs.path_parts.take_pieces.Given as goal

abbrev pub invariant-loop-piece : goal.invariant-loop-piece
invariant-loop-piece l =
    Going l.fn.path.owner l.fn.place (slice_split is_slash l.fn.pieces) l.path l.place (drop (length l.yielded) (slice_split is_slash l.fn.pieces))
