use Rattle.std.proofs.Common.{◌≤◌, ◌+◌, length}
use Rattle.std.specs.Prelude.{vec_capacity, vec_len}
use Rattle.up_host.proofs.ShareLemmas.{Sharing}
use Rattle.up_host.proofs.sharing.share_trees.Given as goal

abbrev pub invariant-loop-held : goal.invariant-loop-held
invariant-loop-held g l = record {
  so_far : Sharing l.fn.trees.items l.left.items l.cells.items l.seats.items;
  cells_room : vec_len l.cells + length l.left.items ≤ vec_capacity l.cells;
  seats_room : vec_len l.seats + length l.left.items ≤ vec_capacity l.seats;
}

abbrev pub decreases-loop-held : goal.decreases-loop-held
decreases-loop-held g l = length l.left.items
