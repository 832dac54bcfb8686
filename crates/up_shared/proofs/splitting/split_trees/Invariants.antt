use Rattle.std.proofs.Common.{◌≡◌, ◌≤◌, ◌+◌, length}
use Rattle.std.specs.Prelude.{vec_capacity, vec_len}
use Rattle.up_shared.proofs.Halves.{Halving}
use Rattle.up_shared.proofs.splitting.split_trees.Given as goal

-- so many were split, and there is room for the others
abbrev pub invariant-loop-i : goal.invariant-loop-i
invariant-loop-i g l = record {
  so_far : Halving l.fn.seats.items l.left.items l.seats.items l.others.items;
  so_many : length l.others.items ≡ l.i;
  room : vec_len l.others + length l.left.items ≤ vec_capacity l.others;
}
