use Rattle.std.proofs.Common.{◌≡◌, ℕ, ◌≤◌, ◌++◌, List, length}
use Rattle.std.specs.Prelude.{vec_capacity}
use mathlib.Core.List.{reverse}
use Rattle.up_maps.proofs.piece.Piece.split_into.Given as goal

pub record Moving {X : Type 0} (all front back : List X) (front_room back_room : ℕ) : Type 0 where
  pub whole : front ++ reverse back ≡ all
  pub long : 256 ≤ length front
  pub short : length all ≤ 512
  pub front_kept : 512 ≤ front_room
  pub back_kept : 512 ≤ back_room

abbrev pub invariant-loop-self : goal.invariant-loop-self
invariant-loop-self g l = Moving l.initial.self-inside.items.items l.self-inside.items.items l.tail-inside.items.items (vec_capacity l.self-inside.items) (vec_capacity l.tail-inside.items)

abbrev pub decreases-loop-self : goal.decreases-loop-self
decreases-loop-self g l = length l.self-inside.items.items
