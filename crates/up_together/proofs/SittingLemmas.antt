-- Seats that have the marks of a host are its seats, and the other way round.
use Rattle.std.proofs.Common.{◌≡◌, List, [], ◌∷◌, refl, sym, ap, ◌∙◌}
use Rattle.std.specs.Prelude.{map}
use Rattle.up_shared.proofs.Pairs.{cons_none, cons_same}
use Rattle.up_shared.specs.Sharing.{AreSeats, EachPair, IsTreeSeat}
use Rattle.up_shared.specs.declared.shared.Seats.{Seats}
use Rattle.up_shared.specs.declared.shared.Shared.{Shared}
use Rattle.up_shared.specs.declared.shared.TreeCell.{TreeCell}
use Rattle.up_shared.specs.declared.shared.TreeSeat.{TreeSeat}
use Rattle.up_together.specs.Sitting.{cell_at, cell_of, clear_of, fixed_of, marks_at, marks_of, owner_at, owner_of}

module _ {D : Type 0} where
  pairs_by_lists : (cells : List (TreeCell D)) (seats : List (TreeSeat D)) → map owner_of seats ≡ map owner_at cells → map cell_of seats ≡ map cell_at cells → map fixed_of seats ≡ map clear_of seats → EachPair IsTreeSeat cells seats
  pairs_by_lists [] [] owners trees fixed = tt
  pairs_by_lists [] (x ∷ xs) owners trees fixed = absurd (cons_none (owner_of x) (map owner_of xs) owners)
  pairs_by_lists (c ∷ cells) [] owners trees fixed = absurd (cons_none (owner_at c) (map owner_at cells) (sym owners))
  pairs_by_lists (c ∷ cells) (x ∷ xs) owners trees fixed =
      let a = cons_same (owner_of x) (owner_at c) (map owner_of xs) (map owner_at cells) owners in
      let b = cons_same (cell_of x) (cell_at c) (map cell_of xs) (map cell_at cells) trees in
      let d = cons_same (fixed_of x) (clear_of x) (map fixed_of xs) (map clear_of xs) fixed in
      (record { owner = a.0; cell = b.0; fixed = d.0 }, pairs_by_lists cells xs a.1 b.1 d.1)

  owners_by_pairs : (cells : List (TreeCell D)) (seats : List (TreeSeat D)) → EachPair IsTreeSeat cells seats → map owner_of seats ≡ map owner_at cells
  owners_by_pairs [] [] h = refl
  owners_by_pairs [] (x ∷ xs) h = absurd h
  owners_by_pairs (c ∷ cells) [] h = absurd h
  owners_by_pairs (c ∷ cells) (x ∷ xs) h = ap (λ o. o ∷ map owner_of xs) h.0.owner ∙ ap (λ os. owner_at c ∷ os) (owners_by_pairs cells xs h.1)

  trees_by_pairs : (cells : List (TreeCell D)) (seats : List (TreeSeat D)) → EachPair IsTreeSeat cells seats → map cell_of seats ≡ map cell_at cells
  trees_by_pairs [] [] h = refl
  trees_by_pairs [] (x ∷ xs) h = absurd h
  trees_by_pairs (c ∷ cells) [] h = absurd h
  trees_by_pairs (c ∷ cells) (x ∷ xs) h = ap (λ o. o ∷ map cell_of xs) h.0.cell ∙ ap (λ os. cell_at c ∷ os) (trees_by_pairs cells xs h.1)

  fixed_by_pairs : (cells : List (TreeCell D)) (seats : List (TreeSeat D)) → EachPair IsTreeSeat cells seats → map fixed_of seats ≡ map clear_of seats
  fixed_by_pairs [] [] h = refl
  fixed_by_pairs [] (x ∷ xs) h = absurd h
  fixed_by_pairs (c ∷ cells) [] h = absurd h
  fixed_by_pairs (c ∷ cells) (x ∷ xs) h = ap (λ o. o ∷ map fixed_of xs) h.0.fixed ∙ ap (λ os. clear_of x ∷ os) (fixed_by_pairs cells xs h.1)

  pub sits_by_marks : (shared : Shared D) (seats : Seats D) → marks_of seats ≡ marks_at shared seats → AreSeats shared seats
  sits_by_marks shared seats same = record {
    trees = pairs_by_lists shared.trees.items seats.trees.items (ap (λ m. m.owners) same) (ap (λ m. m.trees) same) (ap (λ m. m.fixed) same);
    store = ap (λ m. m.store) same;
    store_fixed = ap (λ m. m.store_fixed) same;
    keys = ap (λ m. m.keys) same;
    keys_fixed = ap (λ m. m.keys_fixed) same;
  }

  pub marks_by_sits : (shared : Shared D) (seats : Seats D) → AreSeats shared seats → marks_of seats ≡ marks_at shared seats
  marks_by_sits shared seats sits =
      let owners = owners_by_pairs shared.trees.items seats.trees.items sits.trees in
      let trees = trees_by_pairs shared.trees.items seats.trees.items sits.trees in
      let fixed = fixed_by_pairs shared.trees.items seats.trees.items sits.trees in
      λ i. record { owners = owners i; trees = trees i; fixed = fixed i; store = sits.store i; store_fixed = sits.store_fixed i; keys = sits.keys i; keys_fixed = sits.keys_fixed i }
