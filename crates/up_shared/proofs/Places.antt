-- The places of seats and cells.
use Rattle.std.proofs.Common.{◌≡◌, ◌≤◌, ◌<◌, ◌+◌, ℕ, zero, suc, Bool, true, false, not, cond, List, [], ◌∷◌, length, refl, sym, ap, subst, ◌∙◌, arith, option_map, slice_get, slice_set, Option, Some, None, nat_lt}
use Rattle.std.specs.Prelude.{is_some, position}
use Rattle.std.specs.List.{find, position_or_len}
use Rattle.std.specs.Str.{bytes_eq}
use Rattle.std.proofs.lemmas.Bool.Decides.{nat_tests}
use Rattle.std.proofs.lemmas.List.Folds.{find_at}
use Rattle.std.proofs.lemmas.Option.{slice_get_past}
use Rattle.std.proofs.lemmas.Slice.Eq.{bytes_eq-Decides}
use Rattle.up_names.specs.Texts.{UserName}
use Rattle.up_shared.proofs.Pairs.{each_length, some_none, some_same}
use Rattle.up_shared.specs.Sharing.{EachPair, IsTreeSeat, cell_for, is_cell_of, is_seat_of, seat_for, tree_seen}
use Rattle.up_shared.specs.declared.shared.TreeCell.{TreeCell}
use Rattle.up_shared.specs.declared.shared.TreeSeat.{TreeSeat}

-- ---- the place of a seat

nat_lt-true : (a b : ℕ) → nat_lt a b ≡ true → a < b
nat_lt-true a b e = grind (arith, nat_tests)

nat_lt-false : (a b : ℕ) → nat_lt a b ≡ false → b ≤ a
nat_lt-false a b e = grind (arith, nat_tests)

pub position-place : {X : Type 0} (p : X → Bool) (xs : List X) (i : ℕ) → position p xs ≡ Some i → (i ≡ position_or_len p xs) × (i < length xs)
position-place p xs i h = by_test (nat_lt (position_or_len p xs) (length xs)) refl where
  by_test : (b : Bool) → nat_lt (position_or_len p xs) (length xs) ≡ b → (i ≡ position_or_len p xs) × (i < length xs)
  by_test true e = let same : i ≡ position_or_len p xs = some_same i (position_or_len p xs) (sym h ∙ ap (λ b. cond b (Some (position_or_len p xs)) None) e) in (same, let lt : position_or_len p xs < length xs = nat_lt-true (position_or_len p xs) (length xs) e in omega arith)
  by_test false e = absurd (some_none i (sym h ∙ ap (λ b. cond b (Some (position_or_len p xs)) None) e))

pub position-none : {X : Type 0} (p : X → Bool) (xs : List X) → position p xs ≡ None → find p xs ≡ None
position-none p xs h = by_test (nat_lt (position_or_len p xs) (length xs)) refl where
  by_test : (b : Bool) → nat_lt (position_or_len p xs) (length xs) ≡ b → find p xs ≡ None
  by_test true e = absurd (some_none (position_or_len p xs) (sym (sym h ∙ ap (λ b. cond b (Some (position_or_len p xs)) None) e)))
  by_test false e = find_at p xs ∙ slice_get_past xs (position_or_len p xs) (nat_lt-false (position_or_len p xs) (length xs) e)

pub find_other : {X : Type 0} (q : X → Bool) (xs : List X) (i : ℕ) (x y : X) → slice_get xs i ≡ Some x → q x ≡ false → q y ≡ false → find q (slice_set xs i y) ≡ find q xs
find_other q [] i x y h k l = absurd (some_none x (sym h))
find_other q (z ∷ zs) zero x y h k l =
    let m : q z ≡ false = subst (λ w. q w ≡ false) (sym (some_same z x h)) k in
    ap (λ b. cond b (Some y) (find q zs)) l ∙ sym (ap (λ b. cond b (Some z) (find q zs)) m)
find_other q (z ∷ zs) (suc i) x y h k l = ap (λ r. cond (q z) (Some z) r) (find_other q zs i x y h k l)

-- what is found passes
passes_by : {X : Type 0} (p : X → Bool) (x y : X) (rest : Option X) (b : Bool) → p x ≡ b → cond b (Some x) rest ≡ Some y → (rest ≡ Some y → p y ≡ true) → p y ≡ true
passes_by p x y rest true e h later = subst (λ z. p z ≡ true) (some_same x y h) e
passes_by p x y rest false e h later = later h

pub found_passes : {X : Type 0} (p : X → Bool) (xs : List X) (y : X) → find p xs ≡ Some y → p y ≡ true
found_passes p [] y h = absurd (some_none y (sym h))
found_passes p (x ∷ xs) y h = passes_by p x y (find p xs) (p x) refl h (found_passes p xs y)

pub some_at : {X : Type 0} (xs : List X) (k : ℕ) → k < length xs → (x : X) × (slice_get xs k ≡ Some x)
some_at [] k l = absurd (omega arith)
some_at (x ∷ xs) zero l = (x, refl)
some_at (x ∷ xs) (suc k) l = some_at xs k (omega arith)

module _ {D : Type 0} where
  place_same : (owner : UserName) (cells : List (TreeCell D)) (seats : List (TreeSeat D)) → EachPair IsTreeSeat cells seats
      → position_or_len (is_cell_of owner) cells ≡ position_or_len (is_seat_of owner) seats
  place_same owner [] [] h = refl
  place_same owner [] (x ∷ xs) h = absurd h
  place_same owner (c ∷ cells) [] h = absurd h
  place_same owner (c ∷ cells) (x ∷ xs) h =
      ap (λ (o : UserName). cond (not (bytes_eq o owner)) (1 + position_or_len (is_cell_of owner) cells) 0) (sym h.0.owner)
      ∙ ap (λ n. cond (not (bytes_eq x.owner owner)) (1 + n) 0) (place_same owner cells xs h.1)

  pub position_same : (owner : UserName) (cells : List (TreeCell D)) (seats : List (TreeSeat D)) → EachPair IsTreeSeat cells seats
      → position (is_cell_of owner) cells ≡ position (is_seat_of owner) seats
  position_same owner cells seats h =
      ap (λ n. cond (nat_lt n (length cells)) (Some n) None) (place_same owner cells seats h)
      ∙ ap (λ l. cond (nat_lt (position_or_len (is_seat_of owner) seats) l) (Some (position_or_len (is_seat_of owner) seats)) None) (sym (each_length IsTreeSeat cells seats h))

  pub seat_at : (owner : UserName) (seats : List (TreeSeat D)) (i : ℕ) (x : TreeSeat D) → position (is_seat_of owner) seats ≡ Some i → slice_get seats i ≡ Some x → seat_for seats owner ≡ Some x
  seat_at owner seats i x h at = find_at (is_seat_of owner) seats ∙ ap (slice_get seats) (sym (position-place (is_seat_of owner) seats i h).0) ∙ at

  pub owner_at : (owner : UserName) (seats : List (TreeSeat D)) (i : ℕ) (x : TreeSeat D) → position (is_seat_of owner) seats ≡ Some i → slice_get seats i ≡ Some x → x.owner ≡ owner
  owner_at owner seats i x h at = (bytes_eq-Decides x.owner owner).0 (found_passes (is_seat_of owner) seats x (seat_at owner seats i x h at))

  -- whether a host has the tree is whether its caller has a seat there
  pub has_same : (owner : UserName) (cells : List (TreeCell D)) (seats : List (TreeSeat D)) → EachPair IsTreeSeat cells seats
      → is_some (position (is_cell_of owner) cells) ≡ is_some (option_map tree_seen (seat_for seats owner))
  has_same owner cells seats h = ap is_some (position_same owner cells seats h) ∙ by (position (is_seat_of owner) seats) refl
    where
      by : (found : Option ℕ) → position (is_seat_of owner) seats ≡ found → is_some found ≡ is_some (option_map tree_seen (seat_for seats owner))
      by None e = sym (ap (λ o. is_some (option_map tree_seen o)) (position-none (is_seat_of owner) seats e))
      by (Some i) e =
          let x = some_at seats i (position-place (is_seat_of owner) seats i e).1 in
          sym (ap (λ o. is_some (option_map tree_seen o)) (seat_at owner seats i x.0 e x.1))

  -- the cell at the place of an owner's tree
  pub cell_at : (owner : UserName) (cells : List (TreeCell D)) (i : ℕ) (x : TreeCell D) → position (is_cell_of owner) cells ≡ Some i → slice_get cells i ≡ Some x → cell_for cells owner ≡ Some x.cell
  cell_at owner cells i x h at =
      ap (option_map (λ (tree : TreeCell D). tree.cell)) (find_at (is_cell_of owner) cells ∙ ap (slice_get cells) (sym (position-place (is_cell_of owner) cells i h).0) ∙ at)

  pub cell_none : (owner : UserName) (cells : List (TreeCell D)) → position (is_cell_of owner) cells ≡ None → cell_for cells owner ≡ None
  cell_none owner cells h = ap (option_map (λ (tree : TreeCell D). tree.cell)) (position-none (is_cell_of owner) cells h)

  -- the seat at an owner's tree is of the cell of that tree
  pub cell_same : (owner : UserName) (cells : List (TreeCell D)) (seats : List (TreeSeat D)) → EachPair IsTreeSeat cells seats
      → option_map (λ (place : TreeSeat D). place.seat.cell) (seat_for seats owner) ≡ cell_for cells owner
  cell_same owner [] [] h = refl
  cell_same owner [] (x ∷ xs) h = absurd h
  cell_same owner (c ∷ cells) [] h = absurd h
  cell_same owner (c ∷ cells) (x ∷ xs) h =
      ap (λ (o : UserName). option_map (λ (place : TreeSeat D). place.seat.cell) (cond (bytes_eq o owner) (Some x) (seat_for xs owner))) h.0.owner
      ∙ by (bytes_eq c.owner owner) (cell_same owner cells xs h.1)
    where
      by : (b : Bool) → option_map (λ (place : TreeSeat D). place.seat.cell) (seat_for xs owner) ≡ option_map (λ (tree : TreeCell D). tree.cell) (find (is_cell_of owner) cells)
          → option_map (λ (place : TreeSeat D). place.seat.cell) (cond b (Some x) (seat_for xs owner)) ≡ option_map (λ (tree : TreeCell D). tree.cell) (cond b (Some c) (find (is_cell_of owner) cells))
      by true rest = ap (λ t. Some t) h.0.cell
      by false rest = rest
