-- Seats at trees, as they are split and joined one by one.
use Rattle.std.proofs.Common.{◌≡◌, ◌≤◌, ◌+◌, ℕ, List, [], ◌∷◌, ◌++◌, length, refl, sym, ap, subst, ◌∙◌, arith, slice_get, slice_set, Some, append_assoc, append-nil, length-append}
use Rattle.std.specs.Prelude.{map}
use Rattle.up_cell.specs.Known.{Known}
use Rattle.up_journal.specs.declared.limits.Limits.{Limits}
use Rattle.up_names.specs.Texts.{UserName}
use Rattle.up_shared.proofs.Pairs.{cons_none, cons_same, get_behind, length_map, map_append, set_behind}
use Rattle.up_shared.specs.Sharing.{AreSeats, EachPair, IsTreeSeat}
use Rattle.up_shared.specs.Splits.{AreBoth, AreFirsts, AreSeconds, SeenAlike, both_trees, first_tree, joined_trees, second_tree}
use Rattle.up_shared.specs.declared.shared.Seats.{Seats}
use Rattle.up_shared.specs.declared.shared.Shared.{Shared}
use Rattle.up_shared.specs.declared.shared.TreeCell.{TreeCell}
use Rattle.up_shared.specs.declared.shared.TreeSeat.{TreeSeat}

module _ {D : Type 0} where
  abbrev pub owner_of : TreeSeat D → UserName
  owner_of place = place.owner

  -- so many of the seats were split, and the others wait with their owners
  pub record Halving (old : List (TreeSeat D)) (left : List UserName) (now others : List (TreeSeat D)) : Type 0 where
    pub done : List (TreeSeat D)
    pub rest : List (TreeSeat D)
    pub whole : old ≡ done ++ rest
    pub owners : left ≡ map owner_of rest
    pub firsts : now ≡ map first_tree done ++ rest
    pub seconds : others ≡ map second_tree done

  pub halving_none : (old : List (TreeSeat D)) (left : List UserName) (others : List (TreeSeat D)) → left ≡ map owner_of old → others ≡ [] → Halving old left old others
  halving_none old left others is none = record { done = []; rest = old; whole = refl; owners = is; firsts = refl; seconds = none }

  -- the next one
  pub record Next (old : List (TreeSeat D)) (left : List UserName) (now others : List (TreeSeat D)) (owner : UserName) (more : List UserName) : Type 0 where
    pub place : TreeSeat D
    pub here : slice_get now (length others) ≡ Some place
    pub before : slice_get old (length others) ≡ Some place
    pub owner_is : owner ≡ place.owner
    pub step : Halving old more (slice_set now (length others) (first_tree place)) (others ++ second_tree place ∷ [])

  pub halving_next : (old : List (TreeSeat D)) (left : List UserName) (now others : List (TreeSeat D)) (owner : UserName) (more : List UserName)
      → Halving old left now others → left ≡ owner ∷ more → Next old left now others owner more
  halving_next old left now others owner more h is = by h.rest h.whole h.owners h.firsts
    where
      by : (rest : List (TreeSeat D)) → old ≡ h.done ++ rest → left ≡ map owner_of rest → now ≡ map first_tree h.done ++ rest → Next old left now others owner more
      by [] whole owners firsts = absurd (cons_none owner more (sym is ∙ owners))
      by (place ∷ rest) whole owners firsts =
          let many : length others ≡ length (map first_tree h.done) = ap length h.seconds ∙ length_map second_tree h.done ∙ sym (length_map first_tree h.done) in
          let many_done : length others ≡ length h.done = ap length h.seconds ∙ length_map second_tree h.done in
          let same = cons_same owner place.owner more (map owner_of rest) (sym is ∙ owners) in
          record {
            place = place;
            here = ap (λ (xs : List (TreeSeat D)). slice_get xs (length others)) firsts ∙ ap (slice_get (map first_tree h.done ++ place ∷ rest)) many ∙ get_behind (map first_tree h.done) place rest;
            before = ap (λ (xs : List (TreeSeat D)). slice_get xs (length others)) whole ∙ ap (slice_get (h.done ++ place ∷ rest)) many_done ∙ get_behind h.done place rest;
            owner_is = same.0;
            step = record {
              done = h.done ++ place ∷ [];
              rest = rest;
              whole = whole ∙ sym (append_assoc h.done (place ∷ []) rest);
              owners = same.1;
              firsts =
                  ap (λ (xs : List (TreeSeat D)). slice_set xs (length others) (first_tree place)) firsts
                  ∙ ap (λ n. slice_set (map first_tree h.done ++ place ∷ rest) n (first_tree place)) many
                  ∙ set_behind (map first_tree h.done) place rest (first_tree place)
                  ∙ sym (append_assoc (map first_tree h.done) (first_tree place ∷ []) rest)
                  ∙ ap (λ (xs : List (TreeSeat D)). xs ++ rest) (sym (map_append first_tree h.done (place ∷ [])));
              seconds = ap (λ (xs : List (TreeSeat D)). xs ++ second_tree place ∷ []) h.seconds ∙ sym (map_append second_tree h.done (place ∷ []));
            };
          }

  -- all were split
  pub halving_ends : (old : List (TreeSeat D)) (left : List UserName) (now others : List (TreeSeat D)) → Halving old left now others → left ≡ []
      → (now ≡ map first_tree old) × (others ≡ map second_tree old)
  halving_ends old left now others h is = by h.rest h.whole h.owners h.firsts
    where
      by : (rest : List (TreeSeat D)) → old ≡ h.done ++ rest → left ≡ map owner_of rest → now ≡ map first_tree h.done ++ rest → (now ≡ map first_tree old) × (others ≡ map second_tree old)
      by (place ∷ rest) whole owners firsts = absurd (cons_none place.owner (map owner_of rest) (sym owners ∙ is))
      by [] whole owners firsts =
          let same : old ≡ h.done = whole ∙ append-nil h.done in
          (firsts ∙ append-nil (map first_tree h.done) ∙ ap (map first_tree) (sym same), h.seconds ∙ ap (map second_tree) (sym same))

  -- nothing is left where as many were split as there are
  pub halving_all : (old : List (TreeSeat D)) (left : List UserName) (now others : List (TreeSeat D)) → Halving old left now others → length old ≤ length others
      → (now ≡ map first_tree old) × (others ≡ map second_tree old)
  halving_all old left now others h many = by h.rest h.whole h.owners
    where
      by : (rest : List (TreeSeat D)) → old ≡ h.done ++ rest → left ≡ map owner_of rest → (now ≡ map first_tree old) × (others ≡ map second_tree old)
      by [] whole owners = halving_ends old left now others h owners
      by (place ∷ rest) whole owners =
          let a : length old ≡ length h.done + length (place ∷ rest) = ap length whole ∙ length-append h.done (place ∷ rest) in
          let b : length others ≡ length h.done = ap length h.seconds ∙ length_map second_tree h.done in
          let c : length (place ∷ rest) ≡ length rest + 1 = omega arith in
          absurd (omega (arith, a, b, c, many))

  -- ---- joined

  -- the first i seats were joined with the first of the others
  pub record Joining (i : ℕ) (old others left now : List (TreeSeat D)) : Type 0 where
    pub done : List (TreeSeat D)
    pub rest : List (TreeSeat D)
    pub joined : List (TreeSeat D)
    pub so_many : length done ≡ i
    pub long : length joined ≡ i
    pub whole : old ≡ done ++ rest
    pub whole_others : others ≡ joined ++ left
    pub now_is : now ≡ joined_trees done joined ++ rest
    pub alike : EachPair SeenAlike done joined

  pub joining_none : (old others left : List (TreeSeat D)) → left ≡ others → Joining 0 old others left old
  joining_none old others left is = record { done = []; rest = old; joined = []; so_many = refl; long = refl; whole = refl; whole_others = sym is; now_is = refl; alike = tt }

  length_joined : (xs ys : List (TreeSeat D)) → length xs ≡ length ys → length (joined_trees xs ys) ≡ length xs
  length_joined [] ys h = refl
  length_joined (x ∷ xs) [] h = refl
  length_joined (x ∷ xs) (y ∷ ys) h = let rest = length_joined xs ys (omega (arith, h)) in omega (arith, rest)

  joined_behind : (xs ys : List (TreeSeat D)) (x y : TreeSeat D) → length xs ≡ length ys → joined_trees (xs ++ x ∷ []) (ys ++ y ∷ []) ≡ joined_trees xs ys ++ both_trees x y ∷ []
  joined_behind [] [] x y h = refl
  joined_behind [] (z ∷ ys) x y h = absurd (omega (arith, h))
  joined_behind (z ∷ xs) [] x y h = absurd (omega (arith, h))
  joined_behind (v ∷ xs) (w ∷ ys) x y h = ap (λ (l : List (TreeSeat D)). both_trees v w ∷ l) (joined_behind xs ys x y (omega (arith, h)))

  pairs_behind : (xs ys : List (TreeSeat D)) (x y : TreeSeat D) → EachPair SeenAlike xs ys → SeenAlike x y → EachPair SeenAlike (xs ++ x ∷ []) (ys ++ y ∷ [])
  pairs_behind [] [] x y h k = (k, tt)
  pairs_behind [] (z ∷ ys) x y h k = absurd h
  pairs_behind (z ∷ xs) [] x y h k = absurd h
  pairs_behind (v ∷ xs) (w ∷ ys) x y h k = (h.0, pairs_behind xs ys x y h.1 k)

  pub record NextPair (i : ℕ) (old others now more : List (TreeSeat D)) (other : TreeSeat D) : Type 0 where
    pub place : TreeSeat D
    pub here : slice_get now i ≡ Some place
    pub before : slice_get old i ≡ Some place
    pub that : slice_get others i ≡ Some other
    pub step : SeenAlike place other → Joining (i + 1) old others more (slice_set now i (both_trees place other))

  pub joining_next : (i : ℕ) (old others left now : List (TreeSeat D)) (other : TreeSeat D) (more : List (TreeSeat D)) → length old ≡ length others
      → Joining i old others left now → left ≡ other ∷ more → NextPair i old others now more other
  joining_next i old others left now other more even h is = by h.rest h.whole h.now_is
    where
      others_are : others ≡ h.joined ++ other ∷ more
      others_are = h.whole_others ∙ ap (λ (l : List (TreeSeat D)). h.joined ++ l) is

      same_length : length h.done ≡ length h.joined
      same_length = h.so_many ∙ sym h.long

      by : (rest : List (TreeSeat D)) → old ≡ h.done ++ rest → now ≡ joined_trees h.done h.joined ++ rest → NextPair i old others now more other
      by [] whole now_is =
          let a : length old ≡ length h.done = ap length (whole ∙ append-nil h.done) in
          let b : length others ≡ length h.joined + length (other ∷ more) = ap length others_are ∙ length-append h.joined (other ∷ more) in
          let c : length (other ∷ more) ≡ length more + 1 = omega arith in
          absurd (omega (arith, a, b, c, even, same_length))
      by (place ∷ rest) whole now_is =
          let at : i ≡ length (joined_trees h.done h.joined) = sym (length_joined h.done h.joined same_length ∙ h.so_many) in
          record {
            place = place;
            here = ap (λ (xs : List (TreeSeat D)). slice_get xs i) now_is ∙ ap (slice_get (joined_trees h.done h.joined ++ place ∷ rest)) at ∙ get_behind (joined_trees h.done h.joined) place rest;
            before = ap (λ (xs : List (TreeSeat D)). slice_get xs i) whole ∙ ap (slice_get (h.done ++ place ∷ rest)) (sym h.so_many) ∙ get_behind h.done place rest;
            that = ap (λ (xs : List (TreeSeat D)). slice_get xs i) others_are ∙ ap (slice_get (h.joined ++ other ∷ more)) (sym h.long) ∙ get_behind h.joined other more;
            step = λ pair. record {
              done = h.done ++ place ∷ [];
              rest = rest;
              joined = h.joined ++ other ∷ [];
              so_many = let l = length-append h.done (place ∷ []) in omega (arith, l, h.so_many);
              long = let l = length-append h.joined (other ∷ []) in omega (arith, l, h.long);
              whole = whole ∙ sym (append_assoc h.done (place ∷ []) rest);
              whole_others = others_are ∙ sym (append_assoc h.joined (other ∷ []) more);
              now_is =
                  ap (λ (xs : List (TreeSeat D)). slice_set xs i (both_trees place other)) now_is
                  ∙ ap (λ n. slice_set (joined_trees h.done h.joined ++ place ∷ rest) n (both_trees place other)) at
                  ∙ set_behind (joined_trees h.done h.joined) place rest (both_trees place other)
                  ∙ sym (append_assoc (joined_trees h.done h.joined) (both_trees place other ∷ []) rest)
                  ∙ ap (λ (xs : List (TreeSeat D)). xs ++ rest) (sym (joined_behind h.done h.joined place other same_length));
              alike = pairs_behind h.done h.joined place other h.alike pair;
            };
          }

  pub joining_ends : (i : ℕ) (old others left now : List (TreeSeat D)) → length old ≡ length others → Joining i old others left now → left ≡ [] → (now ≡ joined_trees old others) × EachPair SeenAlike old others
  joining_ends i old others left now even h is = by h.rest h.whole h.now_is
    where
      others_are : others ≡ h.joined
      others_are = h.whole_others ∙ ap (λ (l : List (TreeSeat D)). h.joined ++ l) is ∙ append-nil h.joined

      by : (rest : List (TreeSeat D)) → old ≡ h.done ++ rest → now ≡ joined_trees h.done h.joined ++ rest → (now ≡ joined_trees old others) × EachPair SeenAlike old others
      by (place ∷ rest) whole now_is =
          let a : length old ≡ length h.done + length (place ∷ rest) = ap length whole ∙ length-append h.done (place ∷ rest) in
          let b : length others ≡ length h.joined = ap length others_are in
          let c : length (place ∷ rest) ≡ length rest + 1 = omega arith in
          absurd (omega (arith, a, b, c, even, h.so_many, h.long))
      by [] whole now_is =
          let same : old ≡ h.done = whole ∙ append-nil h.done in (
            now_is ∙ append-nil (joined_trees h.done h.joined) ∙ ap (λ (l : List (TreeSeat D)). joined_trees l h.joined) (sym same) ∙ ap (joined_trees old) (sym others_are),
            subst (λ (l : List (TreeSeat D)). EachPair SeenAlike l others) (sym same) (subst (λ (l : List (TreeSeat D)). EachPair SeenAlike h.done l) (sym others_are) h.alike),
          )

  -- nothing is left where as many were joined as there are
  pub joining_all : (i : ℕ) (old others left now : List (TreeSeat D)) → length old ≡ length others → Joining i old others left now → length others ≤ i → (now ≡ joined_trees old others) × EachPair SeenAlike old others
  joining_all i old others left now even h all = joining_ends i old others left now even h (no_more left (let a = ap length h.whole_others in let b = length-append h.joined left in omega (arith, a, b, all, h.long)))
    where
      no_more : (xs : List (TreeSeat D)) → length xs ≡ 0 → xs ≡ []
      no_more [] e = refl
      no_more (x ∷ xs) e = absurd (omega (arith, e))

  -- ---- the seats stay the host's

  pub sits_first : (cells : List (TreeCell D)) (xs : List (TreeSeat D)) → EachPair IsTreeSeat cells xs → EachPair IsTreeSeat cells (map first_tree xs)
  sits_first [] [] h = tt
  sits_first [] (x ∷ xs) h = absurd h
  sits_first (c ∷ cells) [] h = absurd h
  sits_first (c ∷ cells) (x ∷ xs) h = (record { owner = h.0.owner; cell = h.0.cell; fixed = h.0.fixed }, sits_first cells xs h.1)

  pub sits_second : (cells : List (TreeCell D)) (xs : List (TreeSeat D)) → EachPair IsTreeSeat cells xs → EachPair IsTreeSeat cells (map second_tree xs)
  sits_second [] [] h = tt
  sits_second [] (x ∷ xs) h = absurd h
  sits_second (c ∷ cells) [] h = absurd h
  sits_second (c ∷ cells) (x ∷ xs) h = (record { owner = h.0.owner; cell = h.0.cell; fixed = h.0.fixed }, sits_second cells xs h.1)

  pub sits_both : (cells : List (TreeCell D)) (xs ys : List (TreeSeat D)) → EachPair IsTreeSeat cells xs → EachPair IsTreeSeat cells ys → EachPair IsTreeSeat cells (joined_trees xs ys)
  sits_both [] [] ys h k = tt
  sits_both [] (x ∷ xs) ys h k = absurd h
  sits_both (c ∷ cells) [] ys h k = absurd h
  sits_both (c ∷ cells) (x ∷ xs) [] h k = absurd k
  sits_both (c ∷ cells) (x ∷ xs) (y ∷ ys) h k = (record { owner = h.0.owner; cell = h.0.cell; fixed = h.0.fixed }, sits_both cells xs ys h.1 k.1)

  pub firsts_sit : (shared : Shared D) (before after : Seats D) → AreFirsts before after → AreSeats shared before → AreSeats shared after
  firsts_sit shared before after h sits = record {
    trees = subst (EachPair IsTreeSeat shared.trees.items) (sym h.trees) (sits_first shared.trees.items before.trees.items sits.trees);
    store = ap (λ (v : Known _ _). v.cell) h.store ∙ sits.store;
    store_fixed = ap (λ (v : Known _ _). v.fixed) h.store ∙ sits.store_fixed ∙ sym (ap (λ (l : Limits). Some l) h.store_limits);
    keys = ap (λ (v : Known _ _). v.cell) h.keys ∙ sits.keys;
    keys_fixed = ap (λ (v : Known _ _). v.fixed) h.keys ∙ sits.keys_fixed ∙ sym (ap (λ (l : Limits). Some l) h.keys_limits);
  }

  pub seconds_sit : (shared : Shared D) (before other : Seats D) → AreSeconds before other → AreSeats shared before → AreSeats shared other
  seconds_sit shared before other h sits = record {
    trees = subst (EachPair IsTreeSeat shared.trees.items) (sym h.trees) (sits_second shared.trees.items before.trees.items sits.trees);
    store = ap (λ (v : Known _ _). v.cell) h.store ∙ sits.store;
    store_fixed = ap (λ (v : Known _ _). v.fixed) h.store ∙ sits.store_fixed ∙ sym (ap (λ (l : Limits). Some l) h.store_limits);
    keys = ap (λ (v : Known _ _). v.cell) h.keys ∙ sits.keys;
    keys_fixed = ap (λ (v : Known _ _). v.fixed) h.keys ∙ sits.keys_fixed ∙ sym (ap (λ (l : Limits). Some l) h.keys_limits);
  }

  pub both_sit : (shared : Shared D) (before other after : Seats D) → AreBoth before other after → AreSeats shared before → AreSeats shared other → AreSeats shared after
  both_sit shared before other after h sits those = record {
    trees = subst (EachPair IsTreeSeat shared.trees.items) (sym h.trees) (sits_both shared.trees.items before.trees.items other.trees.items sits.trees those.trees);
    store = ap (λ (v : Known _ _). v.cell) h.store ∙ sits.store;
    store_fixed = ap (λ (v : Known _ _). v.fixed) h.store ∙ sits.store_fixed ∙ sym (ap (λ (l : Limits). Some l) h.store_limits);
    keys = ap (λ (v : Known _ _). v.cell) h.keys ∙ sits.keys;
    keys_fixed = ap (λ (v : Known _ _). v.fixed) h.keys ∙ sits.keys_fixed ∙ sym (ap (λ (l : Limits). Some l) h.keys_limits);
  }
