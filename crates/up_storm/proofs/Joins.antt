-- What the seats of a storm's callers know of the tree of one session: as they are split off, and once they are joined.
use Rattle.std.proofs.Common.{◌≡◌, ℕ, suc, ◌+◌, Bool, true, false, cond, List, [], ◌∷◌, length, refl, sym, ap, ◌∙◌, arith, Option, Some, None}
use Rattle.std.specs.Prelude.{codes, map, nat_lt, if◌then◌else◌, ◌%◌, ◌==◌}
use Rattle.std.specs.Option.{option_map}
use Rattle.std.specs.Str.{bytes_eq}
use Rattle.up_calls.specs.Views.{SeenTree}
use Rattle.up_cell.specs.Positions.{insert, merged}
use Rattle.up_names.specs.Texts.{UserName}
use Rattle.up_shared.specs.Sharing.{EachPair, SeatsLater, TreeSeatLater, seat_for, tree_seen, views_of}
use Rattle.up_shared.specs.Splits.{AreBoth, AreFirsts, AreSeconds, both_trees, first_tree, joined_trees, second_tree}
use Rattle.up_shared.specs.declared.shared.Seats.{Seats}
use Rattle.up_shared.specs.declared.shared.TreeSeat.{TreeSeat}
use Rattle.up_storm.specs.Asked.{owner_text}

pub cons_same : (a b : UserName) (more rest : List UserName) → a ∷ more ≡ b ∷ rest → (a ≡ b) × (more ≡ rest)
cons_same a b more rest h = (cc, cc)

cons_none : (a : UserName) (more : List UserName) → a ∷ more ≡ [] → ⊥
cons_none a more h = absurd (cc)

pub some_same : {X : Type 0} (x y : X) → Some x ≡ Some y → x ≡ y
some_same x y h = cc

pub none_some : {X : Type 0} (x : X) → None ≡ Some x → ⊥
none_some x h = absurd (cc)

-- what a seat that was split off knows: as much was seen, and no record is its own
abbrev pub fresh : SeenTree → SeenTree
fresh v = record v { own = []; failed = 0 }

-- the own positions of a tree, if the seat is there
abbrev pub own_in : Option SeenTree → List ℕ
own_in None = []
own_in (Some v) = v.own

module _ {D : Type 0} where
  abbrev pub owners_of : List (TreeSeat D) → List UserName
  owners_of seats = map (λ (place : TreeSeat D). place.owner) seats

  -- ---- the seat at the tree of an owner

  pub found_map : (f : TreeSeat D → TreeSeat D) (owner : UserName) (xs : List (TreeSeat D)) → ((x : TreeSeat D) → (f x).owner ≡ x.owner)
      → seat_for (map f xs) owner ≡ option_map f (seat_for xs owner)
  found_map f owner [] keeps = refl
  found_map f owner (x ∷ xs) keeps = ap (λ (o : UserName). cond (bytes_eq o owner) (Some (f x)) (seat_for (map f xs) owner)) (keeps x) ∙ go (bytes_eq x.owner owner) (found_map f owner xs keeps)
    where
      go : (b : Bool) → seat_for (map f xs) owner ≡ option_map f (seat_for xs owner) → cond b (Some (f x)) (seat_for (map f xs) owner) ≡ option_map f (cond b (Some x) (seat_for xs owner))
      go true rest = refl
      go false rest = rest

  -- of joined seats it is both of theirs
  pub found_both : (owner : UserName) (xs ys : List (TreeSeat D)) (x y : TreeSeat D) → owners_of xs ≡ owners_of ys → seat_for xs owner ≡ Some x → seat_for ys owner ≡ Some y
      → seat_for (joined_trees xs ys) owner ≡ Some (both_trees x y)
  found_both owner [] ys x y same h k = absurd (none_some x h)
  found_both owner (v ∷ xs) [] x y same h k = absurd (none_some y k)
  found_both owner (v ∷ xs) (w ∷ ys) x y same h k =
      let parts = cons_same v.owner w.owner (owners_of xs) (owners_of ys) same in
      go (bytes_eq v.owner owner) h (ap (λ (o : UserName). cond (bytes_eq o owner) (Some w) (seat_for ys owner)) parts.0 ∙ k) (found_both owner xs ys x y parts.1)
    where
      go : (b : Bool) → cond b (Some v) (seat_for xs owner) ≡ Some x → cond b (Some w) (seat_for ys owner) ≡ Some y
          → (seat_for xs owner ≡ Some x → seat_for ys owner ≡ Some y → seat_for (joined_trees xs ys) owner ≡ Some (both_trees x y))
          → cond b (Some (both_trees v w)) (seat_for (joined_trees xs ys) owner) ≡ Some (both_trees x y)
      go true p q rest = ap (λ (s : TreeSeat D). Some (both_trees s w)) (some_same v x p) ∙ ap (λ (s : TreeSeat D). Some (both_trees x s)) (some_same w y q)
      go false p q rest = rest p q

  owners_joined : (xs ys : List (TreeSeat D)) → owners_of xs ≡ owners_of ys → owners_of (joined_trees xs ys) ≡ owners_of xs
  owners_joined [] ys h = refl
  owners_joined (x ∷ xs) [] h = refl
  owners_joined (x ∷ xs) (y ∷ ys) h = ap (λ (os : List UserName). x.owner ∷ os) (owners_joined xs ys (cons_same x.owner y.owner (owners_of xs) (owners_of ys) h).1)

  owners_map : (f : TreeSeat D → TreeSeat D) (xs : List (TreeSeat D)) → ((x : TreeSeat D) → (f x).owner ≡ x.owner) → owners_of (map f xs) ≡ owners_of xs
  owners_map f [] keeps = refl
  owners_map f (x ∷ xs) keeps = ap (λ (o : UserName). o ∷ owners_of (map f xs)) (keeps x) ∙ ap (λ (os : List UserName). x.owner ∷ os) (owners_map f xs keeps)

  pub owners_later : (xs ys : List (TreeSeat D)) → EachPair TreeSeatLater xs ys → owners_of ys ≡ owners_of xs
  owners_later [] [] h = refl
  owners_later [] (y ∷ ys) h = absurd h
  owners_later (x ∷ xs) [] h = absurd h
  owners_later (x ∷ xs) (y ∷ ys) h = ap (λ (o : UserName). o ∷ owners_of ys) h.0.owner ∙ ap (λ (os : List UserName). x.owner ∷ os) (owners_later xs ys h.1)

  -- ---- the seats of one caller are at both trees

  pub record AtBoth (s : Seats D) : Type 0 where
    pub owners : owners_of s.trees.items ≡ codes "a@storm.example" ∷ codes "b@storm.example" ∷ []

  -- what the caller has seen of the tree of session c
  abbrev pub seen_of : ℕ → Seats D → Option SeenTree
  seen_of c s = (views_of s).tree (owner_text c)

  pub record HasSeat (c : ℕ) (s : Seats D) : Type 0 where
    pub place : TreeSeat D
    pub there : seat_for s.trees.items (owner_text c) ≡ Some place

  record Found (xs : List (TreeSeat D)) (owner : UserName) : Type 0 where
    place : TreeSeat D
    there : seat_for xs owner ≡ Some place

  pub has_seat : (c : ℕ) (s : Seats D) → AtBoth s → HasSeat c s
  has_seat c s h = let found = by s.trees.items h.owners (c % 2 == 0) in record { place = found.place; there = found.there }
    where
      first : (x : TreeSeat D) (xs : List (TreeSeat D)) (owner : UserName) → x.owner ≡ owner → bytes_eq owner owner ≡ true → Found (x ∷ xs) owner
      first x xs owner is same = record { place = x; there = ap (λ (o : UserName). cond (bytes_eq o owner) (Some x) (seat_for xs owner)) is ∙ ap (λ (b : Bool). cond b (Some x) (seat_for xs owner)) same }

      by : (xs : List (TreeSeat D)) → owners_of xs ≡ codes "a@storm.example" ∷ codes "b@storm.example" ∷ [] → (b : Bool) → Found xs (if b then codes "a@storm.example" else codes "b@storm.example")
      by [] h b = absurd (cons_none (codes "a@storm.example") (codes "b@storm.example" ∷ []) (sym h))
      by (x ∷ []) h b = absurd (cons_none (codes "b@storm.example") [] (sym (cons_same x.owner (codes "a@storm.example") [] (codes "b@storm.example" ∷ []) h).1))
      by (x ∷ (y ∷ more)) h true = first x (y ∷ more) (codes "a@storm.example") (cons_same x.owner (codes "a@storm.example") (y.owner ∷ owners_of more) (codes "b@storm.example" ∷ []) h).0 refl
      by (x ∷ (y ∷ more)) h false =
          let one = cons_same x.owner (codes "a@storm.example") (y.owner ∷ owners_of more) (codes "b@storm.example" ∷ []) h in
          let two = cons_same y.owner (codes "b@storm.example") (owners_of more) [] one.1 in
          let rest = first y more (codes "b@storm.example") two.0 refl in
          record { place = rest.place; there = ap (λ (o : UserName). cond (bytes_eq o (codes "b@storm.example")) (Some x) (seat_for (y ∷ more) (codes "b@storm.example"))) one.0 ∙ rest.there }

  -- ---- split off

  pub first_same : (c : ℕ) (s rest : Seats D) → AreFirsts s rest → seen_of c rest ≡ seen_of c s
  first_same c s rest h =
      ap (λ (xs : List (TreeSeat D)). option_map tree_seen (seat_for xs (owner_text c))) h.trees
      ∙ ap (λ (o : Option (TreeSeat D)). option_map tree_seen o) (found_map first_tree (owner_text c) s.trees.items (λ x. refl)) ∙ go (seat_for s.trees.items (owner_text c))
    where
      go : (o : Option (TreeSeat D)) → option_map tree_seen (option_map first_tree o) ≡ option_map tree_seen o
      go None = refl
      go (Some x) = refl

  pub second_fresh : (c : ℕ) (s other : Seats D) → AreSeconds s other → seen_of c other ≡ option_map fresh (seen_of c s)
  second_fresh c s other h =
      ap (λ (xs : List (TreeSeat D)). option_map tree_seen (seat_for xs (owner_text c))) h.trees
      ∙ ap (λ (o : Option (TreeSeat D)). option_map tree_seen o) (found_map second_tree (owner_text c) s.trees.items (λ x. refl)) ∙ go (seat_for s.trees.items (owner_text c))
    where
      go : (o : Option (TreeSeat D)) → option_map tree_seen (option_map second_tree o) ≡ option_map fresh (option_map tree_seen o)
      go None = refl
      go (Some x) = refl

  pub first_at_both : (s rest : Seats D) → AreFirsts s rest → AtBoth s → AtBoth rest
  first_at_both s rest h at = record { owners = ap owners_of h.trees ∙ owners_map first_tree s.trees.items (λ x. refl) ∙ at.owners }

  pub second_at_both : (s other : Seats D) → AreSeconds s other → AtBoth s → AtBoth other
  second_at_both s other h at = record { owners = ap owners_of h.trees ∙ owners_map second_tree s.trees.items (λ x. refl) ∙ at.owners }

  pub later_at_both : (s t : Seats D) → SeatsLater s t → AtBoth s → AtBoth t
  later_at_both s t h at = record { owners = owners_later s.trees.items t.trees.items h.trees ∙ at.owners }

  -- ---- joined

  pub both_at_both : (s other both : Seats D) → AreBoth s other both → AtBoth s → AtBoth other → AtBoth both
  both_at_both s other both h at there = record { owners = ap owners_of h.trees ∙ owners_joined s.trees.items other.trees.items (at.owners ∙ sym there.owners) ∙ at.owners }

  pub own_both : (c : ℕ) (s other both : Seats D) → AreBoth s other both → AtBoth s → AtBoth other → own_in (seen_of c both) ≡ merged (own_in (seen_of c s)) (own_in (seen_of c other))
  own_both c s other both h at there =
      let x = has_seat c s at in
      let y = has_seat c other there in
      let z = found_both (owner_text c) s.trees.items other.trees.items x.place y.place (at.owners ∙ sym there.owners) x.there y.there in
      ap (λ (xs : List (TreeSeat D)). own_in (option_map tree_seen (seat_for xs (owner_text c)))) h.trees
      ∙ ap (λ (o : Option (TreeSeat D)). own_in (option_map tree_seen o)) z
      ∙ sym (ap (λ (o : Option (TreeSeat D)). merged (own_in (option_map tree_seen o)) (own_in (seen_of c other))) x.there
      ∙ ap (λ (o : Option (TreeSeat D)). merged x.place.seat.own (own_in (option_map tree_seen o))) y.there)

length_insert : (y : ℕ) (xs : List ℕ) → length (insert y xs) ≡ length xs + 1
length_insert y [] = refl
length_insert y (x ∷ xs) = go (nat_lt y x) (length_insert y xs)
  where
    go : (b : Bool) → length (insert y xs) ≡ length xs + 1 → length (cond b (y ∷ x ∷ xs) (x ∷ insert y xs)) ≡ suc (length xs) + 1
    go true rest = omega arith
    go false rest = omega (arith, rest)

pub length_merged : (xs ys : List ℕ) → length (merged xs ys) ≡ length xs + length ys
length_merged [] ys = omega arith
length_merged (x ∷ xs) ys = let rest = length_merged xs ys in let one = length_insert x (merged xs ys) in omega (arith, rest, one)
