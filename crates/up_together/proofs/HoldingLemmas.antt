-- What callers of a shared host hold together stays the same, whatever they do.
use Rattle.std.proofs.Common.{◌≡◌, ℕ, zero, suc, ◌+◌, ◌≤◌, max, List, [], ◌∷◌, ◌++◌, length, Option, Some, None, slice_get, refl, sym, ap, subst, ◌∙◌, arith}
use Rattle.std.specs.List.{AllByRecursion}
use Rattle.up_cell.specs.Known.{Known, Onward}
use Rattle.up_cell.specs.Positions.{total}
use Rattle.up_shared.proofs.Adding.{parts_of_whole, whole_by_parts}
use Rattle.up_shared.specs.Sharing.{EachPair, SeatsLater, TreeSeatLater}
use Rattle.up_shared.specs.Splits.{AreWhole, AreWholeTrees, IsWhole, SeatsAdd, TreesAdd, parts}
use Rattle.up_shared.specs.declared.shared.Seats.{Seats}
use Rattle.up_shared.specs.declared.shared.TreeSeat.{TreeSeat}
use Rattle.up_together.specs.Holding.{Among, HasAll, HaveAll, Step, Step.Calls, Step.Splits, Step.Joins, Steps}

-- ---- one of many

total_among : {A : Type 0} (f : A → ℕ) (front back : List A) (x : A) → total f (front ++ x ∷ back) ≡ f x + total f (front ++ back)
total_among f [] back x = refl
total_among f (y ∷ ys) back x = omega (arith, total_among f ys back x)

all_within : {A : Type 0} (P : A → Type 0) (front back : List A) (x : A) → AllByRecursion P (front ++ x ∷ back) → P x × AllByRecursion P (front ++ back)
all_within P [] back x h = (h.0, h.1)
all_within P (y ∷ ys) back x h = let rest = all_within P ys back x h.1 in (rest.0, (h.0, rest.1))

all_with : {A : Type 0} (P : A → Type 0) (front back : List A) (x : A) → P x → AllByRecursion P (front ++ back) → AllByRecursion P (front ++ x ∷ back)
all_with P [] back x p h = (p, h)
all_with P (y ∷ ys) back x p h = (h.0, all_with P ys back x p h.1)

module _ {D : Type 0} where
  sum_among : (f : Seats D → ℕ) (a : Seats D) (all others : List (Seats D)) → Among a all others → total f all ≡ f a + total f others
  sum_among f a all others h = ap (total f) h.all_is ∙ total_among f h.front h.back a ∙ ap (λ k. f a + total f k) (sym h.others_is)

  all_among : (P : Seats D → Type 0) (a : Seats D) (all others : List (Seats D)) → Among a all others → AllByRecursion P all → P a × AllByRecursion P others
  all_among P a all others h k =
      let both = all_within P h.front h.back a (subst (AllByRecursion P) h.all_is k) in
      (both.0, subst (AllByRecursion P) (sym h.others_is) both.1)

  all_back : (P : Seats D → Type 0) (a : Seats D) (all others : List (Seats D)) → Among a all others → P a → AllByRecursion P others → AllByRecursion P all
  all_back P a all others h p k = subst (AllByRecursion P) (sym h.all_is) (all_with P h.front h.back a p (subst (AllByRecursion P) h.others_is k))

-- ---- what is weighed

-- how much of one cell a caller has, counted in parts of which 2 ^ n are one, and how small its parts are
pub record Weighs {D : Type 0} (weight : ℕ → Seats D → ℕ) (depth : Seats D → ℕ) : Type 0 where
  pub later : (a b : Seats D) → SeatsLater a b → (n : ℕ) → weight n b ≡ weight n a
  pub adds : (one other whole : Seats D) → SeatsAdd one other whole → (n : ℕ) → depth one ≤ n → depth other ≤ n → depth whole ≤ n → weight n one + weight n other ≡ weight n whole

module _ {D : Type 0} (weight : ℕ → Seats D → ℕ) (depth : Seats D → ℕ) (weighs : Weighs weight depth) where
  -- from some number of parts on, callers have as much together as others had
  record Same (all after : List (Seats D)) : Type 0 where
    pub from : ℕ
    pub same : (n : ℕ) → from ≤ n → total (weight n) after ≡ total (weight n) all

  step_same : (all after : List (Seats D)) → Step all after → Same all after
  step_same all after (Calls a b others x y later) = record {
    from = 0;
    same = λ n many. sum_among (weight n) b after others y ∙ ap (λ k. k + total (weight n) others) (weighs.later a b later n) ∙ sym (sum_among (weight n) a all others x);
  }
  step_same all after (Splits a one other others x is add) = record {
    from = max (depth one) (max (depth other) (depth a));
    same = λ n many.
        let sum = weighs.adds one other a add n (omega (arith, many)) (omega (arith, many)) (omega (arith, many)) in
        let here : total (weight n) after ≡ weight n one + (weight n other + total (weight n) others) = ap (total (weight n)) is in
        omega (arith, here, sum, sum_among (weight n) a all others x);
  }
  step_same all after (Joins one other both rest others x y is add) = record {
    from = max (depth one) (max (depth other) (depth both));
    same = λ n many.
        let sum = weighs.adds one other both add n (omega (arith, many)) (omega (arith, many)) (omega (arith, many)) in
        let here : total (weight n) after ≡ weight n both + total (weight n) others = ap (total (weight n)) is in
        omega (arith, here, sum, sum_among (weight n) one all rest x, sum_among (weight n) other rest others y);
  }

  steps_same : (k : ℕ) (all after : List (Seats D)) → Steps k all after → Same all after
  steps_same zero all after is = record { from = 0; same = λ n many. ap (total (weight n)) is }
  steps_same (suc k) all after steps =
      let one = step_same all steps.0 steps.1.0 in
      let two = steps_same k steps.0 after steps.1.1 in
      record {
        from = max one.from two.from;
        same = λ n many. two.same n (omega (arith, many)) ∙ one.same n (omega (arith, many));
      }

  -- who holds all seats has what the first had
  pub ends_same : (k : ℕ) (first last : Seats D) → Steps k (first ∷ []) (last ∷ []) → (from : ℕ) × ((n : ℕ) → from ≤ n → weight n last ≡ weight n first)
  ends_same k first last steps =
      let h = steps_same k (first ∷ []) (last ∷ []) steps in
      (h.from, λ n many. let sum = h.same n many in omega (arith, sum))

-- ---- the store, the keys, and each tree

module _ {E F : Type 0} where
  onward_parts : (v w : Known E F) → Onward v w → (n : ℕ) → parts n w ≡ parts n v
  onward_parts v w h n = λ i. (parts n (record v { part = h.part i; halvings = h.halvings i }))

  -- as many parts as a whole share has, from some number on
  ends_whole : (v w : Known E F) (from : ℕ) → ((n : ℕ) → from ≤ n → parts n w ≡ parts n v) → IsWhole v → IsWhole w
  ends_whole v w from same whole =
      let n : ℕ = max from (max v.halvings w.halvings) in
      whole_by_parts n w (omega arith) (same n (omega arith) ∙ parts_of_whole n v (omega arith) whole)

module _ {D : Type 0} where
  store_weighs : Weighs {D = D} (λ n s. parts n s.store) (λ s. s.store.halvings)
  store_weighs = record {
    later = λ a b h n. onward_parts a.store b.store h.store n;
    adds = λ one other whole h n x y z. h.store.add n x y z;
  }

  keys_weighs : Weighs {D = D} (λ n s. parts n s.keys) (λ s. s.keys.halvings)
  keys_weighs = record {
    later = λ a b h n. onward_parts a.keys b.keys h.keys n;
    adds = λ one other whole h n x y z. h.keys.add n x y z;
  }

  -- of the tree at a place, where there is one
  abbrev parts_if : ℕ → Option (TreeSeat D) → ℕ
  parts_if n (Some place) = parts n place.seat
  parts_if n None = 0

  abbrev depth_if : Option (TreeSeat D) → ℕ
  depth_if (Some place) = place.seat.halvings
  depth_if None = 0

  parts_later : (i : ℕ) (xs ys : List (TreeSeat D)) → EachPair TreeSeatLater xs ys → (n : ℕ) → parts_if n (slice_get ys i) ≡ parts_if n (slice_get xs i)
  parts_later i [] [] h n = refl
  parts_later i [] (y ∷ ys) h n = absurd h
  parts_later i (x ∷ xs) [] h n = absurd h
  parts_later zero (x ∷ xs) (y ∷ ys) h n = onward_parts x.seat y.seat h.0.seat n
  parts_later (suc i) (x ∷ xs) (y ∷ ys) h n = parts_later i xs ys h.1 n

  parts_add : (i : ℕ) (xs ys zs : List (TreeSeat D)) → TreesAdd xs ys zs → (n : ℕ) → depth_if (slice_get xs i) ≤ n → depth_if (slice_get ys i) ≤ n → depth_if (slice_get zs i) ≤ n
      → parts_if n (slice_get xs i) + parts_if n (slice_get ys i) ≡ parts_if n (slice_get zs i)
  parts_add i [] [] [] h n a b c = refl
  parts_add zero (x ∷ xs) (y ∷ ys) (z ∷ zs) h n a b c = h.0.add n a b c
  parts_add (suc i) (x ∷ xs) (y ∷ ys) (z ∷ zs) h n a b c = parts_add i xs ys zs h.1 n a b c
  parts_add i [] [] (z ∷ zs) h n a b c = absurd h
  parts_add i [] (y ∷ ys) zs h n a b c = absurd h
  parts_add i (x ∷ xs) [] zs h n a b c = absurd h
  parts_add i (x ∷ xs) (y ∷ ys) [] h n a b c = absurd h

  tree_weighs : (i : ℕ) → Weighs {D = D} (λ n s. parts_if n (slice_get s.trees.items i)) (λ s. depth_if (slice_get s.trees.items i))
  tree_weighs i = record {
    later = λ a b h n. parts_later i a.trees.items b.trees.items h.trees n;
    adds = λ one other whole h n x y z. parts_add i one.trees.items other.trees.items whole.trees.items h.trees n x y z;
  }

  -- ---- as many trees as ever

  later_long : (xs ys : List (TreeSeat D)) → EachPair TreeSeatLater xs ys → length ys ≡ length xs
  later_long [] [] h = refl
  later_long [] (y ∷ ys) h = absurd h
  later_long (x ∷ xs) [] h = absurd h
  later_long (x ∷ xs) (y ∷ ys) h = omega (arith, later_long xs ys h.1)

  add_long : (xs ys zs : List (TreeSeat D)) → TreesAdd xs ys zs → (length xs ≡ length zs) × (length ys ≡ length zs)
  add_long [] [] [] h = (refl, refl)
  add_long (x ∷ xs) (y ∷ ys) (z ∷ zs) h = let rest = add_long xs ys zs h.1 in (omega (arith, rest.0), omega (arith, rest.1))
  add_long [] [] (z ∷ zs) h = absurd h
  add_long [] (y ∷ ys) zs h = absurd h
  add_long (x ∷ xs) [] zs h = absurd h
  add_long (x ∷ xs) (y ∷ ys) [] h = absurd h

  abbrev Long : ℕ → Seats D → Type 0
  Long n s = length s.trees.items ≡ n

  step_long : (m : ℕ) (all after : List (Seats D)) → Step all after → AllByRecursion (Long m) all → AllByRecursion (Long m) after
  step_long m all after (Calls a b others x y later) h =
      let both = all_among (Long m) a all others x h in
      all_back (Long m) b after others y (later_long a.trees.items b.trees.items later.trees ∙ both.0) both.1
  step_long m all after (Splits a one other others x is add) h =
      let both = all_among (Long m) a all others x h in
      let long = add_long one.trees.items other.trees.items a.trees.items add.trees in
      subst (AllByRecursion (Long m)) (sym is) (long.0 ∙ both.0, (long.1 ∙ both.0, both.1))
  step_long m all after (Joins one other both rest others x y is add) h =
      let first = all_among (Long m) one all rest x h in
      let second = all_among (Long m) other rest others y first.1 in
      let long = add_long one.trees.items other.trees.items both.trees.items add.trees in
      subst (AllByRecursion (Long m)) (sym is) (sym long.0 ∙ first.0, second.1)

  steps_long : (m k : ℕ) (all after : List (Seats D)) → Steps k all after → AllByRecursion (Long m) all → AllByRecursion (Long m) after
  steps_long m zero all after is h = subst (AllByRecursion (Long m)) (sym is) h
  steps_long m (suc k) all after steps h = steps_long m k steps.0 after steps.1.1 (step_long m all steps.0 steps.1.0 h)

  -- ---- whole shares

  -- as much at each place as whole shares have
  trees_whole : (xs ys : List (TreeSeat D)) → length ys ≡ length xs → ((i : ℕ) → (from : ℕ) × ((n : ℕ) → from ≤ n → parts_if n (slice_get ys i) ≡ parts_if n (slice_get xs i))) → AreWholeTrees xs → AreWholeTrees ys
  trees_whole [] [] long same h = tt
  trees_whole [] (y ∷ ys) long same h = absurd (omega (arith, long))
  trees_whole (x ∷ xs) [] long same h = absurd (omega (arith, long))
  trees_whole (x ∷ xs) (y ∷ ys) long same h =
      (ends_whole x.seat y.seat (same 0).0 (same 0).1 h.0, trees_whole xs ys (omega (arith, long)) (λ i. same (suc i)) h.1)

  pub shares_whole : (first last : Seats D) (k : ℕ) → AreWhole first → Steps k (first ∷ []) (last ∷ []) → AreWhole last
  shares_whole first last k whole steps =
      let store = ends_same (λ n s. parts n s.store) (λ s. s.store.halvings) store_weighs k first last steps in
      let keys = ends_same (λ n s. parts n s.keys) (λ s. s.keys.halvings) keys_weighs k first last steps in
      record {
        trees =
            trees_whole first.trees.items last.trees.items (steps_long (length first.trees.items) k (first ∷ []) (last ∷ []) steps (refl, tt)).0
            (λ i. ends_same (λ n s. parts_if n (slice_get s.trees.items i)) (λ s. depth_if (slice_get s.trees.items i)) (tree_weighs i) k first last steps)
            whole.trees;
        store = ends_whole first.store last.store store.0 store.1 whole.store;
        keys = ends_whole first.keys last.keys keys.0 keys.1 whole.keys;
      }

-- ---- one look

has_all : {E F : Type 0} (v : Known E F) → IsWhole v → HasAll v
has_all v whole = record { look = λ n every. every whole }

trees_all : {D : Type 0} (xs : List (TreeSeat D)) → AreWholeTrees xs → AllByRecursion (λ place. HasAll place.seat) xs
trees_all [] h = tt
trees_all (x ∷ xs) h = (has_all x.seat h.0, trees_all xs h.1)

pub have_all : {D : Type 0} (seats : Seats D) → AreWhole seats → HaveAll seats
have_all seats whole = record { trees = trees_all seats.trees.items whole.trees; store = has_all seats.store whole.store; keys = has_all seats.keys whole.keys }

pub come_together : {D : Type 0} (first last : Seats D) (n : ℕ) → AreWhole first → Steps n (first ∷ []) (last ∷ []) → AreWhole last × HaveAll last
come_together first last n whole steps = let all = shares_whole first last n whole steps in (all, have_all last all)
