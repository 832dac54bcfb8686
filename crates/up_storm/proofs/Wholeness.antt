-- The sessions' shares: what was split off from the seats of the host's first caller comes back to them.
use Rattle.std.proofs.Common.{◌≡◌, ℕ, zero, suc, ◌+◌, ◌*◌, ◌-◌, ◌^◌, ◌≤◌, Bool, List, [], ◌∷◌, length, refl, sym, ap, subst, ◌∙◌, arith, slice_get, Some}
use Rattle.std.specs.Prelude.{⊤, map}
use Rattle.up_cell.specs.Known.{Known}
use Rattle.up_host.specs.Alone.{HostState}
use Rattle.up_host.specs.Shares.{AreShared, IsSharedHost}
use Rattle.up_host.specs.declared.held.Held.{Held}
use Rattle.up_peer.specs.declared.loader.Loader.{Ghosts}
use Rattle.up_shared.proofs.Adding.{parts_of_whole, whole_by_parts}
use Rattle.up_shared.specs.Callers.{seats_same, seats_trans}
use Rattle.up_shared.specs.Sharing.{EachPair, SeatsLater, TreeSeatLater}
use Rattle.up_shared.specs.Splits.{AreBoth, AreFirsts, AreSeconds, AreWhole, AreWholeTrees, IsWhole, SeatsAdd, TreesAdd, first_tree, joined_trees, second_tree}
use Rattle.up_shared.specs.declared.shared.Seats.{Seats}
use Rattle.up_shared.specs.declared.shared.Shared.{Shared}
use Rattle.up_shared.specs.declared.shared.TreeCell.{TreeCell}
use Rattle.up_shared.specs.declared.shared.TreeSeat.{TreeSeat}
use Rattle.up_storm.specs.Seating.{AreBegun, AreJoined}
use Rattle.up_storm.specs.Sessions.{HasRun, Session}
use Rattle.up_tree.specs.States.{State}

-- a share: so many parts, and how often it was halved
record Share : Type 0 where
  part : ℕ
  halvings : ℕ

abbrev record_share : ℕ → ℕ → Share
record_share part halvings = record { part = part; halvings = halvings }

-- in parts of which 2 ^ n are one
abbrev in_parts : ℕ → Share → ℕ
in_parts n s = s.part * 2 ^ (n - s.halvings)

abbrev share_of : {E F : Type 0} → Known E F → Share
share_of v = record_share v.part v.halvings

-- what is taken of all seats of a caller keeps to the rules of a share
record IsShare {D : Type 0} (taken : Seats D → Share) : Type 0 where
  split : (s r o : Seats D) → AreFirsts s r → AreSeconds s o → SeatsAdd r o s → (n : ℕ) → (taken s).halvings + 1 ≤ n → in_parts n (taken r) + in_parts n (taken o) ≡ in_parts n (taken s)
  first : (s r : Seats D) → AreFirsts s r → (taken r).halvings ≤ (taken s).halvings + 1
  second : (s o : Seats D) → AreSeconds s o → (taken o).halvings ≤ (taken s).halvings + 1
  join : (s o b : Seats D) → AreBoth s o b → SeatsAdd s o b → (n : ℕ) → (taken s).halvings ≤ n → (taken o).halvings ≤ n → in_parts n (taken s) + in_parts n (taken o) ≡ in_parts n (taken b)
  both : (s o b : Seats D) → AreBoth s o b → (n : ℕ) → (taken s).halvings ≤ n → (taken o).halvings ≤ n → (taken b).halvings ≤ n
  later : (s t : Seats D) → SeatsLater s t → taken t ≡ taken s

-- a session's share stays while it runs
pub ran_later : {D L : Type 0} (loader : Ghosts L) (shared : Shared D) (full : Bool) (k n : ℕ) (v w : Session D L) → HasRun loader shared full k n v w → SeatsLater v.seats w.seats
ran_later {D} {L} loader shared full k zero v w h = subst (λ (s : Session D L). SeatsLater v.seats s.seats) (sym h) (seats_same v.seats)
ran_later loader shared full k (suc n) v w h =
    seats_trans v.seats h.0.seats w.seats h.1.answered.later (ran_later loader shared full k n h.0 w h.2)

-- who had the whole share has it again
record Back {D : Type 0} (taken : Seats D → Share) (n : ℕ) (seats all : Seats D) : Type 0 where
  parts_are : in_parts n (taken all) ≡ in_parts n (taken seats)
  all_is : (taken all).halvings ≤ n

none_add : (x : ℕ) → 0 * x + 0 * x ≡ 0 * x
none_add x = omega arith

module _ {D L : Type 0} (taken : Seats D → Share) (is : IsShare taken) where
  -- all sessions' shares together
  abbrev all_parts : ℕ → List (Session D L) → ℕ
  all_parts n [] = 0
  all_parts n (v ∷ vs) = in_parts n (taken v.seats) + all_parts n vs

  abbrev Bounded : ℕ → List (Session D L) → Type 0
  Bounded n [] = ⊤
  Bounded n (v ∷ vs) = ((taken v.seats).halvings ≤ n) × Bounded n vs

  record Begun (n : ℕ) (seats left : Seats D) (vs : List (Session D L)) : Type 0 where
    add : in_parts n (taken left) + all_parts n vs ≡ in_parts n (taken seats)
    left_is : (taken left).halvings ≤ n
    each : Bounded n vs

  begun_add : (none : L) (seed k n : ℕ) (seats left : Seats D) (vs : List (Session D L)) → AreBegun none seed k seats vs left → (taken seats).halvings + length vs ≤ n → Begun n seats left vs
  begun_add none seed k n seats left [] h less =
      let same : in_parts n (taken left) ≡ in_parts n (taken seats) = ap (λ (s : Seats D). in_parts n (taken s)) h in
      record {
        add = omega (arith, same);
        left_is = subst (λ (s : Seats D). (taken s).halvings ≤ n) (sym h) (omega (arith, less));
        each = tt;
      }
  begun_add none seed k n seats left (v ∷ vs) h less =
      let rest : Seats D = h.0 in
      let high : (taken rest).halvings ≤ (taken seats).halvings + 1 = is.first seats rest h.1 in
      let other : (taken v.seats).halvings ≤ (taken seats).halvings + 1 = is.second seats v.seats h.2 in
      let halves = is.split seats rest v.seats h.1 h.2 h.3 n (omega (arith, less)) in
      let more = begun_add none seed (k + 1) n rest left vs h.5 (omega (arith, less, high)) in
      record {
        add = omega (arith, halves, more.add);
        left_is = more.left_is;
        each = (omega (arith, other, less), more.each);
      }

  record Joined (n : ℕ) (seats all : Seats D) (ws : List (Session D L)) : Type 0 where
    add : in_parts n (taken all) ≡ in_parts n (taken seats) + all_parts n ws
    all_is : (taken all).halvings ≤ n

  joined_add : (n : ℕ) (seats all : Seats D) (ws : List (Session D L)) → AreJoined seats ws all → (taken seats).halvings ≤ n → Bounded n ws → Joined n seats all ws
  joined_add n seats all [] h less each =
      let same : in_parts n (taken all) ≡ in_parts n (taken seats) = ap (λ (s : Seats D). in_parts n (taken s)) h in
      record { add = omega (arith, same); all_is = subst (λ (s : Seats D). (taken s).halvings ≤ n) (sym h) less }
  joined_add n seats all (w ∷ ws) h less each =
      let both : Seats D = h.0 in
      let two = is.join seats w.seats both h.1 h.2 n less each.0 in
      let more = joined_add n both all ws h.4 (is.both seats w.seats both h.1 n less each.0) each.1 in
      record { add = omega (arith, two, more.add); all_is = more.all_is }

  same_parts : (n : ℕ) (vs ws : List (Session D L)) → length ws ≡ length vs → ((k : ℕ) (v w : Session D L) → slice_get vs k ≡ Some v → slice_get ws k ≡ Some w → SeatsLater v.seats w.seats)
      → Bounded n vs → (all_parts n ws ≡ all_parts n vs) × Bounded n ws
  same_parts n [] [] long later each = (refl, tt)
  same_parts n [] (w ∷ ws) long later each = absurd (omega (arith, long))
  same_parts n (v ∷ vs) [] long later each = absurd (omega (arith, long))
  same_parts n (v ∷ vs) (w ∷ ws) long later each =
      let one : taken w.seats ≡ taken v.seats = is.later v.seats w.seats (later 0 v w refl refl) in
      let more = same_parts n vs ws (omega (arith, long)) (λ k x y. later (suc k) x y) each.1 in
      let here : in_parts n (taken w.seats) ≡ in_parts n (taken v.seats) = ap (in_parts n) one in (
        omega (arith, here, more.0),
        (subst (λ (s : Share). s.halvings ≤ n) (sym one) each.0, more.1),
      )

  comes_back : (none : L) (seed n : ℕ) (seats left all : Seats D) (vs ws : List (Session D L)) → AreBegun none seed 0 seats vs left → AreJoined left ws all → length ws ≡ length vs
      → ((k : ℕ) (v w : Session D L) → slice_get vs k ≡ Some v → slice_get ws k ≡ Some w → SeatsLater v.seats w.seats) → (taken seats).halvings + length vs ≤ n → Back taken n seats all
  comes_back none seed n seats left all vs ws begun joined long later less =
      let b = begun_add none seed 0 n seats left vs begun less in
      let same = same_parts n vs ws long later b.each in
      let j = joined_add n left all ws joined b.left_is same.1 in
      record { parts_are = omega (arith, b.add, same.0, j.add); all_is = j.all_is }

-- ---- the shares of the store and of the keys

shares_same : (a b c d : ℕ) → a ≡ c → b ≡ d → record_share a b ≡ record_share c d
shares_same a b c d p q = ap (λ (n : ℕ). record_share n b) p ∙ ap (λ (n : ℕ). record_share c n) q

store_is : {D : Type 0} → IsShare (λ (s : Seats D). share_of s.store)
store_is = record {
  split = λ s r o f g add n less.
      let a = ap (λ (k : Known _ _). k.halvings) f.store in
      let b = ap (λ (k : Known _ _). k.halvings) g.store in
      add.store.add n (omega (arith, a, less)) (omega (arith, b, less)) (omega (arith, less));
  first = λ s r f. let a = ap (λ (k : Known _ _). k.halvings) f.store in omega (arith, a);
  second = λ s o g. let b = ap (λ (k : Known _ _). k.halvings) g.store in omega (arith, b);
  join = λ s o b h add n x y. let e = ap (λ (k : Known _ _). k.halvings) h.store in add.store.add n x y (omega (arith, e, x, y));
  both = λ s o b h n x y. let e = ap (λ (k : Known _ _). k.halvings) h.store in omega (arith, e, x, y);
  later = λ s t h. shares_same t.store.part t.store.halvings s.store.part s.store.halvings h.store.part h.store.halvings;
}

keys_are : {D : Type 0} → IsShare (λ (s : Seats D). share_of s.keys)
keys_are = record {
  split = λ s r o f g add n less.
      let a = ap (λ (k : Known _ _). k.halvings) f.keys in
      let b = ap (λ (k : Known _ _). k.halvings) g.keys in
      add.keys.add n (omega (arith, a, less)) (omega (arith, b, less)) (omega (arith, less));
  first = λ s r f. let a = ap (λ (k : Known _ _). k.halvings) f.keys in omega (arith, a);
  second = λ s o g. let b = ap (λ (k : Known _ _). k.halvings) g.keys in omega (arith, b);
  join = λ s o b h add n x y. let e = ap (λ (k : Known _ _). k.halvings) h.keys in add.keys.add n x y (omega (arith, e, x, y));
  both = λ s o b h n x y. let e = ap (λ (k : Known _ _). k.halvings) h.keys in omega (arith, e, x, y);
  later = λ s t h. shares_same t.keys.part t.keys.halvings s.keys.part s.keys.halvings h.keys.part h.keys.halvings;
}

-- ---- and of the tree at a place

module _ {D : Type 0} where
  abbrev tree_share : List (TreeSeat D) → ℕ → Share
  tree_share [] i = record_share 0 0
  tree_share (x ∷ xs) zero = share_of x.seat
  tree_share (x ∷ xs) (suc i) = tree_share xs i

  add_at : (xs ys zs : List (TreeSeat D)) → TreesAdd xs ys zs → (i n : ℕ) → (tree_share xs i).halvings ≤ n → (tree_share ys i).halvings ≤ n → (tree_share zs i).halvings ≤ n
      → in_parts n (tree_share xs i) + in_parts n (tree_share ys i) ≡ in_parts n (tree_share zs i)
  add_at [] [] [] h i n a b c = none_add (2 ^ (n - 0))
  add_at (x ∷ xs) (y ∷ ys) (z ∷ zs) h zero n a b c = h.0.add n a b c
  add_at (x ∷ xs) (y ∷ ys) (z ∷ zs) h (suc i) n a b c = add_at xs ys zs h.1 i n a b c
  add_at [] [] (z ∷ zs) h i n a b c = absurd h
  add_at [] (y ∷ ys) [] h i n a b c = absurd h
  add_at [] (y ∷ ys) (z ∷ zs) h i n a b c = absurd h
  add_at (x ∷ xs) [] [] h i n a b c = absurd h
  add_at (x ∷ xs) [] (z ∷ zs) h i n a b c = absurd h
  add_at (x ∷ xs) (y ∷ ys) [] h i n a b c = absurd h

  firsts_at : (xs : List (TreeSeat D)) (i : ℕ) → (tree_share (map first_tree xs) i).halvings ≤ (tree_share xs i).halvings + 1
  firsts_at [] i = omega arith
  firsts_at (x ∷ xs) zero = omega arith
  firsts_at (x ∷ xs) (suc i) = firsts_at xs i

  seconds_at : (xs : List (TreeSeat D)) (i : ℕ) → (tree_share (map second_tree xs) i).halvings ≤ (tree_share xs i).halvings + 1
  seconds_at [] i = omega arith
  seconds_at (x ∷ xs) zero = omega arith
  seconds_at (x ∷ xs) (suc i) = seconds_at xs i

  joined_at : (xs ys : List (TreeSeat D)) (i n : ℕ) → (tree_share xs i).halvings ≤ n → (tree_share ys i).halvings ≤ n → (tree_share (joined_trees xs ys) i).halvings ≤ n
  joined_at [] [] i n a b = a
  joined_at [] (y ∷ ys) i n a b = a
  joined_at (x ∷ xs) [] i n a b = a
  joined_at (x ∷ xs) (y ∷ ys) zero n a b = omega (arith, a, b)
  joined_at (x ∷ xs) (y ∷ ys) (suc i) n a b = joined_at xs ys i n a b

  later_at : (xs ys : List (TreeSeat D)) → EachPair TreeSeatLater xs ys → (i : ℕ) → tree_share ys i ≡ tree_share xs i
  later_at [] [] h i = refl
  later_at [] (y ∷ ys) h i = absurd h
  later_at (x ∷ xs) [] h i = absurd h
  later_at (x ∷ xs) (y ∷ ys) h zero = shares_same y.seat.part y.seat.halvings x.seat.part x.seat.halvings h.0.seat.part h.0.seat.halvings
  later_at (x ∷ xs) (y ∷ ys) h (suc i) = later_at xs ys h.1 i

  tree_is : (i : ℕ) → IsShare (λ (s : Seats D). tree_share s.trees.items i)
  tree_is i = record {
    split = λ s r o f g add n less.
        let a = subst (λ (xs : List (TreeSeat D)). (tree_share xs i).halvings ≤ (tree_share s.trees.items i).halvings + 1) (sym f.trees) (firsts_at s.trees.items i) in
        let b = subst (λ (xs : List (TreeSeat D)). (tree_share xs i).halvings ≤ (tree_share s.trees.items i).halvings + 1) (sym g.trees) (seconds_at s.trees.items i) in
        add_at r.trees.items o.trees.items s.trees.items add.trees i n (omega (arith, a, less)) (omega (arith, b, less)) (omega (arith, less));
    first = λ s r f. subst (λ (xs : List (TreeSeat D)). (tree_share xs i).halvings ≤ (tree_share s.trees.items i).halvings + 1) (sym f.trees) (firsts_at s.trees.items i);
    second = λ s o g. subst (λ (xs : List (TreeSeat D)). (tree_share xs i).halvings ≤ (tree_share s.trees.items i).halvings + 1) (sym g.trees) (seconds_at s.trees.items i);
    join = λ s o b h add n x y.
        add_at s.trees.items o.trees.items b.trees.items add.trees i n x y
        (subst (λ (xs : List (TreeSeat D)). (tree_share xs i).halvings ≤ n) (sym h.trees) (joined_at s.trees.items o.trees.items i n x y));
    both = λ s o b h n x y. subst (λ (xs : List (TreeSeat D)). (tree_share xs i).halvings ≤ n) (sym h.trees) (joined_at s.trees.items o.trees.items i n x y);
    later = λ s t h. later_at s.trees.items t.trees.items h.trees i;
  }

  -- the seats of a host that was shared
  new_at : (trees : List (Held (State D))) (cells : List (TreeCell D)) (seats : List (TreeSeat D)) → AreShared trees cells seats → (i : ℕ) → (tree_share seats i).halvings ≡ 0
  new_at [] [] [] h i = refl
  new_at (t ∷ trees) (c ∷ cells) (s ∷ seats) h zero = ap (λ (k : Known _ _). k.halvings) h.0.seat
  new_at (t ∷ trees) (c ∷ cells) (s ∷ seats) h (suc i) = new_at trees cells seats h.1 i
  new_at [] [] (s ∷ seats) h i = absurd h
  new_at [] (c ∷ cells) [] h i = absurd h
  new_at [] (c ∷ cells) (s ∷ seats) h i = absurd h
  new_at (t ∷ trees) [] [] h i = absurd h
  new_at (t ∷ trees) [] (s ∷ seats) h i = absurd h
  new_at (t ∷ trees) (c ∷ cells) [] h i = absurd h

  new_whole : (trees : List (Held (State D))) (cells : List (TreeCell D)) (seats : List (TreeSeat D)) → AreShared trees cells seats → AreWholeTrees seats
  new_whole [] [] [] h = tt
  new_whole (t ∷ trees) (c ∷ cells) (s ∷ seats) h =
      (ap (λ (k : Known _ _). k.part) h.0.seat ∙ sym (ap (λ (k : Known _ _). 2 ^ k.halvings) h.0.seat), new_whole trees cells seats h.1)
  new_whole [] [] (s ∷ seats) h = absurd h
  new_whole [] (c ∷ cells) [] h = absurd h
  new_whole [] (c ∷ cells) (s ∷ seats) h = absurd h
  new_whole (t ∷ trees) [] [] h = absurd h
  new_whole (t ∷ trees) [] (s ∷ seats) h = absurd h
  new_whole (t ∷ trees) (c ∷ cells) [] h = absurd h

  whole_trees : (n : ℕ) (xs ys : List (TreeSeat D)) → length ys ≡ length xs → AreWholeTrees xs → ((i : ℕ) → in_parts n (tree_share ys i) ≡ in_parts n (tree_share xs i))
      → ((i : ℕ) → (tree_share xs i).halvings ≤ n) → ((i : ℕ) → (tree_share ys i).halvings ≤ n) → AreWholeTrees ys
  whole_trees n [] [] long w e hx hy = tt
  whole_trees n [] (y ∷ ys) long w e hx hy = absurd (omega (arith, long))
  whole_trees n (x ∷ xs) [] long w e hx hy = absurd (omega (arith, long))
  whole_trees n (x ∷ xs) (y ∷ ys) long w e hx hy = (
    whole_by_parts n y.seat (hy 0) (e 0 ∙ parts_of_whole n x.seat (hx 0) w.0),
    whole_trees n xs ys (omega (arith, long)) w.1 (λ i. e (suc i)) (λ i. hx (suc i)) (λ i. hy (suc i)),
  )

module _ {D L : Type 0} (loader : Ghosts L) (shared : Shared D) where
  -- Once all seats are joined, the whole share of each log is theirs.
  pub whole_again : (full : Bool) (requests : ℕ) (none : L) (seed : ℕ) (host : HostState D) (seats left all : Seats D) (vs ws : List (Session D L))
      → IsSharedHost host shared seats → AreBegun none seed 0 seats vs left → AreJoined left ws all → length ws ≡ length vs
      → ((k : ℕ) (v w : Session D L) → slice_get vs k ≡ Some v → slice_get ws k ≡ Some w → HasRun loader shared full k requests v w)
      → length all.trees.items ≡ length seats.trees.items → AreWhole all
  whole_again full requests none seed host seats left all vs ws is_shared begun joined long ran even =
      let n : ℕ = length vs in
      let later : (k : ℕ) (v w : Session D L) → slice_get vs k ≡ Some v → slice_get ws k ≡ Some w → SeatsLater v.seats w.seats
      = λ k v w a b. ran_later loader shared full k requests v w (ran k v w a b) in
      let store = ap (λ (k : Known _ _). k.halvings) is_shared.store in
      let keys = ap (λ (k : Known _ _). k.halvings) is_shared.keys in
      let of_store = comes_back (λ (s : Seats D). share_of s.store) store_is none seed n seats left all vs ws begun joined long later (omega (arith, store)) in
      let of_keys = comes_back (λ (s : Seats D). share_of s.keys) keys_are none seed n seats left all vs ws begun joined long later (omega (arith, keys)) in
      let of_tree = λ (i : ℕ). comes_back (λ (s : Seats D). tree_share s.trees.items i) (tree_is i) none seed n seats left all vs ws begun joined long later
      (let zero_is = new_at host.trees shared.trees.items seats.trees.items is_shared.trees i in omega (arith, zero_is)) in
      let store_whole : IsWhole seats.store = ap (λ (k : Known _ _). k.part) is_shared.store ∙ sym (ap (λ (k : Known _ _). 2 ^ k.halvings) is_shared.store) in
      let keys_whole : IsWhole seats.keys = ap (λ (k : Known _ _). k.part) is_shared.keys ∙ sym (ap (λ (k : Known _ _). 2 ^ k.halvings) is_shared.keys) in
      record {
        trees = whole_trees n seats.trees.items all.trees.items even (new_whole host.trees shared.trees.items seats.trees.items is_shared.trees)
            (λ i. (of_tree i).parts_are)
            (λ i. let zero_is = new_at host.trees shared.trees.items seats.trees.items is_shared.trees i in omega (arith, zero_is)) (λ i. (of_tree i).all_is);
        store = whole_by_parts n all.store of_store.all_is (of_store.parts_are ∙ parts_of_whole n seats.store (omega (arith, store)) store_whole);
        keys = whole_by_parts n all.keys of_keys.all_is (of_keys.parts_are ∙ parts_of_whole n seats.keys (omega (arith, keys)) keys_whole);
      }
