-- The sessions of a storm from where they begin to where their seats are joined, over the tree of session c.
use Rattle.std.proofs.Common.{◌≡◌, ℕ, zero, suc, ◌+◌, Bool, true, false, cond, List, [], ◌∷◌, length, refl, sym, ap, subst, ◌∙◌, arith, Option, Some, None, slice_get}
use Rattle.std.specs.Option.{option_map}
use Rattle.std.specs.Str.{bytes_eq}
use Rattle.up_calls.specs.Views.{SeenTree}
use Rattle.up_cell.specs.Positions.{merged}
use Rattle.up_lists.proofs.BeginsLemmas.{Begins-self, Begins-trans}
use Rattle.up_lists.specs.Begins.{Begins}
use Rattle.up_names.specs.Texts.{UserName}
use Rattle.up_shared.specs.Sharing.{EachPair, seat_for, tree_seen}
use Rattle.up_shared.specs.Splits.{SeenAlike, both_trees}
use Rattle.up_shared.specs.declared.shared.Seats.{Seats}
use Rattle.up_shared.specs.declared.shared.TreeSeat.{TreeSeat}
use Rattle.up_storm.proofs.Counts.{added_same}
use Rattle.up_storm.proofs.Joins.{AtBoth, both_at_both, cons_same, first_at_both, first_same, found_both, fresh, has_seat, none_some, own_both, own_in, owners_of, second_at_both, second_fresh, seen_of, some_same}
use Rattle.up_storm.specs.Asked.{owner_text}
use Rattle.up_storm.specs.Seating.{AreBegun, AreJoined, IsBegun}
use Rattle.up_storm.specs.Sessions.{Session}
use Rattle.up_storm.specs.Summary.{added_up}

-- ---- where they begin

module _ {D L : Type 0} (c : ℕ) (none : L) (seed : ℕ) (p : SeenTree) where
  -- a session that begins is at both trees, and has seen what was prepared
  pub record BegunAt (k : ℕ) (v : Session D L) : Type 0 where
    pub at : AtBoth v.seats
    pub seen : seen_of c v.seats ≡ Some (fresh p)
    pub begun : IsBegun none seed k v

  pub record AllBegun (k : ℕ) (vs : List (Session D L)) (left : Seats D) : Type 0 where
    pub each : (i : ℕ) (v : Session D L) → slice_get vs i ≡ Some v → BegunAt (k + i) v
    pub left_at : AtBoth left
    pub left_seen : seen_of c left ≡ Some p

  pub all_begun : (k : ℕ) (seats : Seats D) (vs : List (Session D L)) (left : Seats D) → AreBegun none seed k seats vs left → AtBoth seats → seen_of c seats ≡ Some p → AllBegun k vs left
  all_begun k seats [] left h at seen = record {
    each = λ i v there. absurd (none_some v there);
    left_at = subst AtBoth (sym h) at;
    left_seen = ap (λ (s : Seats D). seen_of c s) h ∙ seen;
  }
  all_begun k seats (v ∷ more) left h at seen =
      let rest : Seats D = h.0 in
      let next = all_begun (k + 1) rest more left h.5 (first_at_both seats rest h.1 at) (first_same c seats rest h.1 ∙ seen) in
      record {
        each = by next;
        left_at = next.left_at;
        left_seen = next.left_seen;
      }
    where
      by : AllBegun (k + 1) more left → (i : ℕ) (w : Session D L) → slice_get (v ∷ more) i ≡ Some w → BegunAt (k + i) w
      by next zero w there =
          let same : v ≡ w = some_same v w there in
          let e : k + 0 ≡ k = omega arith in
          subst (λ (s : Session D L). BegunAt (k + 0) s) same (subst (λ (n : ℕ). BegunAt n v) (sym e) (record {
            at = second_at_both seats v.seats h.2 at;
            seen = second_fresh c seats v.seats h.2 ∙ ap (λ (o : Option SeenTree). option_map fresh o) seen;
            begun = h.4;
          }))
      by next (suc i) w there = let e : k + 1 + i ≡ k + suc i = omega arith in subst (λ (n : ℕ). BegunAt n w) e (next.each i w there)

-- ---- where they are joined

-- a sum from the next number on
added_shift : (f : ℕ → ℕ) (k n : ℕ) → added_up (λ m. true) f (k + 1) n ≡ added_up (λ m. true) (λ m. f (m + 1)) k n
added_shift f k zero = refl
added_shift f k (suc n) = let rest = added_shift f (k + 1) n in omega (arith, rest)

module _ {D : Type 0} (owner : UserName) where
  -- the two seats at one tree had seen one log
  found_alike : (xs ys : List (TreeSeat D)) (x y : TreeSeat D) → owners_of xs ≡ owners_of ys → EachPair SeenAlike xs ys → seat_for xs owner ≡ Some x → seat_for ys owner ≡ Some y → SeenAlike x y
  found_alike [] ys x y same h p q = absurd (none_some x p)
  found_alike (v ∷ xs) [] x y same h p q = absurd h
  found_alike (v ∷ xs) (w ∷ ys) x y same h p q =
      let parts = cons_same v.owner w.owner (owners_of xs) (owners_of ys) same in
      go (bytes_eq v.owner owner) p (ap (λ (o : UserName). cond (bytes_eq o owner) (Some w) (seat_for ys owner)) parts.0 ∙ q) (found_alike xs ys x y parts.1 h.1)
    where
      go : (b : Bool) → cond b (Some v) (seat_for xs owner) ≡ Some x → cond b (Some w) (seat_for ys owner) ≡ Some y
          → (seat_for xs owner ≡ Some x → seat_for ys owner ≡ Some y → SeenAlike x y) → SeenAlike x y
      go true a b rest = subst (λ (s : TreeSeat D). SeenAlike s y) (some_same v x a) (subst (λ (s : TreeSeat D). SeenAlike v s) (some_same w y b) h.0)
      go false a b rest = rest a b

module _ {D L : Type 0} (c : ℕ) where
  -- the own positions of the k-th of these sessions
  abbrev pub own_at : Option (Session D L) → List ℕ
  own_at None = []
  own_at (Some w) = own_in (seen_of c w.seats)

  abbrev pub owns : List (Session D L) → ℕ → List ℕ
  owns ws k = own_at (slice_get ws k)

  -- what was counted of the seats, and of each session, is counted of all
  pub taken_counted : (count : List ℕ → ℕ) → ((xs ys : List ℕ) → count (merged xs ys) ≡ count xs + count ys) → (seats : Seats D) (ws : List (Session D L)) (all : Seats D) → AreJoined seats ws all → AtBoth seats
      → ((i : ℕ) (w : Session D L) → slice_get ws i ≡ Some w → AtBoth w.seats)
      → count (own_in (seen_of c all)) ≡ count (own_in (seen_of c seats)) + added_up (λ m. true) (λ k. count (owns ws k)) 0 (length ws)
  taken_counted count adds seats [] all h at each = let same : count (own_in (seen_of c all)) ≡ count (own_in (seen_of c seats)) = ap (λ (s : Seats D). count (own_in (seen_of c s))) h in omega (arith, same)
  taken_counted count adds seats (w ∷ ws) all h at each =
      let both : Seats D = h.0 in
      let here = each 0 w refl in
      let rest = taken_counted count adds both ws all h.4 (both_at_both seats w.seats both h.1 at here) (λ i v there. each (suc i) v there) in
      let one = ap count (own_both c seats w.seats both h.1 at here) ∙ adds (own_in (seen_of c seats)) (own_in (seen_of c w.seats)) in
      let shift = added_shift (λ k. count (owns (w ∷ ws) k)) 0 (length ws) in
      let same = added_same (λ m. true) (λ k. count (owns (w ∷ ws) (k + 1))) (λ k. count (owns ws k)) 0 (length ws)
      (λ m low high inside. let e : m + 1 ≡ suc m = omega arith in ap (λ (n : ℕ). count (owns (w ∷ ws) n)) e) in
      omega (arith, rest, one, shift, same)

  -- what each had seen begins what all have
  pub taken_begins : (seats : Seats D) (ws : List (Session D L)) (all : Seats D) → AreJoined seats ws all → AtBoth seats → ((i : ℕ) (w : Session D L) → slice_get ws i ≡ Some w → AtBoth w.seats)
      → (a d : SeenTree) → seen_of c seats ≡ Some a → seen_of c all ≡ Some d
      → Begins a.seen d.seen × ((i : ℕ) (w : Session D L) (b : SeenTree) → slice_get ws i ≡ Some w → seen_of c w.seats ≡ Some b → Begins b.seen d.seen)
  taken_begins seats [] all h at each a d first last = (
    subst (λ (x : SeenTree). Begins a.seen x.seen) (some_same a d (sym first ∙ sym (ap (λ (s : Seats D). seen_of c s) h) ∙ last)) (Begins-self a.seen),
    λ i w b there. absurd (none_some w there),
  )
  taken_begins seats (w ∷ ws) all h at each a d first last =
      let both : Seats D = h.0 in
      let here = each 0 w refl in
      let x = has_seat c seats at in
      let y = has_seat c w.seats here in
      let owners = at.owners ∙ sym here.owners in
      let pair = found_alike (owner_text c) seats.trees.items w.seats.trees.items x.place y.place owners h.3 x.there y.there in
      let found : seen_of c both ≡ Some (tree_seen (both_trees x.place y.place))
      = ap (λ (xs : List (TreeSeat D)). option_map tree_seen (seat_for xs (owner_text c))) h.1.trees
      ∙ ap (λ (o : Option (TreeSeat D)). option_map tree_seen o) (found_both (owner_text c) seats.trees.items w.seats.trees.items x.place y.place owners x.there y.there) in
      let rest = taken_begins both ws all h.4 (both_at_both seats w.seats both h.1 at here) (λ i v there. each (suc i) v there) (tree_seen (both_trees x.place y.place)) d found last in
      let mine : tree_seen x.place ≡ a = some_same (tree_seen x.place) a (sym (ap (λ (o : Option (TreeSeat D)). option_map tree_seen o) x.there) ∙ first) in (
        subst (λ (s : SeenTree). Begins s.seen d.seen) mine (Begins-trans pair.this rest.0),
        λ i v b there seen. by i v b there seen y.place (Begins-trans pair.that rest.0) (ap (λ (o : Option (TreeSeat D)). option_map tree_seen o) y.there) rest.1,
      )
    where
      by : (i : ℕ) (v : Session D L) (b : SeenTree) → slice_get (w ∷ ws) i ≡ Some v → seen_of c v.seats ≡ Some b
          → (y : TreeSeat D) → Begins y.seat.seen d.seen → seen_of c w.seats ≡ Some (tree_seen y)
          → ((j : ℕ) (u : Session D L) (e : SeenTree) → slice_get ws j ≡ Some u → seen_of c u.seats ≡ Some e → Begins e.seen d.seen) → Begins b.seen d.seen
      by zero v b there seen y begins mine rest =
          subst (λ (s : SeenTree). Begins s.seen d.seen) (some_same (tree_seen y) b (sym mine ∙ ap (λ (s : Session D L). seen_of c s.seats) (some_same w v there) ∙ seen)) begins
      by (suc i) v b there seen y begins mine rest = rest i v b there seen
