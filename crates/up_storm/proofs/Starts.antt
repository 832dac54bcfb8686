-- What the seats of the first caller know of the tree of session c when a host is shared, and from which number on own records are counted.
use Rattle.std.proofs.Common.{◌≡◌, ℕ, zero, suc, ◌+◌, ◌<◌, Bool, true, false, cond, List, [], ◌∷◌, length, refl, sym, ap, subst, ◌∙◌, arith, Option, Some, None, slice_get}
use Rattle.std.specs.Prelude.{codes}
use Rattle.std.specs.Option.{option_map}
use Rattle.std.specs.Str.{bytes_eq}
use Rattle.up_calls.specs.Views.{SeenTree}
use Rattle.up_cell.specs.Known.{Known}
use Rattle.up_disk.specs.declared.disk.Disk as disk
use Rattle.up_entry.specs.declared.records.Rec.{Rec}
use Rattle.up_host.specs.Alone.{HostState, tree_for, tree_view, views}
use Rattle.up_host.specs.Shares.{AreShared, IsSharedHost}
use Rattle.up_host.specs.declared.held.Held.{Held}
use Rattle.up_journal.specs.declared.limits.Limits.{Limits}
use Rattle.up_names.specs.Texts.{UserName}
use Rattle.up_shared.specs.Sharing.{seat_for, tree_seen}
use Rattle.up_shared.specs.Splits.{AreBoth, AreFirsts, AreWholeTrees, IsWhole, first_tree}
use Rattle.up_shared.specs.declared.shared.Seats.{Seats}
use Rattle.up_shared.specs.declared.shared.Shared.{Shared}
use Rattle.up_shared.specs.declared.shared.TreeCell.{TreeCell}
use Rattle.up_shared.specs.declared.shared.TreeSeat.{TreeSeat}
use Rattle.up_storm.proofs.Joins.{AtBoth, both_at_both, cons_same, found_both, found_map, fresh, has_seat, none_some, owners_of, seen_of, some_same}
use Rattle.up_storm.specs.Asked.{owner_text}
use Rattle.up_storm.specs.Seating.{AreBegun, AreJoined}
use Rattle.up_storm.specs.Sessions.{Session}
use Rattle.up_tree.specs.States.{State}

-- ---- as the host is shared

abbrev seen_as : List Rec → List ℕ → ℕ → UserName × Limits → SeenTree
seen_as seen own failed fixed = record { seen = seen; own = own; failed = failed; fixed = fixed }

seen_same : (s t : List Rec) (o p : List ℕ) (m n : ℕ) (x y : UserName × Limits) → s ≡ t → o ≡ p → m ≡ n → x ≡ y → seen_as s o m x ≡ seen_as t p n y
seen_same s t o p m n x y g h i j =
    ap (λ (seen : List Rec). seen_as seen o m x) g ∙ ap (λ (own : List ℕ). seen_as t own m x) h ∙ ap (λ (failed : ℕ). seen_as t p failed x) i ∙ ap (λ (fixed : UserName × Limits). seen_as t p n fixed) j

abbrev pair_of : UserName → Limits → UserName × Limits
pair_of owner limits = (owner, limits)

module _ {D : Type 0} where
  -- the seat of a new cell, which has seen what the host's one caller had
  record IsNewSeat (o : Option (TreeSeat D)) (v : SeenTree) : Type 0 where
    place : TreeSeat D
    there : o ≡ Some place
    seen : tree_seen place ≡ fresh v
    base : place.seat.base ≡ length v.seen

  shared_at : (disks : disk.Ghosts D) (owner : UserName) (v : SeenTree) (trees : List (Held (State D))) (cells : List (TreeCell D)) (seats : List (TreeSeat D)) → AreShared trees cells seats
      → option_map (tree_view disks) (tree_for trees owner) ≡ Some v → IsNewSeat (seat_for seats owner) v
  shared_at disks owner v [] [] [] h is = absurd (none_some v is)
  shared_at disks owner v (t ∷ trees) (c ∷ cells) (s ∷ seats) h is =
      subst (λ (o : UserName). IsNewSeat (cond (bytes_eq o owner) (Some s) (seat_for seats owner)) v) (sym h.0.seat_owner)
      (go (bytes_eq t.state.owner owner) is (shared_at disks owner v trees cells seats h.1))
    where
      go : (b : Bool) → option_map (tree_view disks) (cond b (Some t) (tree_for trees owner)) ≡ Some v
          → (option_map (tree_view disks) (tree_for trees owner) ≡ Some v → IsNewSeat (seat_for seats owner) v) → IsNewSeat (cond b (Some s) (seat_for seats owner)) v
      go true found rest =
          let same : tree_view disks t ≡ v = some_same (tree_view disks t) v found in
          record {
            place = s;
            there = refl;
            seen = seen_same s.seat.seen v.seen s.seat.own [] s.seat.failed 0 (s.owner, s.limits) v.fixed
                (ap (λ (k : Known _ _). k.seen) h.0.seat ∙ ap (λ (x : SeenTree). x.seen) same)
                (ap (λ (k : Known _ _). k.own) h.0.seat)
                (ap (λ (k : Known _ _). k.failed) h.0.seat)
                (ap (λ (o : UserName). pair_of o s.limits) h.0.seat_owner ∙ ap (λ (l : Limits). pair_of t.state.owner l) h.0.limits ∙ ap (λ (x : SeenTree). x.fixed) same);
            base = ap (λ (k : Known _ _). k.base) h.0.seat ∙ ap (λ (x : SeenTree). length x.seen) same;
          }
      go false found rest = rest found
  shared_at disks owner v [] [] (s ∷ seats) h is = absurd h
  shared_at disks owner v [] (c ∷ cells) [] h is = absurd h
  shared_at disks owner v [] (c ∷ cells) (s ∷ seats) h is = absurd h
  shared_at disks owner v (t ∷ trees) [] [] h is = absurd h
  shared_at disks owner v (t ∷ trees) [] (s ∷ seats) h is = absurd h
  shared_at disks owner v (t ∷ trees) (c ∷ cells) [] h is = absurd h

  -- the number of records from which on a caller's own ones are counted, at the tree of session c
  abbrev pub base_of : ℕ → Seats D → Option ℕ
  base_of c s = option_map (λ (place : TreeSeat D). place.seat.base) (seat_for s.trees.items (owner_text c))

  -- the first caller has seen what was there, and counts from there on
  pub record StartsAt (c : ℕ) (s : Seats D) (v : SeenTree) : Type 0 where
    pub seen : seen_of c s ≡ Some (fresh v)
    pub base : base_of c s ≡ Some (length v.seen)

  pub starts_at : (disks : disk.Ghosts D) (c : ℕ) (host : HostState D) (shared : Shared D) (seats : Seats D) (v : SeenTree) → IsSharedHost host shared seats
      → (views disks host).tree (owner_text c) ≡ Some v → StartsAt c seats v
  starts_at disks c host shared seats v is_shared there =
      let new = shared_at disks (owner_text c) v host.trees shared.trees.items seats.trees.items is_shared.trees there in
      record {
        seen = ap (λ (o : Option (TreeSeat D)). option_map tree_seen o) new.there ∙ ap (λ (x : SeenTree). Some x) new.seen;
        base = ap (λ (o : Option (TreeSeat D)). option_map (λ (place : TreeSeat D). place.seat.base) o) new.there ∙ ap (λ (n : ℕ). Some n) new.base;
      }

  -- ---- the number from which on own records are counted stays

  first_base : (c : ℕ) (s rest : Seats D) → AreFirsts s rest → base_of c rest ≡ base_of c s
  first_base c s rest h =
      ap (λ (xs : List (TreeSeat D)). option_map (λ (place : TreeSeat D). place.seat.base) (seat_for xs (owner_text c))) h.trees
      ∙ ap (λ (o : Option (TreeSeat D)). option_map (λ (place : TreeSeat D). place.seat.base) o) (found_map first_tree (owner_text c) s.trees.items (λ x. refl)) ∙ go (seat_for s.trees.items (owner_text c))
    where
      go : (o : Option (TreeSeat D)) → option_map (λ (place : TreeSeat D). place.seat.base) (option_map first_tree o) ≡ option_map (λ (place : TreeSeat D). place.seat.base) o
      go None = refl
      go (Some x) = refl

  both_base : (c : ℕ) (s other both : Seats D) → AreBoth s other both → AtBoth s → AtBoth other → base_of c both ≡ base_of c s
  both_base c s other both h at there =
      let x = has_seat c s at in
      let y = has_seat c other there in
      let z = found_both (owner_text c) s.trees.items other.trees.items x.place y.place (at.owners ∙ sym there.owners) x.there y.there in
      ap (λ (xs : List (TreeSeat D)). option_map (λ (place : TreeSeat D). place.seat.base) (seat_for xs (owner_text c))) h.trees
      ∙ ap (λ (o : Option (TreeSeat D)). option_map (λ (place : TreeSeat D). place.seat.base) o) z
      ∙ sym (ap (λ (o : Option (TreeSeat D)). option_map (λ (place : TreeSeat D). place.seat.base) o) x.there)

  pub begun_base : {L : Type 0} (c : ℕ) (none : L) (seed k : ℕ) (seats : Seats D) (vs : List (Session D L)) (left : Seats D) → AreBegun none seed k seats vs left → base_of c left ≡ base_of c seats
  begun_base c none seed k seats [] left h = ap (λ (s : Seats D). base_of c s) h
  begun_base c none seed k seats (v ∷ more) left h = begun_base c none seed (k + 1) h.0 more left h.5 ∙ first_base c seats h.0 h.1

  pub joined_base : {L : Type 0} (c : ℕ) (seats : Seats D) (ws : List (Session D L)) (all : Seats D) → AreJoined seats ws all → AtBoth seats
      → ((i : ℕ) (w : Session D L) → slice_get ws i ≡ Some w → AtBoth w.seats) → base_of c all ≡ base_of c seats
  joined_base c seats [] all h at each = ap (λ (s : Seats D). base_of c s) h
  joined_base c seats (w ∷ ws) all h at each =
      let here = each 0 w refl in
      joined_base c h.0 ws all h.4 (both_at_both seats w.seats h.0 h.1 at here) (λ i v there. each (suc i) v there)
      ∙ both_base c seats w.seats h.0 h.1 at here

  -- ---- the seat at the place of the tree

  pub place_is : (c : ℕ) → c < 2 → (xs : List (TreeSeat D)) → owners_of xs ≡ codes "a@storm.example" ∷ codes "b@storm.example" ∷ [] → (seat : TreeSeat D) → slice_get xs c ≡ Some seat
      → seat_for xs (owner_text c) ≡ Some seat
  place_is zero low [] owners seat there = absurd (none_some seat there)
  place_is zero low (x ∷ xs) owners seat there =
      ap (λ (o : UserName). cond (bytes_eq o (codes "a@storm.example")) (Some x) (seat_for xs (codes "a@storm.example")))
      (cons_same x.owner (codes "a@storm.example") (owners_of xs) (codes "b@storm.example" ∷ []) owners).0 ∙ there
  place_is (suc zero) low [] owners seat there = absurd (none_some seat there)
  place_is (suc zero) low (x ∷ []) owners seat there = absurd (none_some seat there)
  place_is (suc zero) low (x ∷ (y ∷ more)) owners seat there =
      let one = cons_same x.owner (codes "a@storm.example") (y.owner ∷ owners_of more) (codes "b@storm.example" ∷ []) owners in
      let two = cons_same y.owner (codes "b@storm.example") (owners_of more) [] one.1 in
      ap (λ (o : UserName). cond (bytes_eq o (codes "b@storm.example")) (Some x) (seat_for (y ∷ more) (codes "b@storm.example"))) one.0
      ∙ ap (λ (o : UserName). cond (bytes_eq o (codes "b@storm.example")) (Some y) (seat_for more (codes "b@storm.example"))) two.0 ∙ there
  place_is (suc (suc c)) low xs owners seat there = absurd (omega (arith, low))

  -- where the whole share of each tree is had, it is had at the place of one
  pub whole_at : (xs : List (TreeSeat D)) (i : ℕ) (x : TreeSeat D) → AreWholeTrees xs → slice_get xs i ≡ Some x → IsWhole x.seat
  whole_at [] i x h there = absurd (none_some x there)
  whole_at (y ∷ ys) zero x h there = subst (λ (s : TreeSeat D). IsWhole s.seat) (some_same y x there) h.0
  whole_at (y ∷ ys) (suc i) x h there = whole_at ys i x h.1 there
