-- What every call of one caller of a shared host leaves, and its laws. This project's own.
use Rattle.std.specs.Prelude.{◌≡◌, ℕ, Bool, true, false, List, [], ◌∷◌, slice_get, slice_set, Option, Some, None}
use Rattle.std.specs.List.{find}
use Rattle.std.specs.Option.{option_map}
use Rattle.std.specs.Str.{bytes_eq}
use Rattle.std.proofs.Common.{◌∙◌, refl, sym, ap, subst, cond, arith}
use Rattle.up_blocks.specs.Blocks as blocks
use Rattle.up_blocks.specs.declared.record.BlockRecord.{BlockRecord}
use Rattle.up_calls.specs.Routes.{LogName, OwnStays}
use Rattle.up_calls.specs.Views.{Later, LaterSeen, LaterTree, Views}
use Rattle.up_cell.specs.Known.{Known, Onward, looked_of}
use Rattle.up_cell.specs.Turned.{Turned}
use Rattle.up_cell.proofs.Turns.{Onward-self, Onward-trans}
use Rattle.up_disk.specs.declared.disk.Disk as disk
use Rattle.up_entry.specs.declared.records.Rec.{Rec}
use Rattle.up_journal.specs.Logs.{LogState}
use Rattle.up_journal.specs.declared.limits.Limits.{Limits}
use Rattle.up_keys.specs.Keys as keys
use Rattle.up_names.specs.Texts.{UserName}
use Rattle.up_shared.specs.Sharing.{AreSeats, EachPair, HasFailed, HasLooked, IsQuiet, IsTreeSeat, SeatsLater, TreeSeatLater, is_seat_of}
use Rattle.up_shared.specs.Sharing.{seat_for, seen_by, tree_seen, views_of}
use Rattle.up_shared.specs.declared.shared.Seats.{Seats}
use Rattle.up_shared.specs.declared.shared.Shared.{Shared}
use Rattle.up_shared.specs.declared.shared.TreeCell.{TreeCell}
use Rattle.up_shared.specs.declared.shared.TreeSeat.{TreeSeat}
use Rattle.up_tree.specs.States.{State, entries_of, fixed_of}
use Rattle.up_wire.specs.declared.keys.KeyRecord.{KeyRecord}

-- One turn of the seat at a place: it looked, and then the job was run on the state; and no other seat changed.
pub record TreeTurned {D J : Type 0} (disks : disk.Ghosts D) (did : J → State D → J → State D → Type 0)
    (place : ℕ) (job after : J) (seats new : Seats D) : Type 0 where
  pub before : TreeSeat D
  pub there : slice_get seats.trees.items place ≡ Some before
  pub count : ℕ
  pub seat : Known Rec (UserName × Limits)
  pub turn : Turned entries_of (λ (state : State D). disks.faults state.disk) fixed_of did job after (looked_of before.seat count) seat
  pub trees : new.trees.items ≡ slice_set seats.trees.items place (record before { seat = seat })
  pub store : new.store ≡ seats.store
  pub store_limits : new.store_limits ≡ seats.store_limits
  pub keys : new.keys ≡ seats.keys
  pub keys_limits : new.keys_limits ≡ seats.keys_limits

-- One turn of the store's seat: it looked, and then the job was run on the state; and no other seat changed.
pub record StoreTurned {D J : Type 0} (disks : disk.Ghosts D)
    (did : J → LogState D BlockRecord → J → LogState D BlockRecord → Type 0) (job after : J) (seats new : Seats D) : Type 0 where
  pub count : ℕ
  pub seat : Known BlockRecord Limits
  pub turn : Turned blocks.log_of (λ (state : LogState D BlockRecord). disks.faults state.disk)
      blocks.limits_of did job after (looked_of seats.store count) seat
  pub store : new.store ≡ seat
  pub trees : new.trees.items ≡ seats.trees.items
  pub store_limits : new.store_limits ≡ seats.store_limits
  pub keys : new.keys ≡ seats.keys
  pub keys_limits : new.keys_limits ≡ seats.keys_limits

-- One turn of the seat at the keys: it looked, and then the job was run on the state; and no other seat changed.
pub record KeysTurned {D J : Type 0} (disks : disk.Ghosts D)
    (did : J → LogState D KeyRecord → J → LogState D KeyRecord → Type 0) (job after : J) (seats new : Seats D) : Type 0 where
  pub count : ℕ
  pub seat : Known KeyRecord Limits
  pub turn : Turned keys.log_of (λ (state : LogState D KeyRecord). disks.faults state.disk)
      keys.limits_of did job after (looked_of seats.keys count) seat
  pub keys : new.keys ≡ seat
  pub trees : new.trees.items ≡ seats.trees.items
  pub store : new.store ≡ seats.store
  pub store_limits : new.store_limits ≡ seats.store_limits
  pub keys_limits : new.keys_limits ≡ seats.keys_limits

-- a caller still has the same seats, borrowed by the same name, of the same host; and at most one log got own records
pub record IsTied {N D : Type 0} (but : Option LogName) (shared shared_after : Shared D)
    (name name_after : N) (seats seats_after : Seats D) : Type 0 where
  pub host : shared_after ≡ shared
  pub name_is : name_after ≡ name
  pub later : SeatsLater seats seats_after
  pub own : OwnStays but (views_of seats) (views_of seats_after)

-- ---- pair by pair

-- each item of a list goes with itself
pub each_same : {X : Type 0} (P : X → X → Type 0) → ((x : X) → P x x) → (xs : List X) → EachPair P xs xs
each_same P same [] = tt
each_same P same (x ∷ xs) = (same x, each_same P same xs)

-- what goes with an item that goes with a third one goes with that too, place by place
pub each_trans : {X : Type 0} (P : X → X → Type 0) → ((x y z : X) → P x y → P y z → P x z)
    → (xs ys zs : List X) → EachPair P xs ys → EachPair P ys zs → EachPair P xs zs
each_trans P joined [] [] [] one two = tt
each_trans P joined (x ∷ xs) (y ∷ ys) (z ∷ zs) one two = (joined x y z one.0 two.0, each_trans P joined xs ys zs one.1 two.1)
each_trans P joined [] [] (z ∷ zs) one two = absurd two
each_trans P joined [] (y ∷ ys) zs one two = absurd one
each_trans P joined (x ∷ xs) [] zs one two = absurd one
each_trans P joined (x ∷ xs) (y ∷ ys) [] one two = absurd two

-- two items that were found go together, or none was found
abbrev pub FoundPair : {X : Type 0} → (X → X → Type 0) → Option X → Option X → Type 0
FoundPair P None None = Unit {0}
FoundPair P (Some x) (Some y) = P x y
FoundPair P None (Some y) = ⊥
FoundPair P (Some x) None = ⊥

-- two items that go together, or else what was found after them, go together
found_by : {X : Type 0} (P : X → X → Type 0) (b : Bool) (x y : X) (p q : Option X)
    → P x y → FoundPair P p q → FoundPair P (cond b (Some x) p) (cond b (Some y) q)
found_by P true x y p q h k = h
found_by P false x y p q h k = k

-- what a test finds in each of two lists goes together, where the lists do place by place
pub found_pair : {X : Type 0} (P : X → X → Type 0) (test : X → Bool) → ((x y : X) → P x y → test y ≡ test x)
    → (xs ys : List X) → EachPair P xs ys → FoundPair P (find test xs) (find test ys)
found_pair P test agree [] [] h = tt
found_pair P test agree [] (y ∷ ys) h = absurd h
found_pair P test agree (x ∷ xs) [] h = absurd h
found_pair P test agree (x ∷ xs) (y ∷ ys) h =
    subst (λ b. FoundPair P (cond (test x) (Some x) (find test xs)) (cond b (Some y) (find test ys))) (sym (agree x y h.0))
    (found_by P (test x) x y (find test xs) (find test ys) h.0 (found_pair P test agree xs ys h.1))

-- equal options have equal items
some_same : {X : Type 0} (x y : X) → Some x ≡ Some y → x ≡ y
some_same x y h = cc

-- an option with an item is not None
some_none : {X : Type 0} (x : X) → Some x ≡ None → ⊥
some_none x h = cc

-- what goes with what was found
pub record Goes {X : Type 0} (P : X → X → Type 0) (v : X) (q : Option X) : Type 0 where
  pub w : X
  pub found : q ≡ Some w
  pub goes : P v w

-- what was found in the first list has something that goes with it in the second
pub goes_on : {X : Type 0} (P : X → X → Type 0) (p q : Option X) (v : X) → FoundPair P p q → p ≡ Some v → Goes P v q
goes_on P None q v h is = absurd (some_none v (sym is))
goes_on P (Some x) None v h is = absurd h
goes_on P (Some x) (Some y) v h is = record { w = y; found = refl; goes = subst (λ z. P z y) (some_same x v is) h }

-- what was found in the second list has something in the first with which it goes
pub goes_back : {X : Type 0} (P : X → X → Type 0) (p q : Option X) (w : X) → FoundPair P p q → q ≡ Some w → Goes (λ y x. P x y) w p
goes_back P p None w h is = absurd (some_none w (sym is))
goes_back P None (Some y) w h is = absurd h
goes_back P (Some x) (Some y) w h is = record { w = x; found = refl; goes = subst (P x) (some_same y w is) h }

module _ {D : Type 0} where
  -- a tree's seat that stays is later than itself
  tree_seat_same : (x : TreeSeat D) → TreeSeatLater x x
  tree_seat_same x = record { owner = refl; limits = refl; seat = Onward-self x.seat }

  -- a tree's seat that is later over each of two calls is so over both
  tree_seat_trans : (x y z : TreeSeat D) → TreeSeatLater x y → TreeSeatLater y z → TreeSeatLater x z
  tree_seat_trans x y z one two =
      record { owner = two.owner ∙ one.owner; limits = two.limits ∙ one.limits; seat = Onward-trans x.seat y.seat z.seat one.seat two.seat }

  -- seats that stay are later than themselves
  pub seats_same : (a : Seats D) → SeatsLater a a
  seats_same a = record {
    trees = each_same TreeSeatLater tree_seat_same a.trees.items;
    store = Onward-self a.store;
    store_limits = refl;
    keys = Onward-self a.keys;
    keys_limits = refl;
  }

  -- seats that are later over each of two calls are so over both
  pub seats_trans : (a b c : Seats D) → SeatsLater a b → SeatsLater b c → SeatsLater a c
  seats_trans a b c one two = record {
    trees = each_trans TreeSeatLater tree_seat_trans a.trees.items b.trees.items c.trees.items one.trees two.trees;
    store = Onward-trans a.store b.store c.store one.store two.store;
    store_limits = two.store_limits ∙ one.store_limits;
    keys = Onward-trans a.keys b.keys c.keys one.keys two.keys;
    keys_limits = two.keys_limits ∙ one.keys_limits;
  }

  -- the seats at the tree of an owner, before and after
  pub seats_found : (owner : UserName) (a b : Seats D) → SeatsLater a b
      → FoundPair TreeSeatLater (seat_for a.trees.items owner) (seat_for b.trees.items owner)
  seats_found owner a b h =
      found_pair TreeSeatLater (is_seat_of owner)
      (λ x y k. ap (λ (o : UserName). bytes_eq o owner) k.owner) a.trees.items b.trees.items h.trees

-- ---- what a caller has of the logs only grows

-- what was seen of a log stays seen where its seat goes on
later_seen : {E F : Type 0} (v w : Known E F) (f g : F) → g ≡ f → Onward v w → LaterSeen (seen_by v f) (seen_by w g)
later_seen v w f g same h = record { begins = h.begins; failed = h.failed; fixed = same }

module _ {D : Type 0} where
  -- what was seen of a tree's log stays seen where its seat goes on
  later_tree : (x y : TreeSeat D) → TreeSeatLater x y → LaterSeen (tree_seen x) (tree_seen y)
  later_tree x y h =
      later_seen x.seat y.seat (x.owner, x.limits) (y.owner, y.limits)
      (ap (λ (o : UserName). (o, y.limits)) h.owner ∙ ap (λ (l : Limits). (x.owner, l)) h.limits) h.seat

  -- what was seen of an owner's tree stays seen, where both have it or neither does
  later_found : (p q : Option (TreeSeat D)) → FoundPair TreeSeatLater p q → LaterTree (option_map tree_seen p) (option_map tree_seen q)
  later_found None None h = tt
  later_found (Some x) (Some y) h = later_tree x y h
  later_found None (Some y) h = absurd h
  later_found (Some x) None h = absurd h

  -- what later seats have seen is later, for all logs of a host
  pub seats_later : (a b : Seats D) → SeatsLater a b → Later (views_of a) (views_of b)
  seats_later a b h = record {
    trees = λ owner. later_found (seat_for a.trees.items owner) (seat_for b.trees.items owner) (seats_found owner a b h);
    store = later_seen a.store b.store a.store_limits b.store_limits h.store_limits h.store;
    keys = later_seen a.keys b.keys a.keys_limits b.keys_limits h.keys_limits h.keys;
  }

-- ---- own records

-- nothing that stays gains own records
pub own_same : (but : Option LogName) (a : Views) → OwnStays but a a
own_same but a = record { trees = λ owner differs. refl; store = λ differs. refl; keys = λ differs. refl }

-- own records that stay over each of two calls stay over both
pub own_trans : (but : Option LogName) (a b c : Views) → OwnStays but a b → OwnStays but b c → OwnStays but a c
own_trans but a b c one two = record {
  trees = λ owner differs. two.trees owner differs ∙ one.trees owner differs;
  store = λ differs. two.store differs ∙ one.store differs;
  keys = λ differs. two.keys differs ∙ one.keys differs;
}

-- None is no option with an item
none_some : {X : Type 0} (x : X) → None ≡ Some x → ⊥
none_some x h = cc

-- where no log gains own records, none does whatever log may
pub own_wider : (but : Option LogName) (a b : Views) → OwnStays None a b → OwnStays but a b
own_wider but a b h = record {
  trees = λ owner differs. h.trees owner (none_some (LogName.OfTree owner));
  store = λ differs. h.store (none_some LogName.OfStore);
  keys = λ differs. h.keys (none_some LogName.OfKeys);
}

-- ---- laws

-- a caller is tied to itself
pub tied_same : {N D : Type 0} (shared : Shared D) (name : N) (seats : Seats D) → IsTied None shared shared name name seats seats
tied_same shared name seats = record { host = refl; name_is = refl; later = seats_same seats; own = own_same None (views_of seats) }

-- a caller that is tied over each of two calls is so over both
pub tied_trans : {N D : Type 0} (but : Option LogName) (s t u : Shared D) (k l m : N) (a b c : Seats D)
    → IsTied but s t k l a b → IsTied but t u l m b c → IsTied but s u k m a c
tied_trans but s t u k l m a b c one two = record {
  host = two.host ∙ one.host;
  name_is = two.name_is ∙ one.name_is;
  later = seats_trans a b c one.later two.later;
  own = own_trans but (views_of a) (views_of b) (views_of c) one.own two.own;
}

-- a caller of whom no log gained an own record is tied whatever log may gain one
pub tied_wider : {N D : Type 0} (but : Option LogName) (s t : Shared D) (k l : N) (a b : Seats D)
    → IsTied None s t k l a b → IsTied but s t k l a b
tied_wider but s t k l a b h =
    record { host = h.host; name_is = h.name_is; later = h.later; own = own_wider but (views_of a) (views_of b) h.own }

module _ {D : Type 0} where
  -- seats of a host stay its seats
  pub each_sits : (cells : List (TreeCell D)) (xs ys : List (TreeSeat D))
      → EachPair TreeSeatLater xs ys → EachPair IsTreeSeat cells xs → EachPair IsTreeSeat cells ys
  each_sits [] [] [] h k = tt
  each_sits (c ∷ cells) (x ∷ xs) (y ∷ ys) h k = (
    record {
      owner = h.0.owner ∙ k.0.owner;
      cell = h.0.seat.cell ∙ k.0.cell;
      fixed =
          h.0.seat.fixed ∙
          (k.0.fixed ∙ sym (ap (λ (o : UserName). Some (o, y.limits)) h.0.owner ∙ ap (λ (l : Limits). Some (x.owner, l)) h.0.limits));
    },
    each_sits cells xs ys h.1 k.1,
  )
  each_sits [] [] (y ∷ ys) h k = absurd h
  each_sits [] (x ∷ xs) ys h k = absurd k
  each_sits (c ∷ cells) [] ys h k = absurd k
  each_sits (c ∷ cells) (x ∷ xs) [] h k = absurd h

  -- later seats are of the same host's cells
  pub sits_later : (shared : Shared D) (a b : Seats D) → SeatsLater a b → AreSeats shared a → AreSeats shared b
  sits_later shared a b later sits = record {
    trees = each_sits shared.trees.items a.trees.items b.trees.items later.trees sits.trees;
    store = later.store.cell ∙ sits.store;
    store_fixed = later.store.fixed ∙ sits.store_fixed ∙ sym (ap (λ (l : Limits). Some l) later.store_limits);
    keys = later.keys.cell ∙ sits.keys;
    keys_fixed = later.keys.fixed ∙ sits.keys_fixed ∙ sym (ap (λ (l : Limits). Some l) later.keys_limits);
  }

  -- a caller that is tied still sits at the host's cells
  pub tied_still : {N : Type 0} (but : Option LogName) (s t : Shared D) (k l : N) (a b : Seats D)
      → IsTied but s t k l a b → AreSeats s a → AreSeats t b
  tied_still but s t k l a b tie sits = subst (λ (u : Shared D). AreSeats u b) (sym tie.host) (sits_later s a b tie.later sits)

  -- what an answer leaves, calls before it leave too
  pub looked_since : (log : LogName) (n : ℕ) (a b c : Seats D) → SeatsLater a b → HasLooked log n b c → HasLooked log n a c
  looked_since (LogName.OfTree owner) n a b c later h =
      let u =
      goes_back TreeSeatLater (seat_for a.trees.items owner)
      (seat_for b.trees.items owner) h.v (seats_found owner a b later) h.before in
      let up = u.goes.seat.looks in
      let more = h.is.looks in
      record { v = u.w; w = h.w; before = u.found; after = h.after; is = record { looks = omega (arith, up, more); floor = h.is.floor } }
  looked_since LogName.OfStore n a b c later h =
      let up = later.store.looks in let more = h.looks in record { looks = omega (arith, up, more); floor = h.floor }
  looked_since LogName.OfKeys n a b c later h =
      let up = later.keys.looks in let more = h.looks in record { looks = omega (arith, up, more); floor = h.floor }

  -- a failure in between is one in all
  pub failed_within : (log : LogName) (a b c d : Seats D) → SeatsLater a b → HasFailed log b c → SeatsLater c d → HasFailed log a d
  failed_within (LogName.OfTree owner) a b c d one h two =
      let u =
      goes_back TreeSeatLater (seat_for a.trees.items owner) (seat_for b.trees.items owner) h.v (seats_found owner a b one) h.before in
      let x = goes_on TreeSeatLater (seat_for c.trees.items owner) (seat_for d.trees.items owner) h.w (seats_found owner c d two) h.after in
      let up = u.goes.seat.failed in
      let more = h.is in
      let on = x.goes.seat.failed in
      record { v = u.w; w = x.w; before = u.found; after = x.found; is = omega (arith, up, more, on) }
  failed_within LogName.OfStore a b c d one h two = let up = one.store.failed in let on = two.store.failed in omega (arith, up, h, on)
  failed_within LogName.OfKeys a b c d one h two = let up = one.keys.failed in let on = two.keys.failed in omega (arith, up, h, on)

  -- a disk that failed in neither of two calls failed in none of both
  pub quiet_trans : {disks : disk.Ghosts D} (log : LogName) (a b c : Seats D)
      → IsQuiet disks log a b → IsQuiet disks log b c → IsQuiet disks log a c
  quiet_trans log a b c (IsQuiet.Stays one) (IsQuiet.Stays two) = IsQuiet.Stays (two ∙ one)
  quiet_trans log a b c (IsQuiet.Stays one) (IsQuiet.AtEnd stood end) = IsQuiet.AtEnd stood end
  quiet_trans log a b c (IsQuiet.AtEnd stood end) two = IsQuiet.AtEnd stood end
