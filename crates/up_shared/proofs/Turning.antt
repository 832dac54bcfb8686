-- One turn of a seat, as its caller sees it.
use Rattle.std.proofs.Common.{◌≡◌, ◌≢◌, ◌<◌, ◌≤◌, ◌+◌, ◌-◌, ◌^◌, ◌⊎◌, inl, inr, nat_lt, ℕ, zero, suc, Bool, true, false, List, [], ◌∷◌, length, refl, sym, ap, subst, ◌∙◌, arith, option_map, slice_get, Option, Some, None}
use Rattle.std.specs.Prelude.{if◌then◌else◌, position}
use Rattle.std.specs.Str.{bytes_eq}
use Rattle.std.proofs.lemmas.Bool.{false≢true}
use Rattle.std.proofs.lemmas.Bool.Decides.{nat_tests}
use Rattle.std.proofs.lemmas.Slice.Eq.{bytes_eq-Decides}
use Rattle.std.proofs.lemmas.List.Folds.{find-set}
use Rattle.up_calls.specs.Routes.{LogName, OwnStays}
use Rattle.up_calls.specs.Shown.{QuietBut}
use Rattle.up_calls.specs.Steps.{Takes}
use Rattle.up_calls.specs.Views.{SeenTree, own_of}
use Rattle.up_cell.proofs.Turns.{Onward-looked, Onward-self, Onward-trans, turn_added, turn_floor, turn_from, turn_onward, turn_quiet, turn_rose}
use Rattle.up_cell.specs.Known.{Known, Onward, looked_of}
use Rattle.up_cell.specs.Turned.{Turned, rise}
use Rattle.up_disk.specs.declared.disk.Disk as disk
use Rattle.up_entry.specs.declared.records.Rec.{Rec}
use Rattle.up_journal.specs.declared.limits.Limits.{Limits}
use Rattle.up_lists.specs.Counts.{StaysUnless}
use Rattle.up_names.specs.Texts.{UserName}
use Rattle.up_shared.proofs.Pairs.{each_set, some_none, some_same}
use Rattle.up_shared.proofs.Places.{find_other, found_passes, position-place, seat_at}
use Rattle.up_shared.specs.Callers.{TreeTurned, seats_same}
use Rattle.up_shared.specs.Sharing.{AreSeats, EachPair, HasFailed, HasLooked, IsQuiet, IsTreeSeat, SeatsLater, TreeSeatLater, is_seat_of, seat_for, seen_by, tree_seen, views_of}
use Rattle.up_shared.specs.declared.shared.Seats.{Seats}
use Rattle.up_shared.specs.declared.shared.Shared.{Shared}
use Rattle.up_shared.specs.declared.shared.TreeCell.{TreeCell}
use Rattle.up_shared.specs.declared.shared.TreeSeat.{TreeSeat}
use Rattle.up_tree.specs.States.{State, entries_of, fixed_of}

-- ---- any seat

-- a count that stays did not rise, unless it stands at its end
rise_none : (before after : ℕ) → after ≡ before → (rise before after ≡ 0) ⊎ (2 ^ 64 - 1 ≤ before)
rise_none before after same = by (nat_lt before (2 ^ 64 - 1)) refl
  where
    at_end : nat_lt before (2 ^ 64 - 1) ≡ false → 2 ^ 64 - 1 ≤ before
    at_end e = grind (arith, nat_tests)

    by : (b : Bool) → nat_lt before (2 ^ 64 - 1) ≡ b → ((if b then after - before else 1) ≡ 0) ⊎ (2 ^ 64 - 1 ≤ before)
    by true e = inl (omega (arith, same))
    by false e = inr (at_end e)

module _ {S E F J : Type 0} (entries : S → List E) (faults : S → ℕ) (fixed : S → F) (did : J → S → J → S → Type 0) (job after : J) (v w : Known E F) (t : Turned entries faults fixed did job after v w) where
  -- what a turn left of what its caller has of the log
  pub turn_takes : (part : F) (rises : Type 0) → (v.failed < w.failed → rises)
      → Takes (entries t.before) (entries t.after) (seen_by v part) (seen_by w part) (faults t.before) (faults t.after) rises
  turn_takes part rises up = record {
    from = turn_from entries faults fixed did job after v w t;
    seen = ap (λ (k : Known E F). k.seen) t.seat;
    same = turn_quiet entries faults fixed did job after v w t;
    one = λ x grown. (turn_added entries faults fixed did job after v w t x grown).1;
    rose = λ rose. let more = turn_rose entries faults fixed did job after v w t rose in (λ low. more, up more);
  }

  -- where the state's count stays, the seat's failures stay, unless that count stands at its end
  pub turn_stays : faults t.after ≡ faults t.before → (w.failed ≡ v.failed) ⊎ (2 ^ 64 - 1 ≤ faults t.before)
  turn_stays same = elim (rise_none (faults t.before) (faults t.after) same) [
    | inl none ↦ inl (omega (arith, none, ap (λ (k : Known E F). k.failed) t.seat))
    | inr end ↦ inr end
  ]

  -- the part that stays, as the seat has it, is that of the state as it was left
  pub turn_fixed : (part : F) → v.fixed ≡ Some part → part ≡ fixed t.after
  turn_fixed part is =
      some_same part (fixed t.before) (sym is ∙ t.lent.fixed_is) ∙ sym t.grows.stays

-- ---- one turn of the tree of an owner

module _ {D J : Type 0} (disks : disk.Ghosts D) (did : J → State D → J → State D → Type 0) (place : ℕ) (job after : J) (a b : Seats D) (t : TreeTurned disks did place job after a b) (owner : UserName) (at : position (is_seat_of owner) a.trees.items ≡ Some place) where
  abbrev faults_of : State D → ℕ
  faults_of state = disks.faults state.disk

  abbrev looked_seat : Known Rec (UserName × Limits)
  looked_seat = looked_of t.before.seat t.count

  abbrev after_seat : TreeSeat D
  after_seat = record t.before { seat = t.seat }

  found : seat_for a.trees.items owner ≡ Some t.before
  found = seat_at owner a.trees.items place t.before at t.there

  mine : bytes_eq t.before.owner owner ≡ true
  mine = found_passes (is_seat_of owner) a.trees.items t.before found

  found_then : seat_for b.trees.items owner ≡ Some after_seat
  found_then = ap (λ (xs : List (TreeSeat D)). seat_for xs owner) t.trees
      ∙ find-set (is_seat_of owner) a.trees.items place after_seat (position-place (is_seat_of owner) a.trees.items place at).0 (position-place (is_seat_of owner) a.trees.items place at).1 mine

  pub turned_before : (views_of a).tree owner ≡ Some (tree_seen t.before)
  turned_before = ap (option_map tree_seen) found

  pub turned_after : (views_of b).tree owner ≡ Some (tree_seen after_seat)
  turned_after = ap (option_map tree_seen) found_then

  found_elsewhere : (other : UserName) → other ≢ owner → seat_for b.trees.items other ≡ seat_for a.trees.items other
  found_elsewhere other differs =
      let not_mine : bytes_eq t.before.owner other ≡ false = by (bytes_eq t.before.owner other) refl in
      ap (λ (xs : List (TreeSeat D)). seat_for xs other) t.trees ∙ find_other (is_seat_of other) a.trees.items place t.before after_seat t.there not_mine not_mine
    where
      by : (c : Bool) → bytes_eq t.before.owner other ≡ c → c ≡ false
      by false e = refl
      by true e = absurd (differs (sym ((bytes_eq-Decides t.before.owner other).0 e) ∙ (bytes_eq-Decides t.before.owner owner).0 mine))

  own_elsewhere : (other : UserName) → other ≢ owner → own_of ((views_of b).tree other) ≡ own_of ((views_of a).tree other)
  own_elsewhere other differs = ap (λ (o : Option (TreeSeat D)). own_of (option_map tree_seen o)) (found_elsewhere other differs)

  -- no disk failed but that of the tree, and that one only where its count did not stay
  pub turned_calm : (fault : Type 0) → StaysUnless (disks.faults t.turn.before.disk) (disks.faults t.turn.after.disk) fault → QuietBut (λ log. IsQuiet disks log a b) (LogName.OfTree owner) fault
  turned_calm fault stays = record { stays = by }
    where
      mine_calm : (fault → ⊥) → IsQuiet disks (LogName.OfTree owner) a b
      mine_calm none = elim (turn_stays entries_of faults_of fixed_of did job after looked_seat t.seat t.turn (stays.stays none)) [
        | inl same ↦ IsQuiet.Stays (ap (option_map (λ (v : SeenTree). v.failed)) turned_after ∙ ap (λ (n : ℕ). Some n) same ∙ sym (ap (option_map (λ (v : SeenTree). v.failed)) turned_before))
        | inr end ↦ IsQuiet.AtEnd t.turn.before.disk end
      ]

      at_tree : (other : UserName) (c : Bool) → bytes_eq other owner ≡ c → (LogName.OfTree other ≡ LogName.OfTree owner → fault → ⊥) → IsQuiet disks (LogName.OfTree other) a b
      at_tree other true e none =
          let is : other ≡ owner = (bytes_eq-Decides other owner).0 e in
          subst (λ (o : UserName). IsQuiet disks (LogName.OfTree o) a b) (sym is) (mine_calm (none (ap (λ (o : UserName). LogName.OfTree o) is)))
      at_tree other false e none =
          IsQuiet.Stays (ap (λ (o : Option (TreeSeat D)). option_map (λ (v : SeenTree). v.failed) (option_map tree_seen o)) (found_elsewhere other (λ is. false≢true (sym e ∙ (bytes_eq-Decides other owner).1 is))))

      by : (log : LogName) → (log ≡ LogName.OfTree owner → fault → ⊥) → IsQuiet disks log a b
      by (LogName.OfTree other) none = at_tree other (bytes_eq other owner) refl none
      by LogName.OfStore none = IsQuiet.Stays (ap (λ (k : Known _ _). Some k.failed) t.store)
      by LogName.OfKeys none = IsQuiet.Stays (ap (λ (k : Known _ _). Some k.failed) t.keys)

  -- no log but that of the tree got own records
  pub turned_own : OwnStays (Some (LogName.OfTree owner)) (views_of a) (views_of b)
  turned_own = record {
    trees = λ other differs. own_elsewhere other (λ same. differs (ap (λ (o : UserName). Some (LogName.OfTree o)) (sym same)));
    store = λ differs. ap (λ (k : Known _ _). k.own) t.store;
    keys = λ differs. ap (λ (k : Known _ _). k.own) t.keys;
  }

  -- nor did that one, where the job adds nothing
  pub turned_quiet : t.turn.after.log ≡ t.turn.before.log → OwnStays None (views_of a) (views_of b)
  turned_quiet same = record {
    trees = λ other differs. by other (bytes_eq other owner) refl;
    store = λ differs. ap (λ (k : Known _ _). k.own) t.store;
    keys = λ differs. ap (λ (k : Known _ _). k.own) t.keys;
  }
    where
      quiet : own_of ((views_of b).tree owner) ≡ own_of ((views_of a).tree owner)
      quiet =
          ap own_of turned_after
          ∙ ap (λ (xs : List ℕ). Some xs) (turn_quiet entries_of faults_of fixed_of did job after looked_seat t.seat t.turn same)
          ∙ sym (ap own_of turned_before)

      by : (other : UserName) → (c : Bool) → bytes_eq other owner ≡ c → own_of ((views_of b).tree other) ≡ own_of ((views_of a).tree other)
      by other true e = subst (λ (o : UserName). own_of ((views_of b).tree o) ≡ own_of ((views_of a).tree o)) (sym ((bytes_eq-Decides other owner).0 e)) quiet
      by other false e = own_elsewhere other (λ is. false≢true (sym e ∙ (bytes_eq-Decides other owner).1 is))

  onward : Onward t.before.seat t.seat
  onward = Onward-trans t.before.seat looked_seat t.seat (Onward-looked t.before.seat t.count) (turn_onward entries_of faults_of fixed_of did job after looked_seat t.seat t.turn)

  pub turned_later : SeatsLater a b
  turned_later = record {
    trees = subst (EachPair TreeSeatLater a.trees.items) (sym t.trees)
        (each_set TreeSeatLater a.trees.items a.trees.items place t.before after_seat (seats_same a).trees t.there (record { owner = refl; limits = refl; seat = onward }));
    store = subst (Onward a.store) (sym t.store) (Onward-self a.store);
    store_limits = t.store_limits;
    keys = subst (Onward a.keys) (sym t.keys) (Onward-self a.keys);
    keys_limits = t.keys_limits;
  }

  -- the caller looked, and was answered over no fewer records
  pub turned_looked : (n : ℕ) → n ≡ length t.turn.before.log → HasLooked (LogName.OfTree owner) n a b
  turned_looked n is =
      let looks : t.seat.looks ≡ t.before.seat.looks + 1 = ap (λ (k : Known Rec (UserName × Limits)). k.looks) t.turn.seat in
      let floor = turn_floor entries_of faults_of fixed_of did job after looked_seat t.seat t.turn in
      record {
        v = t.before;
        w = after_seat;
        before = found;
        after = found_then;
        is = record { looks = omega (arith, looks); floor = omega (arith, floor, is) };
      }

  -- what the turn left of what the caller has of the tree, and where the disk failed, the seat counts it
  pub turned_takes : Takes t.turn.before.log t.turn.after.log (tree_seen t.before) (tree_seen after_seat) (disks.faults t.turn.before.disk) (disks.faults t.turn.after.disk) (HasFailed (LogName.OfTree owner) a b)
  turned_takes =
      turn_takes entries_of faults_of fixed_of did job after looked_seat t.seat t.turn (t.before.owner, t.before.limits) (HasFailed (LogName.OfTree owner) a b)
      (λ more. record { v = t.before; w = after_seat; before = found; after = found_then; is = more })

  pub turned_fixed : (shared : Shared D) → AreSeats shared a → (t.before.owner, t.before.limits) ≡ fixed_of t.turn.after
  turned_fixed shared sits =
      let cell = some_cell place shared.trees.items a.trees.items t.before sits.trees t.there in
      turn_fixed entries_of faults_of fixed_of did job after looked_seat t.seat t.turn (t.before.owner, t.before.limits) cell.1.fixed
    where
      some_cell : (i : ℕ) (cells : List (TreeCell D)) (seats : List (TreeSeat D)) (x : TreeSeat D) → EachPair IsTreeSeat cells seats → slice_get seats i ≡ Some x → (c : TreeCell D) × IsTreeSeat c x
      some_cell i [] [] x h is = absurd (some_none x (sym is))
      some_cell i [] (y ∷ ys) x h is = absurd h
      some_cell i (c ∷ cells) [] x h is = absurd h
      some_cell zero (c ∷ cells) (y ∷ ys) x h is = (c, subst (IsTreeSeat c) (some_same y x is) h.0)
      some_cell (suc i) (c ∷ cells) (y ∷ ys) x h is = some_cell i cells ys x h.1 is

  -- the log and the owner are those of the owner
  pub turned_owner : t.before.owner ≡ owner
  turned_owner = (bytes_eq-Decides t.before.owner owner).0 mine
