-- A pull, by one turn of the tree's cell.
use Rattle.std.proofs.Common.{◌≡◌, ℕ, true, List, length, sym, ap, subst, ◌∙◌, position, Option, Some}
use Rattle.std.proofs.lemmas.List.Folds.{find-set}
use Rattle.std.specs.Prelude.{IfSome}
use Rattle.std.specs.Result.{result_ok}
use Rattle.std.specs.Str.{bytes_eq}
use Rattle.up_cell.specs.Known.{Known}
use Rattle.up_disk.specs.declared.disk.Disk as disk
use Rattle.up_entry.specs.declared.records.Rec.{Rec}
use Rattle.up_feed.specs.Feeding.{PullsTree, ReadsBatch, batch_in}
use Rattle.up_feed.specs.declared.pulling.ReadBatch.{ReadBatch}
use Rattle.up_journal.specs.declared.limits.Limits.{Limits}
use Rattle.up_lists.specs.Begins.{Begins}
use Rattle.up_names.specs.Texts.{UserName}
use Rattle.up_shared.proofs.Places.{found_passes, position-place, seat_at}
use Rattle.up_shared.proofs.Turning.{turned_later, turned_quiet}
use Rattle.up_shared.specs.Callers.{TreeTurned}
use Rattle.up_shared.specs.Sharing.{Looked, is_seat_of, seat_for}
use Rattle.up_shared.specs.declared.shared.Seats.{Seats}
use Rattle.up_shared.specs.declared.shared.TreeSeat.{TreeSeat}
use Rattle.up_tree.specs.States.{State}
use Rattle.std.proofs.Common.{arith}
use Rattle.std.specs.Prelude.{◌+◌}
use Rattle.up_cell.proofs.Turns.{turn_floor}
use Rattle.up_tree.specs.States.{entries_of, fixed_of}
use Rattle.up_cell.specs.Known.{looked_of}

-- what the job does
abbrev pub reads_batch : {D : Type 0} → ReadBatch → State D → ReadBatch → State D → Type 0
reads_batch job old after new = ReadsBatch job.from old new (result_ok after.given)

module _ {D J : Type 0} (disks : disk.Ghosts D) (did : J → State D → J → State D → Type 0) (place : ℕ) (job after : J) (a b : Seats D) (t : TreeTurned disks did place job after a b) (owner : UserName) (at : position (is_seat_of owner) a.trees.items ≡ Some place) where
  abbrev after_seat : TreeSeat D
  after_seat = record t.before { seat = t.seat }

  found : seat_for a.trees.items owner ≡ Some t.before
  found = seat_at owner a.trees.items place t.before at t.there

  mine : bytes_eq t.before.owner owner ≡ true
  mine = found_passes (is_seat_of owner) a.trees.items t.before found

  found_then : seat_for b.trees.items owner ≡ Some after_seat
  found_then = ap (λ (xs : List (TreeSeat D)). seat_for xs owner) t.trees
      ∙ find-set (is_seat_of owner) a.trees.items place after_seat (position-place (is_seat_of owner) a.trees.items place at).0 (position-place (is_seat_of owner) a.trees.items place at).1 mine

  looked : (n : ℕ) → n ≡ length t.turn.before.log → Looked t.before.seat t.seat n
  looked n is =
      let looks : t.seat.looks ≡ t.before.seat.looks + 1 = ap (λ (k : Known Rec (UserName × Limits)). k.looks) t.turn.seat in
      let floor = turn_floor entries_of (λ (state : State D). disks.faults state.disk) fixed_of did job after (looked_of t.before.seat t.count) t.seat t.turn in
      record { looks = omega (arith, looks); floor = omega (arith, floor, is) }

  -- the tree was only read, so the seat has seen it as it was lent
  pub pulls_by : (from : ℕ) (given : Option (List (List ℕ))) → ReadsBatch from t.turn.before t.turn.after given → PullsTree owner from a b given
  pulls_by from given reads =
      let same : t.turn.after.log ≡ t.turn.before.log = ap (λ (s : State D). s.log) reads.stays in
      let seen : t.seat.seen ≡ t.turn.before.log = ap (λ (k : Known Rec (UserName × Limits)). k.seen) t.turn.seat ∙ same in
      record {
        pulled = record {
          v = t.before;
          w = after_seat;
          before = found;
          after = found_then;
          is = record {
            seen = subst (λ (log : List Rec). Begins t.before.seat.seen log) (sym seen) t.turn.lent.begins;
            looked = looked (length t.seat.seen) (ap length seen);
            batch = subst (λ (log : List Rec). IfSome given (λ batch. batch ≡ batch_in from log)) (sym seen) reads.batch;
          };
        };
        later = turned_later disks did place job after a b t owner at;
        own = turned_quiet disks did place job after a b t owner at same;
      }
