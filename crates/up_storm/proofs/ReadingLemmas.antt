-- A log that was read in a turn of a seat.
use Rattle.std.proofs.Common.{◌≡◌, ℕ, zero, suc, ◌^◌, Bool, List, [], ◌∷◌, length, refl, sym, ap, ◌∙◌}
use Rattle.std.specs.Prelude.{Result, Ok, Err, IfOk, slice_get, slice_set, Some}
use Rattle.up_cell.proofs.Turns.{turn_quiet}
use Rattle.up_cell.specs.Known.{HasEvery, Known}
use Rattle.up_cell.specs.Positions.{between}
use Rattle.up_cell.specs.Turned.{Turned, turned_of}
use Rattle.up_entry.specs.declared.records.Rec.{Rec}
use Rattle.up_journal.specs.declared.limits.Limits.{Limits}
use Rattle.up_lists.specs.Begins.{Begins}
use Rattle.up_names.specs.Texts.{UserName}
use Rattle.up_storm.specs.Logs.{IsLogRead, IsReadBy, ReadsLog}
use Rattle.up_storm.specs.Seating.{HasRead}
use Rattle.up_shared.specs.declared.shared.Seats.{Seats}
use Rattle.up_shared.specs.declared.shared.TreeSeat.{TreeSeat}
use Rattle.up_storm.specs.declared.logs.LogRead.{LogRead}
use Rattle.up_tree.specs.States.{State, entries_of, fixed_of}

-- as the seat is after the turn, so it was before it, where the job left the state as it was
every_before : {D : Type 0} (faults : State D → ℕ) (v w : Known Rec (UserName × Limits)) (before after : State D) → after ≡ before
    → w ≡ turned_of entries_of faults v before after → w.own ≡ v.own → HasEvery w (length (entries_of after)) → HasEvery v (length (entries_of before))
every_before {D} faults v w before after stays turned quiet every whole =
    let part : w.part ≡ v.part = ap (λ (k : Known Rec (UserName × Limits)). k.part) turned in
    let halvings : w.halvings ≡ v.halvings = ap (λ (k : Known Rec (UserName × Limits)). k.halvings) turned in
    let base : w.base ≡ v.base = ap (λ (k : Known Rec (UserName × Limits)). k.base) turned in
    sym quiet ∙ every (part ∙ whole ∙ sym (ap (λ (n : ℕ). 2 ^ n) halvings)) ∙ ap (λ (n : ℕ). between n (length (entries_of after))) base
    ∙ ap (λ (s : State D). between v.base (length (entries_of s))) stays

read_from : {E : Type 0} (full : Bool) (v : Known Rec (UserName × Limits)) (log : List Rec) (read : Result LogRead E) → Begins v.seen log → HasEvery v (length log)
    → IfOk read (IsLogRead full log) → IfOk read (IsReadBy full v)
read_from full v log (Ok r) begins every told = record { log = log; begins = begins; every = every; told = told }
read_from full v log (Err e) begins every told = told

pub read_by : {D E J : Type 0} (faults : State D → ℕ) (full_of : J → Bool) (read_of : J → Result LogRead E) (job after : J) (v w : Known Rec (UserName × Limits))
    → Turned entries_of faults fixed_of (λ (one : J) (old : State D) (other : J) (new : State D). ReadsLog (full_of one) old new (read_of other)) job after v w
    → IfOk (read_of after) (IsReadBy (full_of job) v)
read_by {D} {E} {J} faults full_of read_of job after v w t =
    let did : J → State D → J → State D → Type 0 = λ one old other new. ReadsLog (full_of one) old new (read_of other) in
    let stays : t.after ≡ t.before = t.did_it.stays in
    read_from (full_of job) v (entries_of t.before) (read_of after) t.lent.begins
    (every_before faults v w t.before t.after stays t.seat (turn_quiet entries_of faults fixed_of did job after v w t (ap entries_of stays)) t.every) t.did_it.told

-- what the seat at a place read, was read through all of them
pub read_at_place : {D : Type 0} (full : Bool) (all : Seats D) (place : ℕ) (seat : TreeSeat D) (read : LogRead) → slice_get all.trees.items place ≡ Some seat
    → IsReadBy full seat.seat read → HasRead full all place read
read_at_place full all place seat read found by = record {
  log = by.log;
  is_read = record { seat = seat; found = found; begins = by.begins; every = by.every };
  told = by.told;
}

-- seats that are the same at a place read the same there
pub read_as_before : {D : Type 0} (full : Bool) (all mid : Seats D) (place : ℕ) (read : LogRead) → slice_get mid.trees.items place ≡ slice_get all.trees.items place
    → HasRead full mid place read → HasRead full all place read
read_as_before full all mid place read same h = record {
  log = h.log;
  is_read = record { seat = h.is_read.seat; found = sym same ∙ h.is_read.found; begins = h.is_read.begins; every = h.is_read.every };
  told = h.told;
}

pub read_ok : {D E : Type 0} (full : Bool) (all : Seats D) (place : ℕ) (seat : TreeSeat D) (read : Result LogRead E) → slice_get all.trees.items place ≡ Some seat
    → IfOk read (IsReadBy full seat.seat) → IfOk read (HasRead full all place)
read_ok full all place seat (Ok read) found by = read_at_place full all place seat read found by
read_ok full all place seat (Err e) found by = by

-- a change at one place leaves the others
pub set_other : {X : Type 0} (xs : List X) (place i : ℕ) (y : X) → (i ≡ place → ⊥) → slice_get (slice_set xs place y) i ≡ slice_get xs i
set_other [] place i y other = refl
set_other (x ∷ xs) zero zero y other = absurd (other refl)
set_other (x ∷ xs) zero (suc i) y other = refl
set_other (x ∷ xs) (suc place) zero y other = refl
set_other (x ∷ xs) (suc place) (suc i) y other = set_other xs place i y (λ same. other (ap suc same))
