-- One turn of a seat. This project's own.
use Rattle.std.specs.Prelude.{◌≡◌, ℕ, ◌+◌, ◌-◌, ◌^◌, ◌≤◌, if◌then◌else◌, nat_lt, List, ◌++◌, length, Option, Some}
use Rattle.up_cell.specs.Known.{HasEvery, Known}
use Rattle.up_cell.specs.Positions.{Rising, between}
use Rattle.up_ends.specs.Growing.{OnlyGrows}
use Rattle.up_lists.specs.Begins.{Begins}

-- by how much a count of faults rose; by one where it stood at its end
abbrev pub rise : ℕ → ℕ → ℕ
rise before after = if nat_lt before (2 ^ 64 - 1) then after - before else 1

-- A state that may be lent to who has seen these entries, has loaded this count, and was made with this fixed part: its entries begin
-- with those, and are at least so many.
pub record IsLentTo {S E F : Type 0} (entries : S → List E) (fixed : S → F)
    (seen : List E) (floor : ℕ) (made : Option F) (state : S) : Type 0 where
  pub begins : Begins seen (entries state)
  pub floor_is : floor ≤ length (entries state)
  pub fixed_is : made ≡ Some (fixed state)

-- a state that may be lent to a seat
abbrev pub IsLent : {S E F : Type 0} → (S → List E) → (S → F) → Known E F → S → Type 0
IsLent entries fixed v state = IsLentTo entries fixed v.seen v.floor v.fixed state

-- the seat after a turn: it has seen the entries as they were left, what was added is its own, and faults are counted
abbrev pub turned_of : {S E F : Type 0} → (S → List E) → (S → ℕ) → Known E F → S → S → Known E F
turned_of entries faults v before after = record v {
  seen = entries after;
  own = v.own ++ between (length (entries before)) (length (entries after));
  failed = v.failed + rise (faults before) (faults after);
}

-- One turn of a seat, v before and w after it: the state as it was lent and as it was left, what the job promises of these, and what the
-- seat then knows. Where its share is whole, its own positions are all above the base.
pub record Turned {S E F J : Type 0} (entries : S → List E) (faults : S → ℕ) (fixed : S → F) (did : J → S → J → S → Type 0)
    (job job_after : J) (v w : Known E F) : Type 0 where
  pub before : S
  pub after : S
  pub lent : IsLent entries fixed v before
  pub did_it : did job before job_after after
  pub grows : OnlyGrows entries faults fixed before after
  pub seat : w ≡ turned_of entries faults v before after
  pub every : HasEvery w (length (entries after))
  pub rising : Rising w.own
