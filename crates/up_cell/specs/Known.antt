-- What contracts see of a seat. This project's own.
use Rattle.std.specs.Prelude.{◌≡◌, ℕ, ◌+◌, ◌*◌, ◌-◌, ◌^◌, ◌≤◌, if◌then◌else◌, nat_lt, List, [], length, max, Option, Some}
use Rattle.atomic_table.specs.Seated.{TableId}
use Rattle.up_cell.specs.Positions.{between, merged}
use Rattle.up_lists.specs.Begins.{Begins}

-- what one caller knows of a cell
pub record Known (E F : Type 0) : Type 0 where
  -- which cell it is of
  pub cell : TableId
  -- the entries that it has seen
  pub seen : List E
  -- the count that it loaded last, 0 before the first load
  pub floor : ℕ
  -- how often it loaded the count
  pub looks : ℕ
  -- the positions, rising, of the entries that were added through it
  pub own : List ℕ
  -- by how much the state's count of faults rose in its turns
  pub failed : ℕ
  -- the number of entries when the cell was made
  pub base : ℕ
  -- the part of the state that stays, which every seat of a cell has
  pub fixed : Option F
  -- its share of the cell is part / 2 ^ halvings
  pub part : ℕ
  pub halvings : ℕ

-- the longer of two lists, the first where they are equally long
abbrev pub longer : {E : Type 0} → List E → List E → List E
longer xs ys = if nat_lt (length xs) (length ys) then ys else xs

-- two shares added, as parts of which 2 ^ (the greater number of halvings) are one
abbrev pub parts_of_both : ℕ → ℕ → ℕ → ℕ → ℕ
parts_of_both a n b m = a * 2 ^ (max n m - n) + b * 2 ^ (max n m - m)

module _ {E F : Type 0} where
  -- the seat of a new cell has seen the state's entries, and has the whole share
  abbrev pub newcomer : TableId → List E → F → Known E F
  newcomer cell log made = record {
    cell = cell;
    seen = log;
    floor = 0;
    looks = 0;
    own = [];
    failed = 0;
    base = length log;
    fixed = Some made;
    part = 1;
    halvings = 0;
  }

  -- a seat that has loaded this count
  abbrev pub looked_of : Known E F → ℕ → Known E F
  looked_of v n = record v { floor = n; looks = v.looks + 1 }

  -- a seat that was split: half of its share is left to it
  abbrev pub first_of : Known E F → Known E F
  first_of v = record v { halvings = v.halvings + 1 }

  -- the seat that was split off: it has seen as much, has the other half, and has done nothing
  abbrev pub second_of : Known E F → Known E F
  second_of v = record v { halvings = v.halvings + 1; looks = 0; own = []; failed = 0 }

  -- two seats as one, which has seen what either has
  abbrev pub both_of : Known E F → Known E F → Known E F
  both_of v w = record v {
    seen = longer v.seen w.seen;
    floor = max v.floor w.floor;
    own = merged v.own w.own;
    failed = v.failed + w.failed;
    part = parts_of_both v.part v.halvings w.part w.halvings;
    halvings = max v.halvings w.halvings;
  }

  -- where its share is whole, its own are all positions above the base and up to n
  abbrev pub HasEvery : Known E F → ℕ → Type 0
  HasEvery v n = v.part ≡ 2 ^ v.halvings → v.own ≡ between v.base n

-- What a seat has seen stays seen, its numbers never fall, its cell, its share and what was fixed at making stay: so it is with every
-- call but split and join.
pub record Onward {E F : Type 0} (v w : Known E F) : Type 0 where
  pub cell : w.cell ≡ v.cell
  pub begins : Begins v.seen w.seen
  pub looks : v.looks ≤ w.looks
  pub failed : v.failed ≤ w.failed
  pub base : w.base ≡ v.base
  pub fixed : w.fixed ≡ v.fixed
  pub part : w.part ≡ v.part
  pub halvings : w.halvings ≡ v.halvings
