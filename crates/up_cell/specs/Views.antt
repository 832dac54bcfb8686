-- What the rule knows of a seat, and how the steps change it. This project's own.
use Rattle.std.specs.Prelude.{◌≡◌, ℕ, ◌+◌, ◌-◌, ◌*◌, ◌^◌, ◌<◌, true, false, max, Some, None, List, [], ◌∷◌, ◌++◌, length}
use Rattle.atomic_table.specs.Seated.{TableId}
use Rattle.atomic_table.specs.Table.{Me}
use Rattle.up_cell.specs.Known.{Known, longer, parts_of_both}
use Rattle.up_cell.specs.Positions.{between, merged}
use Rattle.up_cell.specs.Turned.{rise}
use Rattle.up_cell.specs.declared.view.View.{View}

module _ {E F : Type 0} where
  -- what contracts see of it
  abbrev pub known : TableId → View E F → Known E F
  known cell v = record {
    cell = cell;
    seen = v.seen;
    floor = v.floor;
    looks = v.looks;
    own = v.own;
    failed = v.failed;
    base = v.base;
    fixed = v.fixed;
    part = v.part;
    halvings = v.halvings;
  }

  -- the view of a new cell's seat
  abbrev pub first_view : List E → F → View E F
  first_view log made = record {
    seen = log;
    floor = 0;
    looks = 0;
    own = [];
    failed = 0;
    base = length log;
    fixed = Some made;
    part = 1;
    halvings = 0;
    turn = false;
    was = 0;
    olds = [];
  }

  -- the seat in its turn, at these entries and this count of faults
  abbrev pub in_turn : View E F → List E → ℕ → View E F
  in_turn v log faults = record v { seen = log; turn = true; was = faults }

  -- the seat in its turn, once the entries are these: what was added is its own
  abbrev pub told : View E F → List E → ℕ → View E F
  told v log faults = record v { seen = log; own = v.own ++ between (length v.seen) (length log); failed = v.failed + rise v.was faults }

  -- the seat once it has given the turn back
  abbrev pub at_rest : View E F → View E F
  at_rest v = record v { turn = false }

  -- the seat that has loaded this count
  abbrev pub looked : View E F → ℕ → View E F
  looked v n = record v { floor = n; looks = v.looks + 1 }

  -- a seat's share, in parts of which 2 ^ depth are one
  abbrev pub weight : ℕ → View E F → ℕ
  weight depth v = v.part * 2 ^ (depth - v.halvings)

  -- who has the whole share has every position above the base and up to n as its own
  abbrev pub Complete : View E F → ℕ → Type 0
  Complete v n = v.part ≡ 2 ^ v.halvings → v.own ≡ between v.base n

  -- what is left to a seat that is split
  abbrev pub first_half : View E F → View E F
  first_half v = record v { halvings = v.halvings + 1 }

  -- the seat that is split off
  abbrev pub second_half : View E F → View E F
  second_half v = record v { halvings = v.halvings + 1; looks = 0; own = []; failed = 0; turn = false; was = 0; olds = [] }

  -- the two shares added
  abbrev pub share_sum : View E F → View E F → ℕ
  share_sum v w = parts_of_both v.part v.halvings w.part w.halvings

  -- two seats as one, which remembers what each had seen
  abbrev pub joined : View E F → View E F → View E F
  joined v w = record v {
    seen = longer v.seen w.seen;
    floor = max v.floor w.floor;
    own = merged v.own w.own;
    failed = v.failed + w.failed;
    part = share_sum v w;
    halvings = max v.halvings w.halvings;
    olds = v.seen ∷ w.seen ∷ [];
  }

  -- what is left of the other
  abbrev pub spent : View E F
  spent = record {
    seen = [];
    floor = 0;
    looks = 0;
    own = [];
    failed = 0;
    base = 0;
    fixed = None;
    part = 0;
    halvings = 0;
    turn = false;
    was = 0;
    olds = [];
  }

  -- the joined seat, once it was told that what either had seen begins what it has seen
  abbrev pub settled : View E F → View E F
  settled v = record v { olds = [] }

-- between calls a seat has no turn and no state, remembers nothing of a seat that it took in, and has some share
pub record IsIdle {S E F : Type 0} (me : Me S (View E F)) : Type 0 where
  pub empty : me.1 ≡ []
  pub turn : me.0.turn ≡ false
  pub told : me.0.olds ≡ []
  pub some : 0 < me.0.part
