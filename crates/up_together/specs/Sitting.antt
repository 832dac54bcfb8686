-- Whether seats are those of a host, as one equation. This project's own.
use Rattle.std.specs.Prelude.{List, map, Option, Some}
use Rattle.atomic_table.specs.Seated.{TableId}
use Rattle.up_journal.specs.declared.limits.Limits.{Limits}
use Rattle.up_names.specs.Texts.{UserName}
use Rattle.up_shared.specs.declared.shared.Seats.{Seats}
use Rattle.up_shared.specs.declared.shared.Shared.{Shared}
use Rattle.up_shared.specs.declared.shared.TreeCell.{TreeCell}
use Rattle.up_shared.specs.declared.shared.TreeSeat.{TreeSeat}

-- what shows of which cells seats are: whose trees they are at, in order, and which cell each is of; and the part that was fixed as each
-- cell was made
pub record Marks : Type 0 where
  pub owners : List UserName
  pub trees : List TableId
  pub fixed : List (Option (UserName × Limits))
  pub store : TableId
  pub store_fixed : Option Limits
  pub keys : TableId
  pub keys_fixed : Option Limits

module _ {D : Type 0} where
  -- the owner of the tree at which a seat is
  abbrev pub owner_of : TreeSeat D → UserName
  owner_of place = place.owner

  -- the cell at which a seat is
  abbrev pub cell_of : TreeSeat D → TableId
  cell_of place = place.seat.cell

  -- what stays of the state of a seat's cell
  abbrev pub fixed_of : TreeSeat D → Option (UserName × Limits)
  fixed_of place = place.seat.fixed

  -- the fixed part as it stands in clear beside the seat
  abbrev pub clear_of : TreeSeat D → Option (UserName × Limits)
  clear_of place = Some (place.owner, place.limits)

  -- the owner of the tree that a cell has
  abbrev pub owner_at : TreeCell D → UserName
  owner_at tree = tree.owner

  -- the cell that a tree has
  abbrev pub cell_at : TreeCell D → TableId
  cell_at tree = tree.cell

  -- the marks that seats have
  abbrev pub marks_of : Seats D → Marks
  marks_of seats = record {
    owners = map owner_of seats.trees.items;
    trees = map cell_of seats.trees.items;
    fixed = map fixed_of seats.trees.items;
    store = seats.store.cell;
    store_fixed = seats.store.fixed;
    keys = seats.keys.cell;
    keys_fixed = seats.keys.fixed;
  }

  -- the marks that they have where they are seats of this host
  abbrev pub marks_at : Shared D → Seats D → Marks
  marks_at shared seats = record {
    owners = map owner_at shared.trees.items;
    trees = map cell_at shared.trees.items;
    fixed = map clear_of seats.trees.items;
    store = shared.store;
    store_fixed = Some seats.store_limits;
    keys = shared.keys;
    keys_fixed = Some seats.keys_limits;
  }
