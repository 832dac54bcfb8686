-- A host that is shared, and what one caller has of it. This project's own.
use Rattle.std.specs.Prelude.{◌≡◌, ◌≤◌, ◌<◌, ◌-◌, ◌^◌, ℕ, Bool, List, [], ◌∷◌, Option, Some}
use Rattle.std.specs.List.{find}
use Rattle.std.specs.Option.{option_map}
use Rattle.std.specs.Str.{bytes_eq}
use Rattle.atomic_table.specs.Seated.{TableId}
use Rattle.up_calls.specs.Routes.{LogName}
use Rattle.up_calls.specs.Shown.{failures}
use Rattle.up_calls.specs.Views.{Seen, SeenTree, Views}
use Rattle.up_cell.specs.Known.{Known, Onward}
use Rattle.up_disk.specs.declared.disk.Disk as disk
use Rattle.up_names.specs.Texts.{UserName}
use Rattle.up_shared.specs.declared.shared.Seats.{Seats}
use Rattle.up_shared.specs.declared.shared.Shared.{Shared}
use Rattle.up_shared.specs.declared.shared.TreeCell.{TreeCell}
use Rattle.up_shared.specs.declared.shared.TreeSeat.{TreeSeat}

-- each item of one list with that at its place in the other
abbrev pub EachPair : {X Y : Type 0} → (X → Y → Type 0) → List X → List Y → Type 0
EachPair P [] [] = Unit {0}
EachPair P (x ∷ xs) (y ∷ ys) = P x y × EachPair P xs ys
EachPair P [] (y ∷ ys) = ⊥
EachPair P (x ∷ xs) [] = ⊥

-- what a seat has seen of one log, with its own records, the failures in its turns, and the part that stays
abbrev pub seen_by : {E F : Type 0} → Known E F → F → Seen E F
seen_by seat fixed = record { seen = seat.seen; own = seat.own; failed = seat.failed; fixed = fixed }

-- The caller looked at the count of a log in this call, and the answer is over no fewer records.
pub record Looked {E F : Type 0} (v w : Known E F) (n : ℕ) : Type 0 where
  pub looks : v.looks < w.looks
  pub floor : w.floor ≤ n

module _ {D : Type 0} where
  -- ---- which seats are those of a host

  -- the cell of the tree of an owner
  abbrev pub is_cell_of : UserName → TreeCell D → Bool
  is_cell_of owner tree = bytes_eq tree.owner owner

  -- the cell of an owner's tree, if the host has it
  abbrev pub cell_for : List (TreeCell D) → UserName → Option TableId
  cell_for trees owner = option_map (λ (tree : TreeCell D). tree.cell) (find (is_cell_of owner) trees)

  -- a seat of this cell, at a tree of this owner; the owner and the limits are what was fixed as the cell was made
  pub record IsTreeSeat (tree : TreeCell D) (place : TreeSeat D) : Type 0 where
    pub owner : place.owner ≡ tree.owner
    pub cell : place.seat.cell ≡ tree.cell
    pub fixed : place.seat.fixed ≡ Some (place.owner, place.limits)

  -- The seats are of the host's cells, one of each and in their order.
  pub record AreSeats (shared : Shared D) (seats : Seats D) : Type 0 where
    pub trees : EachPair IsTreeSeat shared.trees.items seats.trees.items
    pub store : seats.store.cell ≡ shared.store
    pub store_fixed : seats.store.fixed ≡ Some seats.store_limits
    pub keys : seats.keys.cell ≡ shared.keys
    pub keys_fixed : seats.keys.fixed ≡ Some seats.keys_limits

  -- ---- what a caller has of the logs

  -- the seat at the tree of an owner
  abbrev pub is_seat_of : UserName → TreeSeat D → Bool
  is_seat_of owner place = bytes_eq place.owner owner

  -- the seat at an owner's tree, if the host has it
  abbrev pub seat_for : List (TreeSeat D) → UserName → Option (TreeSeat D)
  seat_for trees owner = find (is_seat_of owner) trees

  -- what a seat at a tree has seen, with the tree's owner and limits
  abbrev pub tree_seen : TreeSeat D → SeenTree
  tree_seen place = seen_by place.seat (place.owner, place.limits)

  -- what all seats of a caller have seen
  abbrev pub views_of : Seats D → Views
  views_of seats = record {
    tree = λ owner. option_map tree_seen (seat_for seats.trees.items owner);
    store = seen_by seats.store seats.store_limits;
    keys = seen_by seats.keys seats.keys_limits;
  }

  -- ---- what every call leaves, but split and join

  -- what a seat at a tree had seen stays seen, and owner and limits stay
  pub record TreeSeatLater (before after : TreeSeat D) : Type 0 where
    pub owner : after.owner ≡ before.owner
    pub limits : after.limits ≡ before.limits
    pub seat : Onward before.seat after.seat

  -- What each seat has seen stays seen, its numbers never fall, and its cell and its share stay.
  pub record SeatsLater (before after : Seats D) : Type 0 where
    pub trees : EachPair TreeSeatLater before.trees.items after.trees.items
    pub store : Onward before.store after.store
    pub store_limits : after.store_limits ≡ before.store_limits
    pub keys : Onward before.keys after.keys
    pub keys_limits : after.keys_limits ≡ before.keys_limits

  -- ---- what happened at the seat of one log

  -- this holds of the seat before and after at the tree of an owner
  pub record AtTree (holds : TreeSeat D → TreeSeat D → Type 0) (owner : UserName) (a b : Seats D) : Type 0 where
    pub v : TreeSeat D
    pub w : TreeSeat D
    pub before : seat_for a.trees.items owner ≡ Some v
    pub after : seat_for b.trees.items owner ≡ Some w
    pub is : holds v w

  -- the caller looked at this log in this call, and the answer is over no fewer records
  abbrev pub HasLooked : LogName → ℕ → Seats D → Seats D → Type 0
  HasLooked (LogName.OfTree owner) n a b = AtTree (λ v w. Looked v.seat w.seat n) owner a b
  HasLooked LogName.OfStore n a b = Looked a.store b.store n
  HasLooked LogName.OfKeys n a b = Looked a.keys b.keys n

  -- this log's disk failed in a turn of this call: the seat's count of failures rose
  abbrev pub HasFailed : LogName → Seats D → Seats D → Type 0
  HasFailed (LogName.OfTree owner) a b = AtTree (λ v w. v.seat.failed < w.seat.failed) owner a b
  HasFailed LogName.OfStore a b = a.store.failed < b.store.failed
  HasFailed LogName.OfKeys a b = a.keys.failed < b.keys.failed

  -- This log's disk failed in no turn of this call: the seat's count of failures is as before. But where the count of a disk stands at its
  -- end, a seat counts a failure in each of its turns.
  pub data IsQuiet (disks : disk.Ghosts D) (log : LogName) (a b : Seats D) : Type 0 where
    Stays : failures (views_of b) log ≡ failures (views_of a) log → IsQuiet disks log a b
    AtEnd : (stood : D) → 2 ^ 64 - 1 ≤ disks.faults stood → IsQuiet disks log a b
