-- A host that is shared, and the seats that its first caller has of it. This project's own.
use Rattle.std.specs.Prelude.{◌≡◌, List, [], ◌∷◌}
use Rattle.std.specs.String.{string_bytes}
use Rattle.up_cell.specs.Known.{newcomer}
use Rattle.up_host.specs.Alone.{HostState}
use Rattle.up_host.specs.declared.held.Held.{Held}
use Rattle.up_shared.specs.Sharing.{AreSeats}
use Rattle.up_shared.specs.declared.shared.Seats.{Seats}
use Rattle.up_shared.specs.declared.shared.Shared.{Shared}
use Rattle.up_shared.specs.declared.shared.TreeCell.{TreeCell}
use Rattle.up_shared.specs.declared.shared.TreeSeat.{TreeSeat}
use Rattle.up_tree.specs.States.{State, fixed_of}

-- a tree in a cell, and the seat of a new cell: it has seen the whole log, and has the whole share
pub record IsSharedTree {D : Type 0} (state : State D) (tree : TreeCell D) (place : TreeSeat D) : Type 0 where
  pub owner : tree.owner ≡ state.owner
  pub seat_owner : place.owner ≡ state.owner
  pub limits : place.limits ≡ state.limits
  pub seat : place.seat ≡ newcomer tree.cell state.log (fixed_of state)

-- each tree of a host is in a cell, with the seat of the host's first caller, in their order
abbrev pub AreShared : {D : Type 0} → List (Held (State D)) → List (TreeCell D) → List (TreeSeat D) → Type 0
AreShared [] [] [] = Unit {0}
AreShared (held ∷ trees) (cell ∷ cells) (seat ∷ seats) = IsSharedTree held.state cell seat × AreShared trees cells seats
AreShared _ _ _ = ⊥

-- Each log of the host is in a cell; each seat has seen the whole log, and has the whole share.
pub record IsSharedHost {D : Type 0} (host : HostState D) (shared : Shared D) (seats : Seats D) : Type 0 where
  pub name : string_bytes shared.name ≡ host.name
  pub operator : shared.operator ≡ host.operator
  pub trees : AreShared host.trees shared.trees.items seats.trees.items
  pub store : seats.store ≡ newcomer shared.store host.store.state.log host.store.state.limits
  pub store_limits : seats.store_limits ≡ host.store.state.limits
  pub keys : seats.keys ≡ newcomer shared.keys host.keys.state.log host.keys.state.limits
  pub keys_limits : seats.keys_limits ≡ host.keys.state.limits
  pub sits : AreSeats shared seats
