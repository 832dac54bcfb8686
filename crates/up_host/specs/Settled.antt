-- That the logs of a host stay settled but for a fault, and that all stays in its place. This project's own.
use Rattle.std.specs.Prelude.{◌≡◌, ℕ, map, slice_get, Some}
use Rattle.up_calls.specs.Settled.{KeepsSettled}
use Rattle.up_disk.specs.declared.disk.Disk.{Ghosts}
use Rattle.up_host.specs.Alone.{HostState}
use Rattle.up_host.specs.declared.held.Held.{Held}
use Rattle.up_names.specs.Texts.{UserName}
use Rattle.up_tree.specs.States.{State, over_journal}

-- the owner of a tree that a host keeps
abbrev pub owner_of : {D : Type 0} → Held (State D) → UserName
owner_of held = held.state.owner

-- each log of a host stays settled but for a fault, and its trees stand where they stood
pub record StaysSettled {D : Type 0} (disks : Ghosts D) (host after : HostState D) : Type 0 where
  pub owners : map owner_of after.trees ≡ map owner_of host.trees
  pub trees : (i : ℕ) (one other : Held (State D)) → slice_get host.trees i ≡ Some one
      → slice_get after.trees i ≡ Some other → KeepsSettled disks (over_journal one.state) (over_journal other.state)
  pub store : KeepsSettled disks host.store.state after.store.state
  pub keys : KeepsSettled disks host.keys.state after.keys.state
