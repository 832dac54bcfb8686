-- How the logs of a host stay settled.
use Rattle.std.proofs.Common.{◌≡◌, ℕ, zero, suc, List, [], ◌∷◌, map, refl, sym, ap, subst, ◌∙◌, Some, slice_get, slice_set}
use Rattle.up_blocks.specs.declared.record.BlockRecord.{BlockRecord}
use Rattle.up_calls.proofs.SettledLemmas.{settled_same}
use Rattle.up_calls.specs.Settled.{KeepsSettled}
use Rattle.up_disk.specs.declared.disk.Disk.{Ghosts}
use Rattle.up_host.specs.Alone.{HostState}
use Rattle.up_host.specs.Settled.{StaysSettled, owner_of}
use Rattle.up_host.specs.TiedLaws.{trees_same}
use Rattle.up_host.specs.declared.held.Held.{Held}
use Rattle.up_journal.specs.Logs.{LogState}
use Rattle.up_tree.specs.States.{State, over_journal}
use Rattle.up_wire.specs.declared.keys.KeyRecord.{KeyRecord}

module _ {D : Type 0} (disks : Ghosts D) where
  -- a tree is set in the place of one of the same owner
  pub owners_set : (trees : List (Held (State D))) (place : ℕ) (before held : Held (State D)) → slice_get trees place ≡ Some before → held.state.owner ≡ before.state.owner → map owner_of (slice_set trees place held) ≡ map owner_of trees
  owners_set [] place before held at same = refl
  owners_set (tree ∷ trees) zero before held at same = let k : tree ≡ before = cc in ap (λ owner. owner ∷ map owner_of trees) (same ∙ sym (ap owner_of k))
  owners_set (tree ∷ trees) (suc place) before held at same = ap (λ owners. owner_of tree ∷ owners) (owners_set trees place before held at same)

  pub trees_set : (trees : List (Held (State D))) (place : ℕ) (before held : Held (State D)) → slice_get trees place ≡ Some before → KeepsSettled disks (over_journal before.state) (over_journal held.state)
      → (i : ℕ) (one other : Held (State D)) → slice_get trees i ≡ Some one → slice_get (slice_set trees place held) i ≡ Some other → KeepsSettled disks (over_journal one.state) (over_journal other.state)
  trees_set [] place before held at keeps i one other is_one is_other = absurd (cc)
  trees_set (tree ∷ trees) zero before held at keeps zero one other is_one is_other =
      let a : before ≡ one = cc in
      let b : held ≡ other = cc in
      subst (λ (h : Held (State D)). KeepsSettled disks (over_journal h.state) (over_journal other.state)) a (subst (λ (h : Held (State D)). KeepsSettled disks (over_journal before.state) (over_journal h.state)) b keeps)
  trees_set (tree ∷ trees) zero before held at keeps (suc i) one other is_one is_other =
      let k : one ≡ other = cc in
      subst (λ (h : Held (State D)). KeepsSettled disks (over_journal one.state) (over_journal h.state)) k (settled_same disks (over_journal one.state))
  trees_set (tree ∷ trees) (suc place) before held at keeps zero one other is_one is_other =
      let k : one ≡ other = cc in
      subst (λ (h : Held (State D)). KeepsSettled disks (over_journal one.state) (over_journal h.state)) k (settled_same disks (over_journal one.state))
  trees_set (tree ∷ trees) (suc place) before held at keeps (suc i) one other is_one is_other = trees_set trees place before held at keeps i one other is_one is_other

  pub host_store : (host after : HostState D) (store : LogState D BlockRecord) → after ≡ record host { store = record { state = store; base = host.store.base } } → KeepsSettled disks host.store.state store → StaysSettled disks host after
  host_store host after store h keeps = subst (λ (a : HostState D). StaysSettled disks host a) (sym h)
      (record { owners = refl; trees = trees_same disks host.trees; store = keeps; keys = settled_same disks host.keys.state })

  pub host_keys : (host after : HostState D) (keys : LogState D KeyRecord) → after ≡ record host { keys = record { state = keys; base = host.keys.base } } → KeepsSettled disks host.keys.state keys → StaysSettled disks host after
  host_keys host after keys h keeps = subst (λ (a : HostState D). StaysSettled disks host a) (sym h)
      (record { owners = refl; trees = trees_same disks host.trees; store = settled_same disks host.store.state; keys = keeps })

  pub host_tree : (host after : HostState D) (place : ℕ) (before held : Held (State D)) (store : LogState D BlockRecord) → slice_get host.trees place ≡ Some before
      → after ≡ record host { trees = slice_set host.trees place held; store = record { state = store; base = host.store.base } } → held.state.owner ≡ before.state.owner
      → KeepsSettled disks (over_journal before.state) (over_journal held.state) → KeepsSettled disks host.store.state store → StaysSettled disks host after
  host_tree host after place before held store at h same keeps reads = subst (λ (a : HostState D). StaysSettled disks host a) (sym h) (record {
    owners = owners_set host.trees place before held at same;
    trees = trees_set host.trees place before held at keeps;
    store = reads;
    keys = settled_same disks host.keys.state;
  })
