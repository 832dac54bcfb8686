-- What every call leaves is left by two calls, one after the other.
use Rattle.std.proofs.Common.{◌≡◌, ◌≤◌, ◌+◌, ℕ, zero, suc, List, [], ◌∷◌, length, map, refl, sym, ap, subst, ◌∙◌, arith, append-nil}
use Rattle.std.proofs.Common.{Option, Some, None, option_map, slice_get}
use Rattle.up_calls.proofs.GatherLemmas.{is_there, stays_same, stays_trans}
use Rattle.up_calls.proofs.SettledLemmas.{settled_same, settled_trans}
use Rattle.up_calls.proofs.TurnLemmas.{later_trans, stays_more}
use Rattle.up_calls.specs.Routes.{LogName, OwnStays}
use Rattle.up_calls.specs.Settled.{KeepsSettled}
use Rattle.up_calls.specs.Views.{LaterSeen, LaterTree, Seen, SeenTree, own_of}
use Rattle.up_disk.specs.declared.disk.Disk.{Ghosts}
use Rattle.up_host.specs.Alone.{AddsOwn, HostState, disk_faults, ends_at, views}
use Rattle.up_host.specs.Settled.{StaysSettled, owner_of}
use Rattle.up_host.specs.Tied.{DiskRose, IsTied}
use Rattle.up_host.specs.declared.held.Held.{Held}
use Rattle.up_lists.proofs.Causes.{Rose-after, Rose-before}
use Rattle.up_tree.specs.States.{State, over_journal}

-- ---- numbers

-- a number is at most itself
pub le_same : (n : ℕ) → n ≤ n
le_same n = omega arith

-- what is at most a number is at most every larger one
pub le_then : (a b c : ℕ) → a ≤ b → b ≤ c → a ≤ c
le_then a b c p q = omega (arith, p, q)

-- ---- one log

-- a tree that stays is later than itself
pub later_tree : (view : Option SeenTree) → LaterTree view view
later_tree None = tt
later_tree (Some v) = record { begins = record { rest = []; whole = append-nil v.seen }; failed = omega arith; fixed = refl }

-- a log that stays is later than itself
pub seen_same : {E F : Type 0} (v : Seen E F) → LaterSeen v v
seen_same v = record { begins = record { rest = []; whole = append-nil v.seen }; failed = omega arith; fixed = refl }

-- records that are a caller's own over each of two calls are so over both
adds_both : {E F : Type 0} (u v w : Seen E F) → AddsOwn u v → AddsOwn v w → AddsOwn u w
adds_both u v w one two =
    let p : length v.seen + length u.own ≡ length u.seen + length v.own = one in
    let q : length w.seen + length v.own ≡ length v.seen + length w.own = two in
    omega (arith, p, q)

-- where nothing was added, all that was added is the caller's own
pub same_view : (x : Option SeenTree) (v w : SeenTree) → x ≡ Some v → x ≡ Some w → AddsOwn v w
same_view x v w p q =
    let k : Some v ≡ Some w = sym p ∙ q in
    let same : v ≡ w = cc in
    subst (AddsOwn v) same refl

-- where no own record came, and none but own ones come, a log stays as long
as_long : {E F : Type 0} (v w : Seen E F) → AddsOwn v w → w.own ≡ v.own → length v.seen ≡ length w.seen
as_long v w grown same =
    let p : length w.seen + length v.own ≡ length v.seen + length w.own = grown in
    let k : length w.own ≡ length v.own = ap length same in
    omega (arith, p, k)

-- where no own record came, and none but own ones come, the log of a tree stays as long
tree_long : (n : ℕ) (x y : Option SeenTree) → LaterTree x y → own_of y ≡ own_of x
    → ((v w : SeenTree) → x ≡ Some v → y ≡ Some w → AddsOwn v w)
    → option_map (λ (v : SeenTree). length v.seen) y ≡ Some n → option_map (λ (v : SeenTree). length v.seen) x ≡ Some n
tree_long n None None later own grown at = at
tree_long n None (Some w) later own grown at = absurd later
tree_long n (Some v) None later own grown at = absurd later
tree_long n (Some v) (Some w) later own grown at = let same : w.own ≡ v.own = cc in ap Some (as_long v w (grown v w refl refl) same) ∙ at

-- ---- settled logs

-- a list that is as long has an item there too
there_too : {X : Type 0} (xs ys : List X) (i : ℕ) (x : X) → slice_get xs i ≡ Some x
    → length ys ≡ length xs → (y : X) × (slice_get ys i ≡ Some y)
there_too [] ys i x is same = absurd (cc)
there_too (z ∷ xs) [] i x is same = absurd (omega (arith, same))
there_too (z ∷ xs) (y ∷ ys) zero x is same = (y, refl)
there_too (z ∷ xs) (y ∷ ys) (suc i) x is same = there_too xs ys i x is (omega (arith, same))

-- a list that is mapped stays as long
mapped : {X Y : Type 0} (f : X → Y) (xs : List X) → length (map f xs) ≡ length xs
mapped f [] = refl
mapped f (x ∷ xs) = let rest : length (map f xs) ≡ length xs = mapped f xs in omega (arith, rest)

-- lists whose maps are equal are as long
as_many : {X Y : Type 0} (f : X → Y) (xs ys : List X) → map f ys ≡ map f xs → length ys ≡ length xs
as_many f xs ys same = sym (mapped f ys) ∙ ap length same ∙ mapped f xs

module _ {D : Type 0} (disks : Ghosts D) where
  -- each tree of the same host stays settled
  pub trees_same : (trees : List (Held (State D))) (i : ℕ) (one other : Held (State D)) → slice_get trees i ≡ Some one
      → slice_get trees i ≡ Some other → KeepsSettled disks (over_journal one.state) (over_journal other.state)
  trees_same trees i one other is_one is_other =
      let k : Some one ≡ Some other = sym is_one ∙ is_other in
      let same : one ≡ other = cc in
      subst (λ (h : Held (State D)). KeepsSettled disks (over_journal one.state) (over_journal h.state)) same
      (settled_same disks (over_journal one.state))

  -- the same host stays settled
  pub host_same : (host after : HostState D) → after ≡ host → StaysSettled disks host after
  host_same host after h = subst (λ (a : HostState D). StaysSettled disks host a) (sym h)
      (record {
        owners = refl;
        trees = trees_same host.trees;
        store = settled_same disks host.store.state;
        keys = settled_same disks host.keys.state;
      })

  -- what stays settled over each of two calls stays so over both
  pub stays_then : (a b c : HostState D) → StaysSettled disks a b → StaysSettled disks b c → StaysSettled disks a c
  stays_then a b c one two = record {
    owners = two.owners ∙ one.owners;
    trees = λ i first last at also.
        let mid = there_too a.trees b.trees i first at (as_many owner_of a.trees b.trees one.owners) in
        let p = one.trees i first mid.0 at mid.1 in
        let q = two.trees i mid.0 last mid.1 also in
        settled_trans disks (over_journal first.state) (over_journal mid.0.state) (over_journal last.state) p.later q.later p q;
    store = settled_trans disks a.store.state b.store.state c.store.state one.store.later two.store.later one.store two.store;
    keys = settled_trans disks a.keys.state b.keys.state c.keys.state one.keys.later two.keys.later one.keys two.keys;
  }

-- ---- any calls

module _ {D : Type 0} {disks : Ghosts D} where
  -- a host is tied to itself
  pub tied_same : (a : HostState D) → IsTied disks None a a
  tied_same a = record {
    name = refl;
    operator = refl;
    trees = λ owner n. refl;
    keys = λ n. refl;
    later = record { trees = λ owner. later_tree ((views disks a).tree owner); store = seen_same _; keys = seen_same _ };
    own = stays_same None (views disks a);
    tree_grown = λ owner v w is_v is_w. same_view ((views disks a).tree owner) v w is_v is_w;
    store_grown = refl;
    keys_grown = refl;
    stays = host_same disks a a refl;
    counts = le_same (disk_faults disks a);
  }

  -- a host that is tied over each of two calls is so over both
  pub tied_joined : (but : Option LogName) (a b c : HostState D) → IsTied disks but a b → IsTied disks but b c → IsTied disks but a c
  tied_joined but a b c one two = record {
    name = two.name ∙ one.name;
    operator = two.operator ∙ one.operator;
    trees = λ owner n. two.trees owner n ∙ one.trees owner n;
    keys = λ n. two.keys n ∙ one.keys n;
    later = later_trans (views disks a) (views disks b) (views disks c) one.later two.later;
    own = stays_trans but (views disks a) (views disks b) (views disks c) one.own two.own;
    tree_grown = λ owner v w is_v is_w.
        let t = is_there ((views disks a).tree owner) ((views disks b).tree owner) v (one.later.trees owner) is_v in
        adds_both v t.0 w (one.tree_grown owner v t.0 is_v t.1) (two.tree_grown owner t.0 w t.1 is_w);
    store_grown = adds_both (views disks a).store (views disks b).store (views disks c).store one.store_grown two.store_grown;
    keys_grown = adds_both (views disks a).keys (views disks b).keys (views disks c).keys one.keys_grown two.keys_grown;
    stays = stays_then disks a b c one.stays two.stays;
    counts = le_then (disk_faults disks a) (disk_faults disks b) (disk_faults disks c) one.counts two.counts;
  }

  -- a host of which no log gained an own record is tied whatever log may gain one
  pub tied_wider : (but : Option LogName) (a b : HostState D) → IsTied disks None a b → IsTied disks but a b
  tied_wider but a b h = record {
    name = h.name;
    operator = h.operator;
    trees = λ owner n. h.trees owner (λ e. cc);
    keys = λ n. h.keys (λ e. cc);
    later = h.later;
    own = stays_more but (views disks a) (views disks b) h.own;
    tree_grown = h.tree_grown;
    store_grown = h.store_grown;
    keys_grown = h.keys_grown;
    stays = h.stays;
    counts = h.counts;
  }

  -- a log that gained no own record since has the length that it had
  pub left_since : (log : LogName) (n : ℕ) (a b : HostState D) → IsTied disks (Some log) a b → OwnStays None (views disks a) (views disks b)
      → ends_at (Some log) (views disks b) ≡ Some n → ends_at (Some log) (views disks a) ≡ Some n
  left_since (LogName.OfTree owner) n a b tie own at =
      tree_long n ((views disks a).tree owner) ((views disks b).tree owner)
      (tie.later.trees owner) (own.trees owner (λ e. cc)) (tie.tree_grown owner) at
  left_since LogName.OfStore n a b tie own at =
      ap Some (as_long (views disks a).store (views disks b).store tie.store_grown (own.store (λ e. cc))) ∙ at
  left_since LogName.OfKeys n a b tie own at =
      ap Some (as_long (views disks a).keys (views disks b).keys tie.keys_grown (own.keys (λ e. cc))) ∙ at

  -- a disk that failed between two tied states failed over the whole
  pub rises_within : (but : Option LogName) (a b c d : HostState D) → IsTied disks but a b
      → DiskRose disks b c → IsTied disks but c d → DiskRose disks a d
  rises_within but a b c d one h two = record {
    later =
        le_then (disk_faults disks a) (disk_faults disks b) (disk_faults disks d) one.counts
        (le_then (disk_faults disks b) (disk_faults disks c) (disk_faults disks d) h.later two.counts);
    rose =
        Rose-before (disk_faults disks a) (disk_faults disks c) (disk_faults disks d)
        (Rose-after (disk_faults disks a) (disk_faults disks b) (disk_faults disks c) one.counts h.later h.rose) two.counts;
  }
