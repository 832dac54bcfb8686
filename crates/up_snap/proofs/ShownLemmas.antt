-- What stands at each path of a snapshot tree.
use Rattle.std.proofs.Common.{◌≡◌, ℕ, zero, suc, ◌-◌, ◌<◌, ◌≤◌, Bool, true, false, ◌||◌, List, [], ◌∷◌, fold, map, length, take, refl, sym, ap, subst, ◌∙◌, arith, Option, Some, None}
use Rattle.std.specs.Prelude.{Contains, if◌then◌else◌, slice_get}
use Rattle.std.specs.Option.{option_and_then, option_map, option_or}
use Rattle.std.proofs.lemmas.Bool.{false≢true}
use Rattle.std.proofs.lemmas.List.{length-take-le}
use Rattle.std.proofs.lemmas.Option.{get_or_from_slice_get, slice_get_within}
use Rattle.up_names.specs.PathNames.{PathName, cut, is_under}
use Rattle.up_names.specs.PathOrder.{path_eq}
use Rattle.up_entry.specs.declared.records.Rec.{Rec}
use Rattle.up_entry.specs.declared.records.Rec.TheVariants.{Put, Delete, Snap}
use Rattle.up_log_tree.specs.Fits.{IsLog, snapshot_user}
use Rattle.up_log_tree.specs.Orders.{has_path as has}
use Rattle.up_log_tree.specs.Trees.{Tree, node_at, tree_at}
use Rattle.up_log_tree.specs.declared.node.Node.{Node}
use Rattle.up_log_tree.proofs.Paths.{path_eq_itself, path_same, some_none, some_same}
use Rattle.up_log_tree.proofs.Rooted.{rooted_at}
use Rattle.up_log_tree.proofs.Trees.{tree_sorted}
use Rattle.up_list.specs.Rooted.{IsRooted}
use Rattle.up_answers.specs.SnapshotTrees.{directories_above, made_up, moved_nodes, snapshots_to, with_new, with_snapshot, with_snapshot_of}
use Rattle.up_snap.specs.Shown.{bearing, bears_on, first_to, is_short, kept_node, old_path, renamed, shown_node, shown_root}
use Rattle.up_snap.specs.declared.shown.Shown.{Shown}
use Rattle.up_snap.proofs.NodeLemmas.{fold_new, fold_nodes, named_in, or_none, shown_below, shown_nowhere}
use Rattle.up_snap.proofs.UnderLemmas.{IsBelow, above_few, above_is, above_of, above_whole, below_is, below_of, moment_length, one_moment, root_below, root_moved}

-- ---- directories above a root

module _ (owner : List ℕ) (time : ℕ) (q : PathName) where
  abbrev Root : PathName
  Root = shown_root (snapshot_user owner) time

  abbrev cuts : PathName → List PathName
  cuts root = cut 0 root ∷ cut 1 root ∷ cut 2 root ∷ cut 3 root ∷ []

  above_are : directories_above time owner ≡ cuts Root
  unfolding directories_above
  above_are = ap cuts (root_moved owner time)

  has_cut : (n : ℕ) → n < 4 → q ≡ cut n Root → has (cuts Root) q ≡ true
  has_cut zero few is = go (path_eq q (cut 0 Root)) (subst (λ p. path_eq q p ≡ true) is (path_eq_itself q))
    where
      go : (b : Bool) → b ≡ true → (b || (path_eq q (cut 1 Root) || (path_eq q (cut 2 Root) || (path_eq q (cut 3 Root) || false)))) ≡ true
      go true h = refl
      go false h = absurd (false≢true h)
  has_cut (suc zero) few is = go (path_eq q (cut 0 Root)) (path_eq q (cut 1 Root)) (subst (λ p. path_eq q p ≡ true) is (path_eq_itself q))
    where
      go : (a b : Bool) → b ≡ true → (a || (b || (path_eq q (cut 2 Root) || (path_eq q (cut 3 Root) || false)))) ≡ true
      go true b h = refl
      go false true h = refl
      go false false h = absurd (false≢true h)
  has_cut (suc (suc zero)) few is = go (path_eq q (cut 0 Root)) (path_eq q (cut 1 Root)) (path_eq q (cut 2 Root)) (subst (λ p. path_eq q p ≡ true) is (path_eq_itself q))
    where
      go : (a b c : Bool) → c ≡ true → (a || (b || (c || (path_eq q (cut 3 Root) || false)))) ≡ true
      go true b c h = refl
      go false true c h = refl
      go false false true h = refl
      go false false false h = absurd (false≢true h)
  has_cut (suc (suc (suc zero))) few is = go (path_eq q (cut 0 Root)) (path_eq q (cut 1 Root)) (path_eq q (cut 2 Root)) (path_eq q (cut 3 Root)) (subst (λ p. path_eq q p ≡ true) is (path_eq_itself q))
    where
      go : (a b c d : Bool) → d ≡ true → (a || (b || (c || (d || false)))) ≡ true
      go true b c d h = refl
      go false true c d h = refl
      go false false true d h = refl
      go false false false true h = refl
      go false false false false h = absurd (false≢true h)
  has_cut (suc (suc (suc (suc n)))) few is = absurd (omega (arith, few))

  of_cut : has (cuts Root) q ≡ true → (n : ℕ) × (n < 4) × (q ≡ cut n Root)
  of_cut h = go (path_eq q (cut 0 Root)) refl (path_eq q (cut 1 Root)) refl (path_eq q (cut 2 Root)) refl (path_eq q (cut 3 Root)) refl h
    where
      go : (a : Bool) → path_eq q (cut 0 Root) ≡ a → (b : Bool) → path_eq q (cut 1 Root) ≡ b → (c : Bool) → path_eq q (cut 2 Root) ≡ c → (d : Bool) → path_eq q (cut 3 Root) ≡ d →
          (a || (b || (c || (d || false)))) ≡ true → (n : ℕ) × (n < 4) × (q ≡ cut n Root)
      go true e b f c g d k h = (0, omega arith, path_same q (cut 0 Root) e)
      go false e true f c g d k h = (1, omega arith, path_same q (cut 1 Root) f)
      go false e false f true g d k h = (2, omega arith, path_same q (cut 2 Root) g)
      go false e false f false g true k h = (3, omega arith, path_same q (cut 3 Root) k)
      go false e false f false g false k h = absurd (false≢true h)

  no_cut : (has (cuts Root) q ≡ true → ⊥) → has (cuts Root) q ≡ false
  no_cut not = go (has (cuts Root) q) refl
    where
      go : (b : Bool) → has (cuts Root) q ≡ b → has (cuts Root) q ≡ false
      go true is = absurd (not is)
      go false is = is

  size_of_cut : (n : ℕ) → n < 4 → q ≡ cut n Root → length q.elements ≡ n
  size_of_cut n few is = ap (λ (p : PathName). length p.elements) is ∙ length-take-le n Root.elements (let e = moment_length time in omega (arith, e, few))

  -- a path below the root is none of them
  pub below_not_above : is_under q Root ≡ true → has (directories_above time owner) q ≡ false
  below_not_above below =
      ap (λ ps. has ps q) above_are
      ∙ no_cut (λ h. let found = of_cut h in
      let size = size_of_cut found.0 found.1 found.2 in
      let is = below_of (snapshot_user owner) time q below in
      omega (arith, size, found.1, is.size))

  -- one above the root, and not the root, is
  pub above_is_made : is_under q Root ≡ false → is_under Root q ≡ true → has (directories_above time owner) q ≡ true
  above_is_made apart above =
      let few = above_few (snapshot_user owner) time q above in
      ap (λ ps. has ps q) above_are
      ∙ has_cut (length q.elements)
      (go (length q.elements) refl few)
      (sym (above_of (snapshot_user owner) time q above))
    where
      go : (n : ℕ) → length q.elements ≡ n → n ≤ 4 → n < 4
      go (suc (suc (suc (suc zero)))) size few =
          let root : q ≡ Root = above_whole (snapshot_user owner) time q above (omega (arith, size)) in
          absurd (false≢true (sym apart ∙ below_is (snapshot_user owner) time q (subst (IsBelow (snapshot_user owner) time) (sym root) (root_below (snapshot_user owner) time))))
      go zero size few = omega arith
      go (suc zero) size few = omega arith
      go (suc (suc zero)) size few = omega arith
      go (suc (suc (suc zero))) size few = omega arith
      go (suc (suc (suc (suc (suc n))))) size few = absurd (omega (arith, few))

  -- and no other
  pub other_not_above : is_under Root q ≡ false → has (directories_above time owner) q ≡ false
  other_not_above apart =
      ap (λ ps. has ps q) above_are
      ∙ no_cut (λ h. let found = of_cut h in
      false≢true (sym apart ∙ above_is (snapshot_user owner) time q found.0 (let f : found.0 < 4 = found.1 in omega (arith, f)) found.2))

-- ---- one snapshot more

module _ (owner : List ℕ) (time position : ℕ) (was tree : Tree) (rooted : IsRooted owner was) (q : PathName) where
  abbrev Shows : Option Node → Option Node → Option Node
  Shows kept made = option_or kept (option_or (node_at tree q) made)

  with_parts : node_at (with_snapshot owner time position was tree) q
      ≡ Shows (named_in q (moved_nodes time was)) (if has (directories_above time owner) q then Some (made_up owner time position q) else None)
  unfolding with_snapshot
  with_parts =
      fold_nodes (fold with_new tree (map (made_up owner time position) (directories_above time owner))) (moved_nodes time was) q
      ∙ ap (option_or (named_in q (moved_nodes time was))) (fold_new owner time position tree (directories_above time owner) q)

  pub with_below : is_under q (shown_root (snapshot_user owner) time) ≡ true →
      node_at (with_snapshot owner time position was tree) q ≡ option_or (if is_short q then option_map (renamed q) (node_at was (old_path owner q)) else None) (node_at tree q)
  with_below below =
      with_parts
      ∙ ap (λ b. Shows (named_in q (moved_nodes time was)) (if b then Some (made_up owner time position q) else None)) (below_not_above owner time q below)
      ∙ ap (λ o. option_or (named_in q (moved_nodes time was)) o) (or_none (node_at tree q))
      ∙ ap (λ o. option_or o (node_at tree q)) (shown_below owner time q was rooted (below_of (snapshot_user owner) time q below))

  pub with_above : is_under q (shown_root (snapshot_user owner) time) ≡ false → is_under (shown_root (snapshot_user owner) time) q ≡ true →
      node_at (with_snapshot owner time position was tree) q ≡ option_or (node_at tree q) (Some (made_up owner time position q))
  with_above apart above =
      with_parts
      ∙ ap (λ b. Shows (named_in q (moved_nodes time was)) (if b then Some (made_up owner time position q) else None)) (above_is_made owner time q apart above)
      ∙ ap (λ o. option_or o (option_or (node_at tree q) (Some (made_up owner time position q)))) (shown_nowhere owner time q was rooted apart)

  pub with_other : is_under q (shown_root (snapshot_user owner) time) ≡ false → is_under (shown_root (snapshot_user owner) time) q ≡ false →
      node_at (with_snapshot owner time position was tree) q ≡ node_at tree q
  with_other apart other =
      with_parts
      ∙ ap (λ b. Shows (named_in q (moved_nodes time was)) (if b then Some (made_up owner time position q) else None)) (other_not_above owner time q other)
      ∙ ap (λ o. option_or o (option_or (node_at tree q) None)) (shown_nowhere owner time q was rooted apart)
      ∙ or_none (node_at tree q)

-- ---- the first snapshot that bears on a path

pub record IsFirst (snap_user : List ℕ) (records : List Rec) (q : PathName) (n : ℕ) (s : Shown) : Type 0 where
  pub place : ℕ
  pub within : place < n
  pub takes : slice_get records place ≡ Some (Snap s.time)
  pub position : s.position ≡ suc place
  pub bears : bears_on snap_user q s.time ≡ true

module _ (snap_user : List ℕ) (records : List Rec) (q : PathName) where
  pub bearing_is : (n : ℕ) (o : Option Rec) (s : Shown) → slice_get records n ≡ o → bearing snap_user q (suc n) o ≡ Some s → IsFirst snap_user records q (suc n) s
  bearing_is n None s is h = absurd (some_none s (sym h))
  bearing_is n (Some (Put entry text)) s is h = absurd (some_none s (sym h))
  bearing_is n (Some (Delete gone)) s is h = absurd (some_none s (sym h))
  bearing_is n (Some (Snap time)) s is h = go (bears_on snap_user q time) refl h
    where
      go : (b : Bool) → bears_on snap_user q time ≡ b → (if b then Some (record { position = suc n; time = time }) else None) ≡ Some s → IsFirst snap_user records q (suc n) s
      go false e k = absurd (some_none s (sym k))
      go true e k =
          let same : record { position = suc n; time = time } ≡ s = some_same (record { position = suc n; time = time }) s k in
          subst (IsFirst snap_user records q (suc n)) same (record { place = n; within = omega arith; takes = is; position = refl; bears = e })

  pub first_is : (n : ℕ) (s : Shown) → first_to snap_user records q n ≡ Some s → IsFirst snap_user records q n s
  unfolding first_to
  first_is zero s h = absurd (some_none s (sym h))
  first_is (suc n) s h = go (first_to snap_user records q n) refl (λ t k. first_is n t k) h
    where
      go : (o : Option Shown) → first_to snap_user records q n ≡ o → ((t : Shown) → first_to snap_user records q n ≡ Some t → IsFirst snap_user records q n t) →
          option_or o (bearing snap_user q (suc n) (slice_get records n)) ≡ Some s → IsFirst snap_user records q (suc n) s
      go None e ih k = bearing_is n (slice_get records n) s refl k
      go (Some t) e ih k =
          let was = ih t e in
          subst (IsFirst snap_user records q (suc n)) (some_same t s k) (record { place = was.place; within = omega (arith, was.within); takes = was.takes; position = was.position; bears = was.bears })

-- a record among the first ones
pub has_taken : (records : List Rec) (n m : ℕ) (r : Rec) → m < n → slice_get records m ≡ Some r → Contains (take n records) r
has_taken records n m r lt h =
    let there : slice_get (take n records) m ≡ Some r = among records n m lt ∙ h in
    (m, slice_get_within (take n records) m r there, get_or_from_slice_get (take n records) m r r there)
  where
    among : (xs : List Rec) (n m : ℕ) → m < n → slice_get (take n xs) m ≡ slice_get xs m
    among [] zero m lt = refl
    among [] (suc n) m lt = refl
    among (x ∷ xs) zero m lt = absurd (omega (arith, lt))
    among (x ∷ xs) (suc n) zero lt = refl
    among (x ∷ xs) (suc n) (suc m) lt = among xs n m (omega (arith, lt))

-- ---- the snapshot tree

module _ (owner : List ℕ) (records : List Rec) (is : IsLog owner records) (q : PathName) where
  abbrev SnapUser : List ℕ
  SnapUser = snapshot_user owner

  pub calendar : (n : ℕ) (time : ℕ) → slice_get records n ≡ Some (Snap time) → time < 253402207200
  calendar n time taken = (is.fitting.each n (Snap time) taken).calendar

  pub rooted_then : (n : ℕ) → IsRooted owner (tree_at records n)
  rooted_then n = let r = rooted_at owner records is.fitting n in record { ordered = tree_sorted (take n records); named = r.named; placed = r.placed }

  abbrev First : ℕ → Option Shown
  First n = first_to SnapUser records q n

  -- one snapshot is below whose root the path is
  none_before : (n time : ℕ) → slice_get records n ≡ Some (Snap time) → is_under q (shown_root SnapUser time) ≡ true → First n ≡ None
  none_before n time taken below = go (First n) refl
    where
      is_below : IsBelow SnapUser time q
      is_below = below_of SnapUser time q below

      twice : (s : Shown) → IsFirst SnapUser records q n s → IsBelow SnapUser s.time q → ⊥
      twice s first other =
          let same : s.time ≡ time = one_moment SnapUser SnapUser s.time time q (calendar first.place s.time first.takes) (calendar n time taken) other is_below in
          (is.fitting.each n (Snap time) taken).new (has_taken records n first.place (Snap time) first.within (first.takes ∙ ap (λ t. Some (Snap t)) same))

      by : (s : Shown) → IsFirst SnapUser records q n s → (b : Bool) → is_under q (shown_root SnapUser s.time) ≡ b → ⊥
      by s first true e = twice s first (below_of SnapUser s.time q e)
      by s first false e =
          let above : is_under (shown_root SnapUser s.time) q ≡ true = sym (ap (λ b. b || is_under (shown_root SnapUser s.time) q) e) ∙ first.bears in
          let root = above_whole SnapUser s.time q above is_below.size in
          twice s first (subst (IsBelow SnapUser s.time) (sym root) (root_below SnapUser s.time))

      go : (o : Option Shown) → First n ≡ o → First n ≡ None
      go None e = e
      go (Some s) e = absurd (by s (first_is SnapUser records q n s e) (is_under q (shown_root SnapUser s.time)) refl)

  -- what the first one shows above its root is made up
  pub made_above : (s : Shown) → q.owner ≡ SnapUser → is_under q (shown_root SnapUser s.time) ≡ false → shown_node owner records q s ≡ Some (made_up owner s.time s.position q)
  unfolding shown_node
  made_above s owned apart =
      ap (λ b. if b then kept_node owner records q (s.position - 1) else Some (made_up owner s.time s.position q))
      (ap (λ o. is_under q (shown_root o s.time)) owned ∙ apart)

  pub kept_below : (n time : ℕ) → q.owner ≡ SnapUser → is_under q (shown_root SnapUser time) ≡ true →
      shown_node owner records q (record { position = suc n; time = time }) ≡ kept_node owner records q n
  unfolding shown_node
  kept_below n time owned below =
      ap (λ b. if b then kept_node owner records q (suc n - 1) else Some (made_up owner time (suc n) q)) (ap (λ o. is_under q (shown_root o time)) owned ∙ below)
      ∙ ap (kept_node owner records q) (let e : suc n - 1 ≡ n = omega arith in e)

  short_path : (time : ℕ) → is_under q (shown_root SnapUser time) ≡ false → is_under (shown_root SnapUser time) q ≡ true → length q.elements < 4
  short_path time apart above = go (length q.elements) refl (above_few SnapUser time q above)
    where
      go : (n : ℕ) → length q.elements ≡ n → n ≤ 4 → n < 4
      go (suc (suc (suc (suc zero)))) size few =
          let root : q ≡ shown_root SnapUser time = above_whole SnapUser time q above (omega (arith, size)) in
          absurd (false≢true (sym apart ∙ below_is SnapUser time q (subst (IsBelow SnapUser time) (sym root) (root_below SnapUser time))))
      go zero size few = omega arith
      go (suc zero) size few = omega arith
      go (suc (suc zero)) size few = omega arith
      go (suc (suc (suc zero))) size few = omega arith
      go (suc (suc (suc (suc (suc n))))) size few = absurd (omega (arith, few))

  above_owner : (time : ℕ) → is_under (shown_root SnapUser time) q ≡ true → q.owner ≡ SnapUser
  above_owner time above = sym (ap (λ (p : PathName). p.owner) (above_of SnapUser time q above))

  abbrev Told : ℕ → Type 0
  Told n = node_at (snapshots_to owner records n) q ≡ option_and_then (shown_node owner records q) (First n)

  -- one Snap more
  snap_told : (n time : ℕ) → slice_get records n ≡ Some (Snap time) → Told n →
      node_at (with_snapshot owner time (suc n) (tree_at records n) (snapshots_to owner records n)) q
      ≡ option_and_then (shown_node owner records q) (option_or (First n) (bearing SnapUser q (suc n) (Some (Snap time))))
  snap_told n time taken so_far = go (is_under q (shown_root SnapUser time)) refl (is_under (shown_root SnapUser time) q) refl
    where
      bears : (a : Bool) → is_under q (shown_root SnapUser time) ≡ a → (b : Bool) → is_under (shown_root SnapUser time) q ≡ b →
          bearing SnapUser q (suc n) (Some (Snap time)) ≡ (if a || b then Some (record { position = suc n; time = time }) else None)
      bears a e b f = ap (λ c. if c || is_under (shown_root SnapUser time) q then Some (record { position = suc n; time = time }) else None) e ∙ ap (λ c. if a || c then Some (record { position = suc n; time = time }) else None) f

      rhs : (a : Bool) → is_under q (shown_root SnapUser time) ≡ a → (b : Bool) → is_under (shown_root SnapUser time) q ≡ b →
          option_and_then (shown_node owner records q) (option_or (First n) (bearing SnapUser q (suc n) (Some (Snap time)))) ≡ option_and_then (shown_node owner records q) (option_or (First n) (if a || b then Some (record { position = suc n; time = time }) else None))
      rhs a e b f = ap (λ o. option_and_then (shown_node owner records q) (option_or (First n) o)) (bears a e b f)

      above_more : (o : Option Shown) → First n ≡ o → is_under q (shown_root SnapUser time) ≡ false → is_under (shown_root SnapUser time) q ≡ true →
          option_or (node_at (snapshots_to owner records n) q) (Some (made_up owner time (suc n) q)) ≡ option_and_then (shown_node owner records q) (option_or o (Some (record { position = suc n; time = time })))
      above_more None first e f =
          ap (λ o. option_or o (Some (made_up owner time (suc n) q))) (so_far ∙ ap (option_and_then (shown_node owner records q)) first)
          ∙ sym (made_above (record { position = suc n; time = time }) (above_owner time f) e)
      above_more (Some s) first e f =
          let low = short_path time e f in
          let found = first_is SnapUser records q n s first in
          let apart : is_under q (shown_root SnapUser s.time) ≡ false = not_below s low in
          let shown = made_above s (above_owner time f) apart in
          ap (λ o. option_or o (Some (made_up owner time (suc n) q))) (so_far ∙ ap (option_and_then (shown_node owner records q)) first ∙ shown)
          ∙ sym shown
        where
          not_below : (s : Shown) → length q.elements < 4 → is_under q (shown_root SnapUser s.time) ≡ false
          not_below s low = by (is_under q (shown_root SnapUser s.time)) refl
            where
              by : (b : Bool) → is_under q (shown_root SnapUser s.time) ≡ b → is_under q (shown_root SnapUser s.time) ≡ false
              by false h = h
              by true h = let below = below_of SnapUser s.time q h in absurd (omega (arith, low, below.size))

      go : (a : Bool) → is_under q (shown_root SnapUser time) ≡ a → (b : Bool) → is_under (shown_root SnapUser time) q ≡ b →
          node_at (with_snapshot owner time (suc n) (tree_at records n) (snapshots_to owner records n)) q ≡ option_and_then (shown_node owner records q) (option_or (First n) (bearing SnapUser q (suc n) (Some (Snap time))))
      go true e b f =
          let none = none_before n time taken e in
          with_below owner time (suc n) (tree_at records n) (snapshots_to owner records n) (rooted_then n) q e
          ∙ ap (option_or (kept_node owner records q n)) (so_far ∙ ap (option_and_then (shown_node owner records q)) none)
          ∙ or_none (kept_node owner records q n)
          ∙ sym (kept_below n time (below_of SnapUser time q e).owned e)
          ∙ ap (λ o. option_and_then (shown_node owner records q) (option_or o (Some (record { position = suc n; time = time })))) (sym none)
          ∙ sym (rhs true e b f)
      go false e true f = with_above owner time (suc n) (tree_at records n) (snapshots_to owner records n) (rooted_then n) q e f ∙ above_more (First n) refl e f ∙ sym (rhs false e true f)
      go false e false f =
          with_other owner time (suc n) (tree_at records n) (snapshots_to owner records n) (rooted_then n) q e f ∙ so_far
          ∙ ap (option_and_then (shown_node owner records q)) (sym (or_none (First n)))
          ∙ sym (rhs false e false f)

  -- one record more
  record_told : (n : ℕ) (o : Option Rec) → slice_get records n ≡ o → Told n →
      node_at (with_snapshot_of owner o (suc n) (tree_at records n) (snapshots_to owner records n)) q ≡ option_and_then (shown_node owner records q) (option_or (First n) (bearing SnapUser q (suc n) o))
  record_told n None e so_far = so_far ∙ ap (option_and_then (shown_node owner records q)) (sym (or_none (First n)))
  record_told n (Some (Put entry text)) e so_far = so_far ∙ ap (option_and_then (shown_node owner records q)) (sym (or_none (First n)))
  record_told n (Some (Delete gone)) e so_far = so_far ∙ ap (option_and_then (shown_node owner records q)) (sym (or_none (First n)))
  record_told n (Some (Snap time)) e so_far = snap_told n time e so_far

  pub told : (n : ℕ) → node_at (snapshots_to owner records n) q ≡ option_and_then (shown_node owner records q) (first_to SnapUser records q n)
  unfolding snapshots_to first_to node_at
  told zero = refl
  told (suc n) = record_told n (slice_get records n) refl (told n)
