-- The rights of a user before a snapshot tree, and the longest prefix of a path that stands in it.
use Rattle.std.proofs.Common.{◌≡◌, ℕ, zero, suc, ◌+◌, ◌-◌, ◌<◌, ◌≤◌, arith, List, [], ◌∷◌, map, length, Bool, true, false, not, ◌&&◌, refl, sym, ap, ◌∙◌, bytes_eq, Option, Some, None}
use Rattle.std.specs.Prelude.{if◌then◌else◌, find, is_some}
use Rattle.std.proofs.lemmas.Bool.{false≢true}
use Rattle.up_names.specs.PathNames.{cut}
use Rattle.up_log_tree.specs.declared.node.Node.{Node}
use Rattle.up_log_tree.specs.Trees.{Tree, node_at}
use Rattle.up_log_tree.proofs.Paths.{cut_cut, cut_whole, length_cut, some_none}
use Rattle.up_list.specs.Rooted.{IsRooted}
use Rattle.up_list.proofs.ViewLemmas.{Halves, halves_down, halves_end, halves_from, halves_up, on_way, stands_itself}
use Rattle.up_list.specs.Founds.{entry_found}
use Rattle.up_list.specs.Seen.{has_name}
use Rattle.up_list.specs.declared.found.Found.{Found}
use Rattle.up_entry.specs.declared.entries.Entry.{Entry}
use Rattle.up_names.specs.PathNames.{PathName}
use Rattle.up_names.specs.UserNames.{base_of}
use Rattle.up_rights.specs.RightSets.{Rights}
use Rattle.up_rights.specs.declared.Right.{Right}
use Rattle.up_rights.specs.declared.Right.TheVariants as right
use Rattle.up_policy.specs.Governors.{governor}
use Rattle.up_policy.specs.Trees.{owns_snapshots}
use Rattle.up_policy.specs.Verdicts.{is_control, only_looks, right_test, rights_held, text_decides, without_text}
use Rattle.up_log_tree.specs.Rights.{facts_of, group_paths}
use Rattle.up_list.specs.Looks.{Look, rights}
use Rattle.up_list.specs.Entries.{entry_at, entry_of, entry_on_way}
use Rattle.up_list.specs.Governing.{governing_file}
use Rattle.up_entry.specs.declared.records.Rec.{Rec}
use Rattle.up_log_tree.specs.Fits.{snapshot_user}
use Rattle.up_log_tree.specs.Rights.{access_path, governing_prefix}
use Rattle.up_answers.specs.SnapshotTrees.{snapshots_to}
use Rattle.up_snap.specs.Looked.{IsSnapUser, first_named, held_by, look_at}
use Rattle.std.specs.Option.{option_and_then, option_map}

module _ (look : Look) (path : PathName) (owns : owns_snapshots look.owner ≡ true) where
  abbrev has : Right → Bool
  has r = right_test (facts_of look.owner look.tree) (group_paths look.tree) look.loaded look.user r path

  decided : (r : Right) → has r ≡ (only_looks r && bytes_eq look.user (base_of look.owner))
  unfolding right_test without_text facts_of
  decided r =
      ap (λ s. elim (if s then Some (only_looks r && bytes_eq look.user (base_of look.owner))
      else if bytes_eq look.user look.owner && only_looks r then Some true
      else if is_control path && not (only_looks r) then Some (bytes_eq look.user look.owner)
      else None) as (λ _. Bool) [
        | Some answer ↦ answer
        | None ↦ text_decides (facts_of look.owner look.tree) (group_paths look.tree) look.loaded look.user r (governor (facts_of look.owner look.tree) path)
      ]) owns

  pub held_there : (b : Bool) → b ≡ bytes_eq look.user (base_of look.owner) → ◌≡◌ {A = Rights} (record { read = b; write = false; list = b; create = false; delete = false }) (rights look path)
  unfolding rights rights_held
  held_there b is =
      ap (λ x. record { read = x; write = false; list = b; create = false; delete = false }) (is ∙ sym (decided right.Read))
      ∙ ap (λ x. record { read = has right.Read; write = x; list = b; create = false; delete = false }) (sym (decided right.Write))
      ∙ ap (λ x. record { read = has right.Read; write = has right.Write; list = x; create = false; delete = false }) (is ∙ sym (decided right.List))
      ∙ ap (λ x. record { read = has right.Read; write = has right.Write; list = has right.List; create = x; delete = false }) (sym (decided right.Create))
      ∙ ap (λ x. record { read = has right.Read; write = has right.Write; list = has right.List; create = has right.Create; delete = x }) (sym (decided right.Delete))

-- ---- the snapshot tree of a log

module _ (owner snap_user : List ℕ) (records : List Rec) (user : List ℕ) (shows : IsSnapUser owner snap_user) where
  owns_it : owns_snapshots (snapshot_user owner) ≡ true
  owns_it = ap owns_snapshots (sym shows.named) ∙ shows.owns

  base_is : base_of (snapshot_user owner) ≡ owner
  base_is = ap base_of (sym shows.named) ∙ shows.base

  pub rights_at : (path : PathName) → held_by user owner ≡ rights (look_at owner records user) path
  rights_at path = held_there (look_at owner records user) path owns_it (bytes_eq user owner) (ap (bytes_eq user) (sym base_is))

  pub nothing_governs : (path : PathName) → None ≡ governing_file (look_at owner records user) path
  unfolding governing_file
  nothing_governs path = sym (ap (λ b. if b then None else option_and_then (λ dir. entry_at (snapshots_to owner records (length records)) (access_path dir)) (governing_prefix (snapshots_to owner records (length records)) path)) owns_it)

-- ---- the longest prefix that stands

-- Where the longest prefix of a path that stands is looked for: nothing stands at the prefix with `high` elements and at longer ones;
-- something stands at that with `low` elements less one, where there is one.
pub record IsWay (tree : Tree) (path : PathName) (low high : ℕ) : Type 0 where
  pub found : Option Node
  pub halves : Halves tree path (cut high path) low found
  pub within : high ≤ length path.elements

no_node : (o : Option Node) → option_map entry_of o ≡ None → o ≡ None
no_node None h = refl
no_node (Some node) h = absurd (some_none (entry_of node) h)

some_node : (o : Option Node) → true ≡ is_some (option_map entry_of o) → (node : Node) × (o ≡ Some node)
some_node None h = absurd (false≢true (sym h))
some_node (Some node) h = (node, refl)

none_node : (o : Option Node) → false ≡ is_some (option_map entry_of o) → o ≡ None
none_node None h = refl
none_node (Some node) h = absurd (false≢true h)

module _ (owner : List ℕ) (tree : Tree) (rooted : IsRooted owner tree) (path : PathName) where
  pub way_from : (high : ℕ) → high ≡ length path.elements → entry_at tree path ≡ None → IsWay tree path 0 high
  way_from high size none = record {
    found = None;
    halves = halves_from owner tree rooted path (cut high path) (ap (λ n. cut n path) size ∙ cut_whole path) (no_node (node_at tree path) none);
    within = omega (arith, size);
  }

  pub way_up : (low high middle : ℕ) → IsWay tree path low high → middle < high → true ≡ is_some (entry_at tree (cut middle path)) → IsWay tree path (middle + 1) high
  way_up low high middle way less stands =
      let node = some_node (node_at tree (cut middle path)) stands in
      let size = length_cut high path way.within in
      record {
        found = Some node.0;
        halves = halves_up owner tree rooted path (cut high path) (cut middle path) low middle way.found node.0 way.halves (omega (arith, size, less)) (sym (cut_cut middle high path (omega (arith, less)))) node.1;
        within = way.within;
      }

  pub way_down : (low high middle : ℕ) → IsWay tree path low high → low ≤ middle → middle < high → false ≡ is_some (entry_at tree (cut middle path)) → IsWay tree path low middle
  way_down low high middle way more less stands =
      let size = length_cut high path way.within in
      record {
        found = way.found;
        halves = halves_down owner tree rooted path (cut high path) (cut middle path) low middle way.found way.halves more (omega (arith, size, less)) (sym (cut_cut middle high path (omega (arith, less)))) (none_node (node_at tree (cut middle path)) stands);
        within = let w = way.within in omega (arith, w, less);
      }

  module _ (low high : ℕ) (way : IsWay tree path low high) (end : high ≤ low) where
    ends : option_map entry_of way.found ≡ entry_on_way tree path
    ends =
        let size = length_cut high path way.within in
        ap (option_map entry_of) (sym (halves_end owner tree rooted path (cut high path) low way.found way.halves (omega (arith, size, end)))) ∙ on_way tree path

    pub way_none : low ≡ 0 → None ≡ entry_on_way tree path
    way_none zero_is = sym (ap (option_map entry_of) (go low zero_is way.found way.halves)) ∙ ends
      where
        go : (n : ℕ) → n ≡ 0 → (o : Option Node) → Halves tree path (cut high path) n o → o ≡ None
        go zero e o h = h.was
        go (suc n) e o h = absurd (omega (arith, e))

    pub way_some : 0 < low → entry_at tree (cut (low - 1) path) ≡ entry_on_way tree path
    way_some more = sym (ap (option_map entry_of) (go low more way.found way.halves)) ∙ ends
      where
        go : (n : ℕ) → 0 < n → (o : Option Node) → Halves tree path (cut high path) n o → o ≡ node_at tree (cut (n - 1) path)
        go zero e o h = absurd (omega (arith, e))
        go (suc n) e o h = h.was ∙ ap (λ k. node_at tree (cut k path)) (let s : n ≡ suc n - 1 = omega arith in s)

-- a shorter one is within
pub way_within : (tree : Tree) (path : PathName) (low high : ℕ) → IsWay tree path low high → low ≤ high
way_within tree path low high way = let size = length_cut high path way.within in let order = way.halves.order in omega (arith, size, order)

-- ---- what is found, as what stands there

pub has_some : (tree : Tree) (path : PathName) (found : Option Found) → option_map entry_found found ≡ entry_at tree path → is_some found ≡ is_some (node_at tree path)
has_some tree path found h = sym (same found) ∙ ap is_some h ∙ there (node_at tree path)
  where
    same : (o : Option Found) → is_some (option_map entry_found o) ≡ is_some o
    same None = refl
    same (Some f) = refl

    there : (o : Option Node) → is_some (option_map entry_of o) ≡ is_some o
    there None = refl
    there (Some node) = refl

-- what stands at the path itself stands on the way
pub way_itself : (tree : Tree) (path : PathName) (entry : Entry) → Some entry ≡ entry_at tree path → Some entry ≡ entry_on_way tree path
way_itself tree path entry h = go (node_at tree path) refl h
  where
    go : (o : Option Node) → node_at tree path ≡ o → Some entry ≡ option_map entry_of o → Some entry ≡ entry_on_way tree path
    go None e k = absurd (some_none entry k)
    go (Some node) e k = k ∙ stands_itself tree path node e

-- the first of some items with a name is the first of their entries with it
pub first_is_named : (at : ℕ) (name : List ℕ) (found : List Found) → first_named at name found ≡ find (has_name at name) (map entry_found found)
first_is_named at name [] = refl
first_is_named at name (f ∷ fs) = go (has_name at name (entry_found f)) (first_is_named at name fs)
  where
    go : (b : Bool) → first_named at name fs ≡ find (has_name at name) (map entry_found fs) →
        option_map entry_found (if b then Some f else find (λ one. has_name at name (entry_found one)) fs) ≡ (if b then Some (entry_found f) else find (has_name at name) (map entry_found fs))
    go true rest = refl
    go false rest = rest
