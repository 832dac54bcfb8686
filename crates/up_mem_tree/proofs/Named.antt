-- The paths that records change, and the positions of their changes.
use Rattle.std.proofs.Common.{◌≡◌, ℕ, suc, ◌+◌, Bool, true, false, cond, ◌&&◌, ◌||◌, List, [], ◌∷◌, ◌++◌, fold, length, take, drop, refl, sym, ap, subst, ◌∙◌, arith, Option, Some, None, is_some, IsSome}
use Rattle.std.specs.Prelude.{MatchOption}
use Rattle.std.specs.List.{last_or}
use Rattle.std.proofs.lemmas.Bool.{false≢true}
use Rattle.std.proofs.lemmas.Grind.{fold-append}
use Rattle.std.proofs.lemmas.List.{take-append-drop}
use Rattle.up_names.specs.PathNames.{PathName, parent_of}
use Rattle.up_names.specs.PathOrder.{path_eq}
use Rattle.up_entry.specs.declared.records.Rec.{Rec}
use Rattle.up_entry.specs.declared.records.Rec.TheVariants.{Put, Delete, Snap}
use Rattle.up_log_tree.specs.Changes.{changes_some, last_change, positions_of}
use Rattle.up_log_tree.specs.Fits.{AreFitting, Fits, HasDirectory, HasPlace}
use Rattle.up_log_tree.specs.Orders.{are_rising, has_path as has}
use Rattle.up_mem_tree.specs.Slots.{named_paths, named_with}
use Rattle.up_log_tree.specs.Trees.{after_record, children, is_parent, node_at, tree_of}
use Rattle.up_log_tree.specs.declared.node.Node.{Node}
use Rattle.up_log_tree.proofs.Fronts.{whole_front}
use Rattle.up_log_tree.proofs.Paths.{is_parent_of, path_eq_itself, path_same, some_none}
use Rattle.up_log_tree.proofs.Rising.{has-with, rising-with}
use Rattle.up_log_tree.proofs.Rooted.{IsRooted, cond_none, rooted, rooted_at}
use Rattle.up_log_tree.proofs.Trees.{has_child, node_at-delete, node_at-empty, node_at-put, node_at-snap, tree_of-push}

-- ---- one record more

pub named_paths-push : (records : List Rec) (rec : Rec) → named_paths (records ++ rec ∷ []) ≡ named_with (named_paths records) rec
unfolding named_paths
named_paths-push records rec = fold-append named_with [] records (rec ∷ [])

pub named_paths-none : named_paths [] ≡ []
unfolding named_paths
named_paths-none = refl

rising_with_rec : (paths : List PathName) (rec : Rec) → are_rising paths ≡ true → are_rising (named_with paths rec) ≡ true
rising_with_rec paths (Put entry text) h = rising-with entry.name paths h
rising_with_rec paths (Delete path) h = rising-with path paths h
rising_with_rec paths (Snap time) h = h

pub rising_named : (records : List Rec) → are_rising (named_paths records) ≡ true
unfolding named_paths
rising_named records = go [] records refl
  where
    go : (paths : List PathName) (records : List Rec) → are_rising paths ≡ true → are_rising (fold named_with paths records) ≡ true
    go paths [] h = h
    go paths (rec ∷ records) h = go (named_with paths rec) records (rising_with_rec paths rec h)

or_right : (b : Bool) → (b || true) ≡ true
or_right true = refl
or_right false = refl

still_named : (paths : List PathName) (rec : Rec) (q : PathName) → has paths q ≡ true → has (named_with paths rec) q ≡ true
still_named paths (Put entry text) q h = has-with entry.name paths q ∙ ap (λ b. path_eq q entry.name || b) h ∙ or_right (path_eq q entry.name)
still_named paths (Delete path) q h = has-with path paths q ∙ ap (λ b. path_eq q path || b) h ∙ or_right (path_eq q path)
still_named paths (Snap time) q h = h

-- what the first records name, all name
pub named_later : (records : List Rec) (n : ℕ) (q : PathName) → has (named_paths (take n records)) q ≡ true → has (named_paths records) q ≡ true
unfolding named_paths
named_later records n q h =
    subst (λ rs. has (fold named_with [] rs) q ≡ true) (take-append-drop n records)
    (subst (λ paths. has paths q ≡ true) (sym (fold-append named_with [] (take n records) (drop n records))) (go (fold named_with [] (take n records)) (drop n records) h))
  where
    go : (paths : List PathName) (more : List Rec) → has paths q ≡ true → has (fold named_with paths more) q ≡ true
    go paths [] h = h
    go paths (rec ∷ more) h = go (named_with paths rec) more (still_named paths rec q h)

-- ---- positions

pub positions-push : (test : Rec → Bool) (n : ℕ) (records : List Rec) (rec : Rec)
    → positions_of test n (records ++ rec ∷ []) ≡ cond (test rec) (positions_of test n records ++ (n + length records + 1) ∷ []) (positions_of test n records)
positions-push test n [] rec = ap (λ p. cond (test rec) (p ∷ []) []) (let e : suc n ≡ n + 0 + 1 = omega arith in e)
positions-push test n (first ∷ records) rec = go (test first) (test rec) (positions-push test (suc n) records rec)
  where
    place : suc n + length records + 1 ≡ n + suc (length records) + 1
    place = omega arith

    go : (a b : Bool) → positions_of test (suc n) (records ++ rec ∷ []) ≡ cond b (positions_of test (suc n) records ++ (suc n + length records + 1) ∷ []) (positions_of test (suc n) records)
        → cond a (suc n ∷ positions_of test (suc n) (records ++ rec ∷ [])) (positions_of test (suc n) (records ++ rec ∷ []))
        ≡ cond b (cond a (suc n ∷ positions_of test (suc n) records) (positions_of test (suc n) records) ++ (n + suc (length records) + 1) ∷ []) (cond a (suc n ∷ positions_of test (suc n) records) (positions_of test (suc n) records))
    go true true rest = ap (λ l. suc n ∷ l) rest ∙ ap (λ p. suc n ∷ (positions_of test (suc n) records ++ p ∷ [])) place
    go true false rest = ap (λ l. suc n ∷ l) rest
    go false true rest = rest ∙ ap (λ p. positions_of test (suc n) records ++ p ∷ []) place
    go false false rest = rest

pub last_or-push : (o : Option ℕ) (ns : List ℕ) (n : ℕ) → last_or o (ns ++ n ∷ []) ≡ Some n
last_or-push o [] n = refl
last_or-push o (m ∷ ns) n = last_or-push (Some m) ns n

pub last_change-push : (records : List Rec) (rec : Rec) (q : PathName) → last_change (records ++ rec ∷ []) q ≡ cond (changes_some (path_eq q) rec) (Some (length records + 1)) (last_change records q)
unfolding last_change
last_change-push records rec q = ap (last_or None) (positions-push (changes_some (path_eq q)) 0 records rec) ∙ go (changes_some (path_eq q) rec)
  where
    go : (b : Bool) → last_or None (cond b (positions_of (changes_some (path_eq q)) 0 records ++ (0 + length records + 1) ∷ []) (positions_of (changes_some (path_eq q)) 0 records))
        ≡ cond b (Some (length records + 1)) (last_or None (positions_of (changes_some (path_eq q)) 0 records))
    go true = last_or-push None (positions_of (changes_some (path_eq q)) 0 records) (0 + length records + 1) ∙ ap Some (let e : 0 + length records + 1 ≡ length records + 1 = omega arith in e)
    go false = refl

pub last_change-none : (q : PathName) → last_change [] q ≡ None
unfolding last_change
last_change-none q = refl

-- the paths that have a last change are the named ones
pub has_named : (records : List Rec) (q : PathName) → has (named_paths records) q ≡ is_some (last_change records q)
has_named records q = whole_front (λ front. has (named_paths front) q ≡ is_some (last_change front q)) records
    (ap (λ paths. has paths q) named_paths-none ∙ sym (ap is_some (last_change-none q)))
    (λ n rec is so_far. ap (λ paths. has paths q) (named_paths-push (take n records) rec) ∙ more (take n records) rec so_far ∙ sym (ap is_some (last_change-push (take n records) rec q)))
  where
    join : (b : Bool) (n : ℕ) (o : Option ℕ) → (b || is_some o) ≡ is_some (cond b (Some n) o)
    join true n o = refl
    join false n o = refl

    more : (front : List Rec) (rec : Rec) → has (named_paths front) q ≡ is_some (last_change front q) → has (named_with (named_paths front) rec) q ≡ is_some (cond (changes_some (path_eq q) rec) (Some (length front + 1)) (last_change front q))
    more front (Put entry text) so_far = has-with entry.name (named_paths front) q ∙ ap (λ b. path_eq q entry.name || b) so_far ∙ join (path_eq q entry.name) (length front + 1) (last_change front q)
    more front (Delete path) so_far = has-with path (named_paths front) q ∙ ap (λ b. path_eq q path || b) so_far ∙ join (path_eq q path) (length front + 1) (last_change front q)
    more front (Snap time) so_far = so_far

-- ---- what stands was named

pub stands_named : (records : List Rec) (q : PathName) (node : Node) → node_at (tree_of records) q ≡ Some node → has (named_paths records) q ≡ true
stands_named records q = whole_front (λ front. (node : Node) → node_at (tree_of front) q ≡ Some node → has (named_paths front) q ≡ true) records
    (λ node there. absurd (some_none node (sym there ∙ node_at-empty q)))
    (λ n rec is so_far node there. ap (λ paths. has paths q) (named_paths-push (take n records) rec) ∙ more (take n records) rec so_far node (sym (ap (λ t. node_at t q) (tree_of-push (take n records) rec)) ∙ there))
  where
    more : (front : List Rec) (rec : Rec) → ((node : Node) → node_at (tree_of front) q ≡ Some node → has (named_paths front) q ≡ true) → (node : Node) → node_at (after_record (tree_of front) rec) q ≡ Some node → has (named_with (named_paths front) rec) q ≡ true
    more front (Put entry text) so_far node there = has-with entry.name (named_paths front) q ∙ by_name (path_eq q entry.name) refl
      where
        by_name : (b : Bool) → path_eq q entry.name ≡ b → (b || has (named_paths front) q) ≡ true
        by_name true is = refl
        by_name false is = so_far node (sym (node_at-put (tree_of front) entry text q ∙ ap (λ b. cond b (Some (record { entry = entry; text = text })) (node_at (tree_of front) q)) is) ∙ there)
    more front (Delete gone) so_far node there = still_named (named_paths front) (Delete gone) q (so_far node (cond_none (path_eq gone q) node (node_at (tree_of front) q) (sym (node_at-delete (tree_of front) gone q) ∙ there)).1)
    more front (Snap time) so_far node there = so_far node (sym (node_at-snap (tree_of front) time q) ∙ there)

pub unnamed_none : (records : List Rec) (q : PathName) → has (named_paths records) q ≡ false → node_at (tree_of records) q ≡ None
unnamed_none records q none = go (node_at (tree_of records) q) refl
  where
    go : (o : Option Node) → node_at (tree_of records) q ≡ o → node_at (tree_of records) q ≡ None
    go None is = is
    go (Some node) is = absurd (false≢true (sym none ∙ stands_named records q node is))

-- ---- the directory of a named path is named

pub place_named : (owner : List ℕ) (records : List Rec) (path : PathName) → HasPlace owner (tree_of records) path → MatchOption (parent_of path) (path.owner ≡ owner) (λ dir. has (named_paths records) dir ≡ true)
place_named owner records path h = go (parent_of path) h
  where
    go : (o : Option PathName) → MatchOption o (path.owner ≡ owner) (HasDirectory (tree_of records)) → MatchOption o (path.owner ≡ owner) (λ dir. has (named_paths records) dir ≡ true)
    go None h = h
    go (Some dir) h = stands_named records dir h.0 h.1

closed_later : (owner : List ℕ) (paths : List PathName) (rec : Rec) (path : PathName) → MatchOption (parent_of path) (path.owner ≡ owner) (λ dir. has paths dir ≡ true) → MatchOption (parent_of path) (path.owner ≡ owner) (λ dir. has (named_with paths rec) dir ≡ true)
closed_later owner paths rec path h = go (parent_of path) h
  where
    go : (o : Option PathName) → MatchOption o (path.owner ≡ owner) (λ dir. has paths dir ≡ true) → MatchOption o (path.owner ≡ owner) (λ dir. has (named_with paths rec) dir ≡ true)
    go None h = h
    go (Some dir) h = still_named paths rec dir h

module _ (owner : List ℕ) (records : List Rec) (fitting : AreFitting owner records) where
  pub closed_named : (path : PathName) → has (named_paths records) path ≡ true → MatchOption (parent_of path) (path.owner ≡ owner) (λ dir. has (named_paths records) dir ≡ true)
  closed_named path = whole_front (λ front. has (named_paths front) path ≡ true → MatchOption (parent_of path) (path.owner ≡ owner) (λ dir. has (named_paths front) dir ≡ true)) records
      (λ named. absurd (false≢true (sym (ap (λ paths. has paths path) named_paths-none) ∙ named)))
      (λ n rec is so_far named. subst (λ paths. MatchOption (parent_of path) (path.owner ≡ owner) (λ dir. has paths dir ≡ true)) (sym (named_paths-push (take n records) rec))
      (closed_later owner (named_paths (take n records)) rec path (more n (take n records) rec (rooted_at owner records fitting n) (fitting.each n rec is) refl so_far (sym (ap (λ paths. has paths path) (named_paths-push (take n records) rec)) ∙ named))))
    where
      more : (n : ℕ) (front : List Rec) (rec : Rec) → IsRooted owner (tree_of front) → Fits owner front rec → front ≡ front
          → (has (named_paths front) path ≡ true → MatchOption (parent_of path) (path.owner ≡ owner) (λ dir. has (named_paths front) dir ≡ true))
          → has (named_with (named_paths front) rec) path ≡ true → MatchOption (parent_of path) (path.owner ≡ owner) (λ dir. has (named_paths front) dir ≡ true)
      more n front (Put entry text) kept fits same so_far named = by_name (path_eq path entry.name) refl (sym (has-with entry.name (named_paths front) path) ∙ named)
        where
          by_name : (b : Bool) → path_eq path entry.name ≡ b → (b || has (named_paths front) path) ≡ true → MatchOption (parent_of path) (path.owner ≡ owner) (λ dir. has (named_paths front) dir ≡ true)
          by_name true is h = subst (λ p. MatchOption (parent_of p) (p.owner ≡ owner) (λ dir. has (named_paths front) dir ≡ true)) (sym (path_same path entry.name is)) (place_named owner front entry.name fits.place)
          by_name false is h = so_far h
      more n front (Delete gone) kept fits same so_far named = by_name (path_eq path gone) refl (sym (has-with gone (named_paths front) path) ∙ named)
        where
          there : (o : Option Node) → node_at (tree_of front) gone ≡ o → IsSome o → MatchOption (parent_of gone) (gone.owner ≡ owner) (λ dir. has (named_paths front) dir ≡ true)
          there None is some = absurd (false≢true some)
          there (Some node) is some = place_named owner front gone (kept.placed gone node is)

          by_name : (b : Bool) → path_eq path gone ≡ b → (b || has (named_paths front) path) ≡ true → MatchOption (parent_of path) (path.owner ≡ owner) (λ dir. has (named_paths front) dir ≡ true)
          by_name true is h = subst (λ p. MatchOption (parent_of p) (p.owner ≡ owner) (λ dir. has (named_paths front) dir ≡ true)) (sym (path_same path gone is)) (there (node_at (tree_of front) gone) refl fits.there)
          by_name false is h = so_far h
      more n front (Snap time) kept fits same so_far named = so_far named

  -- a path that no record names has no child
  pub childless : (dir : PathName) → has (named_paths records) dir ≡ false → children (tree_of records) dir ≡ []
  childless dir none = empty (children (tree_of records) dir) (λ q. has_child (tree_of records) dir q ∙ not_there q)
    where
      empty : (paths : List PathName) → ((q : PathName) → has paths q ≡ false) → paths ≡ []
      empty [] h = refl
      empty (path ∷ paths) h = absurd (false≢true (sym (h path) ∙ ap (λ b. b || has paths path) (path_eq_itself path)))

      not_there : (q : PathName) → (is_parent dir q && is_some (node_at (tree_of records) q)) ≡ false
      not_there q = go (is_parent dir q) refl (node_at (tree_of records) q) refl
        where
          go : (b : Bool) → is_parent dir q ≡ b → (o : Option Node) → node_at (tree_of records) q ≡ o → (b && is_some o) ≡ false
          go false is o there = refl
          go true is None there = refl
          go true is (Some node) there =
              let place = subst (λ p. MatchOption p (q.owner ≡ owner) (HasDirectory (tree_of records))) (is_parent_of dir q is) ((rooted owner records fitting).placed q node there) in
              absurd (false≢true (sym none ∙ stands_named records dir place.0 place.1))
