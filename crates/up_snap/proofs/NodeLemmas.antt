-- What stands at a path of a snapshot tree after one snapshot more.
use Rattle.std.proofs.Common.{◌≡◌, ℕ, Bool, true, false, cond, ◌&&◌, ◌||◌, List, [], ◌∷◌, fold, map, filter, T, refl, sym, ap, subst, ◌∙◌, Option, Some, None}
use Rattle.std.specs.Prelude.{if◌then◌else◌}
use Rattle.std.specs.FinMap.Entries.{below_all, find, find-put, is_sorted}
use Rattle.std.specs.List.{AllByRecursion}
use Rattle.std.specs.Map.{values_of}
use Rattle.std.specs.Option.{option_map, option_or}
use Rattle.std.specs.Ordering.{eq_by_cmp, is_eq, is_lt}
use Rattle.std.specs.declared.cmp.Ordering.{Ordering}
use Rattle.std.specs.declared.cmp.Ordering.TheVariants.{Less, Equal, Greater}
use Rattle.up_names.specs.PathNames.{PathName}
use Rattle.up_names.specs.PathOrder.{path_cmp, path_eq}
use Rattle.up_names.specs.PathOrderLaws.{path_cmp_eq, path_cmp_total}
use Rattle.up_log_tree.specs.Fits.{snapshot_user}
use Rattle.up_log_tree.specs.Orders.{has_path as has}
use Rattle.up_log_tree.specs.Trees.{Tree, node_at}
use Rattle.up_log_tree.specs.declared.node.Node.{Node}
use Rattle.up_log_tree.proofs.Paths.{path_apart, path_eq_itself, path_other, path_same}
use Rattle.up_list.specs.Rooted.{IsRooted}
use Rattle.up_list.proofs.FrontLemmas.{owner_of}
use Rattle.up_list.proofs.SortedLemmas.{found_all}
use Rattle.up_answers.specs.SnapshotTrees.{has_room, made_up, moved, moved_node, moved_nodes, with_new, with_node}
use Rattle.up_snap.specs.Shown.{is_short, old_path, renamed, shown_root}
use Rattle.up_snap.proofs.UnderLemmas.{IsBelow, below_is, moved_back, moved_below, old_moved}
use Rattle.up_names.specs.PathNames.{is_under}
use Rattle.std.proofs.lemmas.Bool.{false≢true}

tied : (p q : PathName) → eq_by_cmp path_cmp p q ≡ path_eq p q
tied p q = sym (path_cmp_eq p q)

pub or_none : {X : Type 0} (o : Option X) → option_or o None ≡ o
or_none None = refl
or_none (Some x) = refl

-- ---- one node more

node_at-with : (tree : Tree) (node : Node) (q : PathName) → node_at (with_node tree node) q ≡ cond (path_eq q node.entry.name) (Some node) (node_at tree q)
unfolding node_at
node_at-with tree node q =
    find-put path_cmp path_cmp_total q node.entry.name node tree
    ∙ ap (λ b. cond b (Some node) (find path_cmp q tree)) (tied q node.entry.name)

node_at-new : (tree : Tree) (node : Node) (q : PathName) → node_at (with_new tree node) q ≡ option_or (node_at tree q) (if path_eq q node.entry.name then Some node else None)
node_at-new tree node q = go (node_at tree node.entry.name) refl (path_eq q node.entry.name) refl
  where
    here : (b : Bool) → path_eq q node.entry.name ≡ b → node_at tree node.entry.name ≡ None → cond b (Some node) (node_at tree q) ≡ option_or (node_at tree q) (if b then Some node else None)
    here true is none = sym (ap (λ o. option_or o (Some node)) (ap (node_at tree) (path_same q node.entry.name is) ∙ none))
    here false is none = sym (or_none (node_at tree q))

    go : (o : Option Node) → node_at tree node.entry.name ≡ o → (b : Bool) → path_eq q node.entry.name ≡ b →
        node_at (elim o as (λ _. Tree) [ None ↦ with_node tree node | Some there ↦ tree ]) q ≡ option_or (node_at tree q) (if b then Some node else None)
    go None none b is = node_at-with tree node q ∙ ap (λ c. cond c (Some node) (node_at tree q)) is ∙ here b is none
    go (Some there) some true is =
        let e : node_at tree q ≡ Some there = ap (node_at tree) (path_same q node.entry.name is) ∙ some in
        e ∙ sym (ap (λ o. option_or o (Some node)) e)
    go (Some there) some false is = sym (or_none (node_at tree q))

-- ---- directories that are made up

module _ (writer : List ℕ) (time position : ℕ) where
  pub fold_new : (tree : Tree) (paths : List PathName) (q : PathName) →
      node_at (fold with_new tree (map (made_up writer time position) paths)) q ≡ option_or (node_at tree q) (if has paths q then Some (made_up writer time position q) else None)
  fold_new tree [] q = sym (or_none (node_at tree q))
  fold_new tree (p ∷ ps) q =
      fold_new (with_new tree (made_up writer time position p)) ps q
      ∙ ap (λ o. option_or o (if has ps q then Some (made_up writer time position q) else None)) (node_at-new tree (made_up writer time position p) q)
      ∙ go (path_eq q p) refl (has ps q) (node_at tree q)
    where
      go : (b : Bool) → path_eq q p ≡ b → (c : Bool) (o : Option Node) →
          option_or (option_or o (if b then Some (made_up writer time position p) else None)) (if c then Some (made_up writer time position q) else None) ≡ option_or o (if b || c then Some (made_up writer time position q) else None)
      go true is c None = ap (λ (r : PathName). Some (made_up writer time position r)) (sym (path_same q p is))
      go true is c (Some n) = refl
      go false is c None = refl
      go false is c (Some n) = refl

-- ---- many nodes more

-- the last of these nodes that has this name
pub named_in : PathName → List Node → Option Node
named_in q [] = None
named_in q (n ∷ ns) = option_or (named_in q ns) (if path_eq q n.entry.name then Some n else None)

pub fold_nodes : (tree : Tree) (nodes : List Node) (q : PathName) → node_at (fold with_node tree nodes) q ≡ option_or (named_in q nodes) (node_at tree q)
unfolding named_in
fold_nodes tree [] q = refl
fold_nodes tree (n ∷ ns) q =
    fold_nodes (with_node tree n) ns q ∙ ap (option_or (named_in q ns)) (node_at-with tree n q) ∙ go (path_eq q n.entry.name) (named_in q ns)
  where
    go : (b : Bool) (o : Option Node) → option_or o (cond b (Some n) (node_at tree q)) ≡ option_or (option_or o (if b then Some n else None)) (node_at tree q)
    go true None = refl
    go true (Some m) = refl
    go false None = refl
    go false (Some m) = refl

-- ---- the items of a tree, moved

T_parts : (a b : Bool) → T (a && b) → T a × T b
T_parts true b h = (tt, h)
T_parts false b h = absurd h

less_not_tied : (o : Ordering) → T (is_lt o) → is_eq o ≡ false
less_not_tied Less h = refl
less_not_tied Equal h = absurd h
less_not_tied Greater h = absurd h

find_below : (q : PathName) (es : Tree) → T (below_all path_cmp q es) → find path_cmp q es ≡ None
find_below q [] h = refl
find_below q (e ∷ es) h = ap (λ b. cond b (Some e.1) (find path_cmp q es)) (less_not_tied (path_cmp q e.0) (T_parts _ _ h).0) ∙ find_below q es (T_parts _ _ h).1

-- an item stands at its name, which is a path of the owner
abbrev IsOwnItem : List ℕ → PathName × Node → Type 0
IsOwnItem owner item = (item.1.entry.name ≡ item.0) × (item.0.owner ≡ owner)

own_items : (owner : List ℕ) (tree : Tree) → IsRooted owner tree → AllByRecursion (IsOwnItem owner) tree
unfolding node_at
own_items owner tree rooted = go tree (found_all tree rooted.ordered)
  where
    go : (es : Tree) → AllByRecursion (λ e. find path_cmp e.0 tree ≡ Some e.1) es → AllByRecursion (IsOwnItem owner) es
    go [] h = tt
    go (e ∷ es) h = ((rooted.named e.0 e.1 h.0, owner_of owner tree rooted e.0 e.1 h.0), go es h.1)

module _ (owner : List ℕ) (time : ℕ) (q : PathName) where
  module _ (below : IsBelow (snapshot_user owner) time q) where
    moved_is : (k : PathName) → k.owner ≡ owner → path_eq q (moved time k) ≡ path_eq (old_path owner q) k
    moved_is k owned = go (path_eq (old_path owner q) k) refl
      where
        go : (b : Bool) → path_eq (old_path owner q) k ≡ b → path_eq q (moved time k) ≡ b
        go true is =
            subst (λ p. path_eq q p ≡ true) (sym (moved_back owner time q below) ∙ ap (moved time) (path_same (old_path owner q) k is)) (path_eq_itself q)
        go false is = path_apart q (moved time k) (λ same. path_other (old_path owner q) k is (ap (old_path owner) same ∙ old_moved owner time k owned))

    shown_items : (items : Tree) → T (is_sorted path_cmp items) → AllByRecursion (IsOwnItem owner) items →
        named_in q (filter has_room (map (moved_node time) (values_of items))) ≡ (if is_short q then option_map (renamed q) (find path_cmp (old_path owner q) items) else None)
    unfolding named_in
    shown_items [] sorted own = go (is_short q)
      where
        go : (b : Bool) → ◌≡◌ {A = Option Node} None (if b then None else None)
        go true = refl
        go false = refl
    shown_items (e ∷ es) sorted own = go (path_eq (old_path owner q) e.0) refl (has_room (moved_node time e.1)) refl (shown_items es (T_parts _ _ sorted).1 own.1)
      where
        name_is : (moved_node time e.1).entry.name ≡ moved time e.0
        name_is = ap (moved time) own.0.0

        found : (b : Bool) → path_eq (old_path owner q) e.0 ≡ b → find path_cmp (old_path owner q) (e ∷ es) ≡ cond b (Some e.1) (find path_cmp (old_path owner q) es)
        found b is = ap (λ c. cond c (Some e.1) (find path_cmp (old_path owner q) es)) (tied (old_path owner q) e.0 ∙ is)

        named_as : (b : Bool) → path_eq (old_path owner q) e.0 ≡ b → path_eq q (moved_node time e.1).entry.name ≡ b
        named_as b is = ap (path_eq q) name_is ∙ moved_is e.0 own.0.1 ∙ is

        no_other : path_eq (old_path owner q) e.0 ≡ true → find path_cmp (old_path owner q) es ≡ None
        no_other is = find_below (old_path owner q) es (subst (λ p. T (below_all path_cmp p es)) (sym (path_same (old_path owner q) e.0 is)) (T_parts _ _ sorted).0)

        its_name : path_eq (old_path owner q) e.0 ≡ true → (moved_node time e.1).entry.name ≡ q
        its_name is = sym (path_same q (moved_node time e.1).entry.name (named_as true is))

        by_short : (c : Bool) → is_short q ≡ c → path_eq (old_path owner q) e.0 ≡ true → has_room (moved_node time e.1) ≡ c → named_in q (filter has_room (map (moved_node time) (values_of es))) ≡ (if is_short q then option_map (renamed q) (find path_cmp (old_path owner q) es) else None) → named_in q (cond c (moved_node time e.1 ∷ filter has_room (map (moved_node time) (values_of es))) (filter has_room (map (moved_node time) (values_of es)))) ≡ (if is_short q then option_map (renamed q) (find path_cmp (old_path owner q) (e ∷ es)) else None)
        by_short true short is room rest =
            ap (λ o. option_or o (if path_eq q (moved_node time e.1).entry.name then Some (moved_node time e.1) else None))
            (rest ∙ ap (λ c. if c then option_map (renamed q) (find path_cmp (old_path owner q) es) else None) short ∙ ap (option_map (renamed q)) (no_other is))
            ∙ ap (λ b. if b then Some (moved_node time e.1) else None) (named_as true is)
            ∙ ap (λ p. Some (renamed p e.1)) (its_name is)
            ∙ sym (ap (λ c. if c then option_map (renamed q) (find path_cmp (old_path owner q) (e ∷ es)) else None) short ∙ ap (option_map (renamed q)) (found true is))
        by_short false short is room rest =
            rest ∙ ap (λ c. if c then option_map (renamed q) (find path_cmp (old_path owner q) es) else None) short
            ∙ sym (ap (λ c. if c then option_map (renamed q) (find path_cmp (old_path owner q) (e ∷ es)) else None) short)

        go : (b : Bool) → path_eq (old_path owner q) e.0 ≡ b → (c : Bool) → has_room (moved_node time e.1) ≡ c → named_in q (filter has_room (map (moved_node time) (values_of es))) ≡ (if is_short q then option_map (renamed q) (find path_cmp (old_path owner q) es) else None) → named_in q (cond c (moved_node time e.1 ∷ filter has_room (map (moved_node time) (values_of es))) (filter has_room (map (moved_node time) (values_of es)))) ≡ (if is_short q then option_map (renamed q) (find path_cmp (old_path owner q) (e ∷ es)) else None)
        go true is c room rest = by_short c (ap is_short (sym (its_name is)) ∙ room) is room rest
        go false is true room rest =
            ap (λ b. option_or (named_in q (filter has_room (map (moved_node time) (values_of es)))) (if b then Some (moved_node time e.1) else None)) (named_as false is) ∙ or_none (named_in q (filter has_room (map (moved_node time) (values_of es)))) ∙ rest
            ∙ sym (ap (λ o. if is_short q then option_map (renamed q) o else None) (found false is))
        go false is false room rest = rest ∙ sym (ap (λ o. if is_short q then option_map (renamed q) o else None) (found false is))

  -- at a path that is not below the root none is moved
  module _ (apart : is_under q (shown_root (snapshot_user owner) time) ≡ false) where
    not_moved : (k : PathName) → k.owner ≡ owner → path_eq q (moved time k) ≡ false
    not_moved k owned =
        path_apart q (moved time k)
        (λ same. false≢true (sym apart ∙ below_is (snapshot_user owner) time q (subst (IsBelow (snapshot_user owner) time) (sym same) (moved_below owner time k owned))))

    no_items : (items : Tree) → AllByRecursion (IsOwnItem owner) items → named_in q (filter has_room (map (moved_node time) (values_of items))) ≡ None
    unfolding named_in
    no_items [] own = refl
    no_items (e ∷ es) own = go (has_room (moved_node time e.1)) (no_items es own.1)
      where
        go : (c : Bool) → named_in q (filter has_room (map (moved_node time) (values_of es))) ≡ None → named_in q (cond c (moved_node time e.1 ∷ filter has_room (map (moved_node time) (values_of es))) (filter has_room (map (moved_node time) (values_of es)))) ≡ None
        go true rest =
            ap (λ b. option_or (named_in q (filter has_room (map (moved_node time) (values_of es)))) (if b then Some (moved_node time e.1) else None)) (ap (path_eq q) (ap (moved time) own.0.0) ∙ not_moved e.0 own.0.1)
            ∙ or_none (named_in q (filter has_room (map (moved_node time) (values_of es)))) ∙ rest
        go false rest = rest

-- what a snapshot shows of a tree at a path below its root
pub shown_below : (owner : List ℕ) (time : ℕ) (q : PathName) (tree : Tree) → IsRooted owner tree → IsBelow (snapshot_user owner) time q →
    named_in q (moved_nodes time tree) ≡ (if is_short q then option_map (renamed q) (node_at tree (old_path owner q)) else None)
unfolding moved_nodes node_at
shown_below owner time q tree rooted below = shown_items owner time q below tree rooted.ordered (own_items owner tree rooted)

-- and nothing elsewhere
pub shown_nowhere : (owner : List ℕ) (time : ℕ) (q : PathName) (tree : Tree) → IsRooted owner tree → is_under q (shown_root (snapshot_user owner) time) ≡ false →
    named_in q (moved_nodes time tree) ≡ None
unfolding moved_nodes
shown_nowhere owner time q tree rooted apart = no_items owner time q apart tree (own_items owner tree rooted)
