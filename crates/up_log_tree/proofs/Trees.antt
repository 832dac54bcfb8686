-- What a record makes of a tree, and lists that are made of trees.
use Rattle.std.proofs.Common.{◌≡◌, ℕ, Bool, true, false, not, cond, ◌&&◌, List, [], ◌∷◌, ◌++◌, ◌||◌, fold, T, refl, sym, ap, subst, ◌∙◌, Option, Some, None, is_some}
use Rattle.std.specs.Prelude.{⊤, if◌then◌else◌}
use Rattle.std.specs.Map.{keys_of}
use Rattle.std.specs.List.{cons_option, filter, list_all}
use Rattle.std.specs.FinMap.Entries.{find, is_sorted, below_all, is_sorted-put, is_sorted-where_key, find-put, find-where_key, same_entries}
use Rattle.std.specs.Ordering.{is_lt, is_eq, eq_by_cmp}
use Rattle.std.specs.declared.cmp.Ordering.{Ordering}
use Rattle.std.specs.declared.cmp.Ordering.TheVariants.{Less, Equal, Greater}
use Rattle.std.specs.Option.{option_map, option_and_then}
use Rattle.std.proofs.lemmas.Bool.{and_from}
use Rattle.std.proofs.lemmas.Grind.{fold-append}
use Rattle.up_names.specs.PathNames.{PathName}
use Rattle.up_names.specs.PathOrder.{path_eq, path_cmp}
use Rattle.up_names.specs.PathOrderLaws.{path_cmp_total, path_cmp_eq, path_exact}
use Rattle.up_entry.specs.declared.entries.Entry.{Entry}
use Rattle.up_entry.specs.declared.records.Rec.{Rec}
use Rattle.up_entry.specs.declared.records.Rec.TheVariants.{Put, Delete, Snap}
use Rattle.up_log_tree.specs.Orders.{are_rising, has_path as has, with_path}
use Rattle.up_log_tree.specs.Trees.{Tree, Node, after_record, children, is_parent, made_of, node_at, tree_of}
use Rattle.up_log_tree.proofs.Paths.{path_same}
use Rattle.up_log_tree.proofs.Rising.{above, filter-with, has-filter, keys-filter, keys-put, rising-filter}

-- ---- what stands at a path after a record

tied : (p q : PathName) → eq_by_cmp path_cmp p q ≡ path_eq p q
tied p q = sym (path_cmp_eq p q)

turned : {A : Type 0} (b : Bool) (x y : A) → cond (not b) x y ≡ cond b y x
turned true x y = refl
turned false x y = refl

pub node_at-put : (tree : Tree) (entry : Entry) (text : List ℕ) (q : PathName) →
    node_at (after_record tree (Put entry text)) q ≡ cond (path_eq q entry.name) (Some (record { entry = entry; text = text })) (node_at tree q)
unfolding node_at after_record
node_at-put tree entry text q =
    find-put path_cmp path_cmp_total q entry.name (record { entry = entry; text = text }) tree
    ∙ ap (λ b. cond b (Some (record { entry = entry; text = text })) (find path_cmp q tree)) (tied q entry.name)

pub node_at-delete : (tree : Tree) (path q : PathName) → node_at (after_record tree (Delete path)) q ≡ cond (path_eq path q) None (node_at tree q)
unfolding node_at after_record
node_at-delete tree path q =
    find-where_key path_cmp (λ x. not (path_eq path x)) q (λ x t. ap (λ p. not (path_eq path p)) (sym (path_exact q x t))) tree
    ∙ turned (path_eq path q) (find path_cmp q tree) None

pub node_at-snap : (tree : Tree) (time : ℕ) (q : PathName) → node_at (after_record tree (Snap time)) q ≡ node_at tree q
unfolding after_record
node_at-snap tree time q = refl

pub node_at-empty : (q : PathName) → node_at (tree_of []) q ≡ None
unfolding node_at tree_of
node_at-empty q = refl

pub after_sorted : (tree : Tree) (rec : Rec) → T (is_sorted path_cmp tree) → T (is_sorted path_cmp (after_record tree rec))
unfolding after_record
after_sorted tree (Put entry text) h = is_sorted-put path_cmp path_cmp_total entry.name (record { entry = entry; text = text }) tree h
after_sorted tree (Delete path) h = is_sorted-where_key path_cmp (λ x. not (path_eq path x)) tree h
after_sorted tree (Snap time) h = h

fold_sorted : (tree : Tree) (records : List Rec) → T (is_sorted path_cmp tree) → T (is_sorted path_cmp (fold after_record tree records))
fold_sorted tree [] h = h
fold_sorted tree (rec ∷ records) h = fold_sorted (after_record tree rec) records (after_sorted tree rec h)

-- the tree of a log is in order
pub tree_sorted : (records : List Rec) → T (is_sorted path_cmp (tree_of records))
unfolding tree_of
tree_sorted records = fold_sorted [] records tt

pub tree_of-push : (records : List Rec) (rec : Rec) → tree_of (records ++ rec ∷ []) ≡ after_record (tree_of records) rec
unfolding tree_of
tree_of-push records rec = fold-append after_record [] records (rec ∷ [])

-- ---- the paths of a tree

T_parts : (a b : Bool) → T (a && b) → T a × T b
T_parts true b h = (tt, h)
T_parts false b h = absurd h

T_both : (a b : Bool) → T a → T b → T (a && b)
T_both true b g h = h
T_both false b g h = absurd g

T_true : (b : Bool) → T b → b ≡ true
T_true true h = refl
T_true false h = absurd h

module _ {X : Type 0} where
  above_keys : (x : PathName) (es : List (PathName × X)) → T (below_all path_cmp x es) → above x (keys_of es) ≡ true
  above_keys x [] h = refl
  above_keys x (e ∷ es) h = and_from (is_lt (path_cmp x e.0)) (above x (keys_of es)) (T_true _ (T_parts _ _ h).0) (above_keys x es (T_parts _ _ h).1)

  pub rising_keys : (es : List (PathName × X)) → T (is_sorted path_cmp es) → are_rising (keys_of es) ≡ true
  rising_keys [] h = refl
  rising_keys (e ∷ es) h = and_from (above e.0 (keys_of es)) (are_rising (keys_of es)) (above_keys e.0 es (T_parts _ _ h).0) (rising_keys es (T_parts _ _ h).1)

  -- what is found has its key among them
  pub has_key : (es : List (PathName × X)) (q : PathName) → has (keys_of es) q ≡ is_some (find path_cmp q es)
  has_key [] q = refl
  has_key (e ∷ es) q = go (eq_by_cmp path_cmp q e.0) (sym (tied q e.0)) (has_key es q)
    where
      go : (b : Bool) → path_eq q e.0 ≡ b → has (keys_of es) q ≡ is_some (find path_cmp q es) → (path_eq q e.0 || has (keys_of es) q) ≡ is_some (cond b (Some e.1) (find path_cmp q es))
      go true is rest = ap (λ c. c || has (keys_of es) q) is
      go false is rest = ap (λ c. c || has (keys_of es) q) is ∙ rest

pub has_node : (tree : Tree) (q : PathName) → has (keys_of tree) q ≡ is_some (node_at tree q)
unfolding node_at
has_node tree q = has_key tree q

pub rising_tree : (records : List Rec) → are_rising (keys_of (tree_of records)) ≡ true
rising_tree records = rising_keys (tree_of records) (tree_sorted records)

-- ---- children

all_filtered : {X : Type 0} (test : X → Bool) (xs : List X) → list_all test (filter test xs) ≡ true
all_filtered test [] = refl
all_filtered test (x ∷ xs) = go (test x) refl (all_filtered test xs)
  where
    go : (b : Bool) → test x ≡ b → list_all test (filter test xs) ≡ true → list_all test (cond b (x ∷ filter test xs) (filter test xs)) ≡ true
    go true is rest = and_from (test x) (list_all test (filter test xs)) is rest
    go false is rest = rest

pub rising_children : (records : List Rec) (dir : PathName) → are_rising (children (tree_of records) dir) ≡ true
unfolding children
rising_children records dir = rising-filter (is_parent dir) (keys_of (tree_of records)) (rising_tree records)

pub has_child : (tree : Tree) (dir q : PathName) → has (children tree dir) q ≡ (is_parent dir q && is_some (node_at tree q))
unfolding children
has_child tree dir q = has-filter (is_parent dir) (keys_of tree) q ∙ ap (λ b. is_parent dir q && b) (has_node tree q)

pub children_within : (tree : Tree) (dir : PathName) → list_all (is_parent dir) (children tree dir) ≡ true
unfolding children
children_within tree dir = all_filtered (is_parent dir) (keys_of tree)

twice : {X : Type 0} (p q : X → Bool) (xs : List X) → filter p (filter q xs) ≡ filter q (filter p xs)
twice p q [] = refl
twice p q (x ∷ xs) = go (p x) refl (q x) refl (twice p q xs)
  where
    go : (a : Bool) → p x ≡ a → (b : Bool) → q x ≡ b → filter p (filter q xs) ≡ filter q (filter p xs) → filter p (cond b (x ∷ filter q xs) (filter q xs)) ≡ filter q (cond a (x ∷ filter p xs) (filter p xs))
    go true pa true qb rest = ap (λ c. cond c (x ∷ filter p (filter q xs)) (filter p (filter q xs))) pa ∙ ap (λ l. x ∷ l) rest ∙ sym (ap (λ c. cond c (x ∷ filter q (filter p xs)) (filter q (filter p xs))) qb)
    go true pa false qb rest = rest ∙ sym (ap (λ c. cond c (x ∷ filter q (filter p xs)) (filter q (filter p xs))) qb)
    go false pa true qb rest = ap (λ c. cond c (x ∷ filter p (filter q xs)) (filter p (filter q xs))) pa ∙ rest
    go false pa false qb rest = rest

pub no_children : (dir : PathName) → children (tree_of []) dir ≡ []
unfolding children tree_of
no_children dir = refl

-- ---- lists that are made of a tree

module _ {Y : Type 0} where
  below_made : (make : PathName → Node → Option Y) (x : PathName) (tree : Tree) → T (below_all path_cmp x tree) → T (below_all path_cmp x (made_of make tree))
  unfolding made_of
  below_made make x [] h = tt
  below_made make x (item ∷ items) h = go (make item.0 item.1) (T_parts _ _ h).0 (below_made make x items (T_parts _ _ h).1)
    where
      go : (made : Option Y) → T (is_lt (path_cmp x item.0)) → T (below_all path_cmp x (made_of make items)) → T (below_all path_cmp x (cons_option (option_map (λ y. (item.0, y)) made) (made_of make items)))
      go None first rest = rest
      go (Some y) first rest = T_both _ _ first rest

  pub made_sorted : (make : PathName → Node → Option Y) (tree : Tree) → T (is_sorted path_cmp tree) → T (is_sorted path_cmp (made_of make tree))
  unfolding made_of
  made_sorted make [] h = tt
  made_sorted make (item ∷ items) h = go (make item.0 item.1) (below_made make item.0 items (T_parts _ _ h).0) (made_sorted make items (T_parts _ _ h).1)
    where
      go : (made : Option Y) → T (below_all path_cmp item.0 (made_of make items)) → T (is_sorted path_cmp (made_of make items)) → T (is_sorted path_cmp (cons_option (option_map (λ y. (item.0, y)) made) (made_of make items)))
      go None first rest = rest
      go (Some y) first rest = T_both _ _ first rest

less_not_tied : (o : Ordering) → T (is_lt o) → is_eq o ≡ false
less_not_tied Less h = refl
less_not_tied Equal h = absurd h
less_not_tied Greater h = absurd h

find_below : {X : Type 0} (q : PathName) (es : List (PathName × X)) → T (below_all path_cmp q es) → find path_cmp q es ≡ None
find_below q [] h = refl
find_below q (e ∷ es) h = ap (λ b. cond b (Some e.1) (find path_cmp q es)) (less_not_tied (path_cmp q e.0) (T_parts _ _ h).0) ∙ find_below q es (T_parts _ _ h).1

module _ {Y : Type 0} (make : PathName → Node → Option Y) where
  -- what is made at a path is made of what stands there
  pub find-made : (q : PathName) (tree : Tree) → T (is_sorted path_cmp tree) → find path_cmp q (made_of make tree) ≡ option_and_then (make q) (node_at tree q)
  unfolding made_of node_at
  find-made q [] h = refl
  find-made q (item ∷ items) h = go (eq_by_cmp path_cmp q item.0) refl (find-made q items (T_parts _ _ h).1)
    where
      at : find path_cmp q (cons_option (option_map (λ y. (item.0, y)) (make item.0 item.1)) (made_of make items)) ≡ elim (make item.0 item.1) [ None ↦ find path_cmp q (made_of make items) | Some y ↦ cond (eq_by_cmp path_cmp q item.0) (Some y) (find path_cmp q (made_of make items)) ]
      at = on (make item.0 item.1)
        where
          on : (made : Option Y) → find path_cmp q (cons_option (option_map (λ y. (item.0, y)) made) (made_of make items)) ≡ elim made [ None ↦ find path_cmp q (made_of make items) | Some y ↦ cond (eq_by_cmp path_cmp q item.0) (Some y) (find path_cmp q (made_of make items)) ]
          on None = refl
          on (Some y) = refl

      here : (made : Option Y) → find path_cmp q (made_of make items) ≡ None → elim made [ None ↦ find path_cmp q (made_of make items) | Some y ↦ cond true (Some y) (find path_cmp q (made_of make items)) ] ≡ made
      here None none = none
      here (Some y) none = refl

      there : (made : Option Y) → elim made [ None ↦ find path_cmp q (made_of make items) | Some y ↦ cond false (Some y) (find path_cmp q (made_of make items)) ] ≡ find path_cmp q (made_of make items)
      there None = refl
      there (Some y) = refl

      go : (is : Bool) → eq_by_cmp path_cmp q item.0 ≡ is → find path_cmp q (made_of make items) ≡ option_and_then (make q) (find path_cmp q items) →
          find path_cmp q (cons_option (option_map (λ y. (item.0, y)) (make item.0 item.1)) (made_of make items)) ≡ option_and_then (make q) (cond (eq_by_cmp path_cmp q item.0) (Some item.1) (find path_cmp q items))
      go true is rest =
          let same : q ≡ item.0 = path_same q item.0 (sym (tied q item.0) ∙ is) in
          let below : find path_cmp q (made_of make items) ≡ None = find_below q (made_of make items) (subst (λ p. T (below_all path_cmp p (made_of make items))) (sym same) (below_made make item.0 items (T_parts _ _ h).0)) in
          at
          ∙ ap (λ b. elim (make item.0 item.1) [ None ↦ find path_cmp q (made_of make items) | Some y ↦ cond b (Some y) (find path_cmp q (made_of make items)) ]) is
          ∙ here (make item.0 item.1) below
          ∙ ap (λ p. make p item.1) (sym same)
          ∙ ap (λ b. option_and_then (make q) (cond b (Some item.1) (find path_cmp q items))) (sym is)
      go false is rest =
          at
          ∙ ap (λ b. elim (make item.0 item.1) [ None ↦ find path_cmp q (made_of make items) | Some y ↦ cond b (Some y) (find path_cmp q (made_of make items)) ]) is
          ∙ there (make item.0 item.1)
          ∙ rest
          ∙ ap (λ b. option_and_then (make q) (cond b (Some item.1) (find path_cmp q items))) (sym is)

-- lists that are made alike at each path are one list
pub made_same : {Y : Type 0} (f g : PathName → Node → Option Y) (one two : Tree) → T (is_sorted path_cmp one) → T (is_sorted path_cmp two) →
    ((q : PathName) → option_and_then (f q) (node_at one q) ≡ option_and_then (g q) (node_at two q)) → made_of f one ≡ made_of g two
made_same f g one two h k alike =
    same_entries path_cmp path_cmp_total path_exact (made_of f one) (made_of g two) (made_sorted f one h) (made_sorted g two k)
    (λ q. find-made f q one h ∙ alike q ∙ sym (find-made g q two k))

-- and the other way round
pub made_alike : {Y : Type 0} (f g : PathName → Node → Option Y) (one two : Tree) → T (is_sorted path_cmp one) → T (is_sorted path_cmp two) →
    made_of f one ≡ made_of g two → (q : PathName) → option_and_then (f q) (node_at one q) ≡ option_and_then (g q) (node_at two q)
made_alike f g one two h k same q = sym (find-made f q one h) ∙ ap (find path_cmp q) same ∙ find-made g q two k

-- the children as such a list
pub children_made : (tree : Tree) (dir : PathName) → children tree dir ≡ keys_of (made_of {Y = ⊤} (λ path node. if is_parent dir path then Some tt else None) tree)
unfolding children made_of
children_made [] dir = refl
children_made (item ∷ items) dir = go (is_parent dir item.0) (children_made items dir)
  where
    make : PathName → Node → Option ⊤
    make path node = if is_parent dir path then Some tt else None

    go : (b : Bool) → filter (is_parent dir) (keys_of items) ≡ keys_of (made_of make items)
        → cond b (item.0 ∷ filter (is_parent dir) (keys_of items)) (filter (is_parent dir) (keys_of items)) ≡ keys_of (cons_option (option_map (λ y. (item.0, y)) (if b then Some tt else None)) (made_of make items))
    go true rest = ap (λ l. item.0 ∷ l) rest
    go false rest = rest
