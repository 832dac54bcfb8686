-- The tree of a log, as it is seen through what is kept in memory.
use Rattle.std.proofs.Common.{◌≡◌, ℕ, zero, suc, ◌+◌, ◌-◌, ◌<◌, ◌≤◌, Bool, true, false, cond, List, [], ◌∷◌, ◌++◌, length, map, take, refl, sym, ap, subst, ◌∙◌, arith, Option, Some, None, is_some, bytes_eq}
use Rattle.std.specs.Prelude.{IfOk, Result, filter, find, nat_lt, if◌then◌else◌, slice_get, slice_index_or}
use Rattle.std.proofs.lemmas.List.{take_all}
use Rattle.std.proofs.lemmas.Bool.{lt-ltb}
use Rattle.std.specs.FinMap.Entries as entries
use Rattle.std.specs.List.{AllByRecursion, cons_option}
use Rattle.std.specs.Map.{keys_of, values_of}
use Rattle.std.specs.Option.{option_and_then, option_map, option_to_list}
use Rattle.up_names.specs.PathNames.{PathName, cut, extended}
use Rattle.up_names.specs.PathOrder.{path_cmp, path_eq}
use Rattle.up_entry.specs.declared.entries.Entry.{Entry}
use Rattle.up_entry.specs.declared.records.Rec.{Rec}
use Rattle.up_policy.specs.Governors.{prefixes_to}
use Rattle.up_log_tree.specs.declared.node.Node.{Node}
use Rattle.up_log_tree.specs.Fits.{IsLog}
use Rattle.up_log_tree.specs.Rights.{access_node, access_path, facts_of, governing_prefix, rules_of}
use Rattle.up_log_tree.specs.Trees.{Tree, children, is_parent, made_of, node_at, standing_prefix, tree_of}
use Rattle.up_log_tree.proofs.Fronts.{take_next}
use Rattle.up_log_tree.proofs.Paths.{cut_cut, cut_whole, length_cut, parent_extended, parent_passes, some_none, some_same}
use Rattle.up_log_tree.proofs.Rooted.{rooted}
use Rattle.up_log_tree.proofs.Trees.{find-made, made_sorted, tree_sorted}
use Rattle.up_list.specs.Entries.{entries_in, entry_at, entry_of, entry_on_way, nodes_in}
use Rattle.up_list.specs.Places.{IsIn}
use Rattle.up_policy.specs.Loadings.{Loading}
use Rattle.up_list.specs.declared.found.Found.{Found}
use Rattle.up_list.specs.Founds.{entry_found}
use Rattle.up_list.specs.Governing.{governing_file}
use Rattle.up_list.specs.Looks.{Look}
use Rattle.up_list.specs.Rooted.{IsRooted}
use Rattle.up_list.specs.Seen.{Seen, has_name, look_of, standing_node}
use Rattle.up_list.proofs.LinkLemmas.{above as has_above}
use Rattle.up_list.proofs.ChildLemmas.{all_in, all_weaker, one_entry}
use Rattle.up_list.proofs.LiteralLemmas.{in_extended, same_end}
use Rattle.up_list.proofs.MeetLemmas.{size_in}
use Rattle.up_list.proofs.PickLemmas.{filter_alike}
use Rattle.up_list.proofs.SortedLemmas.{found_all}

-- the tree of a log is rooted
pub rooted_log : (owner : List ℕ) (records : List Rec) → IsLog owner records → IsRooted owner (tree_of records)
rooted_log owner records is =
    let r = rooted owner records is.fitting in
    record { ordered = tree_sorted records; named = r.named; placed = r.placed }

-- ---- the longest prefix that stands

pub on_way : (tree : Tree) (path : PathName) → option_map entry_of (standing_node tree path) ≡ entry_on_way tree path
on_way tree path = go (standing_prefix tree path)
  where
    go : (o : Option PathName) → option_map entry_of (option_and_then (node_at tree) o) ≡ option_and_then (entry_at tree) o
    go None = refl
    go (Some p) = refl

-- what stands at the prefix with one element less; nothing where there is none
abbrev pub before_front : Tree → PathName → ℕ → Option Node
before_front tree path zero = None
before_front tree path (suc n) = node_at tree (cut n path)

-- Where the longest prefix that stands is looked for: nothing stands at the prefix `top` and at longer ones; something stands at
-- that with `low` elements less one, where there is one, and it was found.
pub record Halves (tree : Tree) (path top : PathName) (low : ℕ) (found : Option Node) : Type 0 where
  pub at : top ≡ cut (length top.elements) path
  pub within : length top.elements ≤ length path.elements
  pub order : low ≤ length top.elements
  pub none : (k : ℕ) → length top.elements ≤ k → k ≤ length path.elements → node_at tree (cut k path) ≡ None
  pub was : found ≡ before_front tree path low
  pub some : nat_lt 0 low ≡ is_some found

-- the longest of some prefixes at which something stands is the first of them, where something stands there
first_stands : (tree : Tree) (path : PathName) (n : ℕ) → is_some (node_at tree (cut n path)) ≡ true → find (λ prefix. is_some (node_at tree prefix)) (prefixes_to n path) ≡ Some (cut n path)
first_stands tree path zero s = ap (λ b. if b then Some (cut 0 path) else None) s
first_stands tree path (suc n) s = ap (λ b. if b then Some (cut (suc n) path) else find (λ prefix. is_some (node_at tree prefix)) (prefixes_to n path)) s

module _ (owner : List ℕ) (tree : Tree) (rooted : IsRooted owner tree) (path : PathName) where
  -- nothing stands at a longer prefix than at one at which nothing stands
  none_longer : (n k : ℕ) → node_at tree (cut n path) ≡ None → n + k ≤ length path.elements → node_at tree (cut (n + k) path) ≡ None
  none_longer n zero none h = ap (λ m. node_at tree (cut m path)) (let e : n + 0 ≡ n = omega arith in e) ∙ none
  none_longer n (suc k) none h = ap (λ m. node_at tree (cut m path)) (let e : n + suc k ≡ suc (n + k) = omega arith in e) ∙ go (node_at tree (cut (suc (n + k)) path)) refl (none_longer n k none (omega (arith, h)))
    where
      go : (o : Option Node) → node_at tree (cut (suc (n + k)) path) ≡ o → node_at tree (cut (n + k) path) ≡ None → o ≡ None
      go None e above = refl
      go (Some node) e above = let dir = has_above owner tree rooted path (n + k) node (omega (arith, h)) e in absurd (some_none dir.0 (sym dir.1 ∙ above))

  pub none_from : (n k : ℕ) → node_at tree (cut n path) ≡ None → n ≤ k → k ≤ length path.elements → node_at tree (cut k path) ≡ None
  none_from n k none low high =
      let same : n + (k - n) ≡ k = omega (arith, low) in
      subst (λ m. node_at tree (cut m path) ≡ None) same (none_longer n (k - n) none (subst (λ m. m ≤ length path.elements) (sym same) high))

  -- at the start the path itself is the top
  pub halves_from : (top : PathName) → top ≡ path → node_at tree path ≡ None → Halves tree path top 0 None
  halves_from top is none =
      let size : length top.elements ≡ length path.elements = ap (λ (p : PathName). length p.elements) is in
      record {
        at = is ∙ (sym (cut_whole path) ∙ ap (λ n. cut n path) (sym size));
        within = omega (arith, size);
        order = omega arith;
        none = λ k low high. ap (λ n. node_at tree (cut n path)) (let e : k ≡ length path.elements = omega (arith, low, high, size) in e) ∙ (ap (node_at tree) (cut_whole path) ∙ none);
        was = refl;
        some = refl;
      }

  -- nothing stands at the prefix in the middle
  pub halves_down : (top way : PathName) (low middle : ℕ) (found : Option Node) → Halves tree path top low found → low ≤ middle → middle ≤ length top.elements →
      way ≡ cut middle top → node_at tree way ≡ None → Halves tree path way low found
  halves_down top way low middle found h le lt is none =
      let at : way ≡ cut middle path = is ∙ (ap (cut middle) h.at ∙ cut_cut middle (length top.elements) path lt) in
      let size : length way.elements ≡ middle = ap (λ (p : PathName). length p.elements) at ∙ length_cut middle path (omega (arith, lt, h.within)) in
      record {
        at = at ∙ ap (λ n. cut n path) (sym size);
        within = omega (arith, size, lt, h.within);
        order = omega (arith, size, le);
        none = λ k from to. none_from middle k (ap (node_at tree) (sym at) ∙ none) (omega (arith, size, from)) to;
        was = h.was;
        some = h.some;
      }

  -- something does
  pub halves_up : (top way : PathName) (low middle : ℕ) (found : Option Node) (node : Node) → Halves tree path top low found → middle < length top.elements →
      way ≡ cut middle top → node_at tree way ≡ Some node → Halves tree path top (middle + 1) (Some node)
  halves_up top way low middle found node h lt is there =
      let at : way ≡ cut middle path = is ∙ (ap (cut middle) h.at ∙ cut_cut middle (length top.elements) path (omega (arith, lt))) in
      let next : middle + 1 ≡ suc middle = omega arith in
      record {
        at = h.at;
        within = h.within;
        order = omega (arith, lt);
        none = h.none;
        was = sym there ∙ (ap (node_at tree) at ∙ ap (before_front tree path) (sym next));
        some = lt-ltb 0 (middle + 1) (omega arith);
      }

  abbrev stands : PathName → Bool
  stands prefix = is_some (node_at tree prefix)

  skipped : (n m : ℕ) → m ≤ n → ((k : ℕ) → m < k → k ≤ n → node_at tree (cut k path) ≡ None) → find stands (prefixes_to n path) ≡ find stands (prefixes_to m path)
  skipped n m h none = by (n - m) n (omega (arith, h)) none
    where
      by : (d n : ℕ) → n ≡ m + d → ((k : ℕ) → m < k → k ≤ n → node_at tree (cut k path) ≡ None) → find stands (prefixes_to n path) ≡ find stands (prefixes_to m path)
      by zero n e none = ap (λ k. find stands (prefixes_to k path)) (let same : n ≡ m = omega (arith, e) in same)
      by (suc d) n e none =
          let more : n ≡ suc (m + d) = omega (arith, e) in
          ap (λ k. find stands (prefixes_to k path)) more
          ∙ (ap (λ o. if is_some o then Some (cut (suc (m + d)) path) else find stands (prefixes_to (m + d) path)) (none (suc (m + d)) (omega arith) (omega (arith, more)))
          ∙ by d (m + d) refl (λ k low high. none k low (omega (arith, high, more))))

  -- at the end what was found is what stands at the longest prefix that stands
  pub halves_end : (top : PathName) (low : ℕ) (found : Option Node) → Halves tree path top low found → length top.elements ≤ low → standing_node tree path ≡ found
  unfolding standing_prefix
  halves_end top low found h end = go low (let e : low ≡ length top.elements = omega (arith, end, h.order) in e) h.was h.some
    where
      go : (n : ℕ) → n ≡ length top.elements → found ≡ before_front tree path n → nat_lt 0 n ≡ is_some found → option_and_then (node_at tree) (find stands (prefixes_to (length path.elements) path)) ≡ found
      go zero e is some =
          ap (option_and_then (node_at tree)) (skipped (length path.elements) 0 (omega arith) (λ k from to. h.none k (omega (arith, e, from)) to)
          ∙ ap (λ o. if is_some o then Some (cut 0 path) else None) (h.none 0 (omega (arith, e)) (omega arith)))
          ∙ sym is
      go (suc n) e is some =
          ap (option_and_then (node_at tree)) (skipped (length path.elements) n (omega (arith, e, h.within)) (λ k from to. h.none k (omega (arith, e, from)) to)
          ∙ first_stands tree path n (ap is_some (sym is) ∙ (sym some ∙ lt-ltb 0 (suc n) (omega arith))))
          ∙ sym is

-- what stands at the path itself stands on the way
pub stands_itself : (tree : Tree) (path : PathName) (node : Node) → node_at tree path ≡ Some node → Some (entry_of node) ≡ entry_on_way tree path
unfolding standing_prefix
stands_itself tree path node there =
    let here : node_at tree (cut (length path.elements) path) ≡ Some node = ap (node_at tree) (cut_whole path) ∙ there in
    ap (option_map entry_of) (sym (ap (option_and_then (node_at tree)) (first_stands tree path (length path.elements) (ap is_some here)) ∙ here))
    ∙ on_way tree path

-- ---- the items of a directory

keys_in : (tree : Tree) (dir : PathName) → keys_of (nodes_in tree dir) ≡ children tree dir
unfolding children made_of
keys_in [] dir = refl
keys_in (item ∷ items) dir = go (is_parent dir item.0) (keys_in items dir)
  where
    go : (b : Bool) → keys_of (nodes_in items dir) ≡ filter (is_parent dir) (keys_of items) →
        keys_of (cons_option (option_map (λ y. (item.0, y)) (if b then Some item.1 else None)) (nodes_in items dir)) ≡ cond b (item.0 ∷ filter (is_parent dir) (keys_of items)) (filter (is_parent dir) (keys_of items))
    go true rest = ap (λ ks. item.0 ∷ ks) rest
    go false rest = rest

key_get : {X : Type 0} (es : List (PathName × X)) (i : ℕ) (k : PathName) → slice_get (keys_of es) i ≡ Some k → (x : X) × (slice_get es i ≡ Some (k, x))
key_get [] i k h = absurd (some_none k (sym h))
key_get (e ∷ es) zero k h = (e.1, ap (λ p. Some (p, e.1)) (some_same e.0 k h))
key_get (e ∷ es) (suc i) k h = key_get es i k h

all_get : {X : Type 0} (P : X → Type 0) (xs : List X) (i : ℕ) (x : X) → AllByRecursion P xs → slice_get xs i ≡ Some x → P x
all_get P [] i x all h = absurd (some_none x (sym h))
all_get P (y ∷ ys) zero x all h = subst P (some_same y x h) all.0
all_get P (y ∷ ys) (suc i) x all h = all_get P ys i x all.1 h

map_get : {X Y : Type 0} (f : X → Y) (xs : List X) (i : ℕ) (x : X) → slice_get xs i ≡ Some x → slice_get (map f xs) i ≡ Some (f x)
map_get f [] i x h = absurd (some_none x (sym h))
map_get f (y ∷ ys) zero x h = ap (λ z. Some (f z)) (some_same y x h)
map_get f (y ∷ ys) (suc i) x h = map_get f ys i x h

module _ (owner : List ℕ) (tree : Tree) (r : IsRooted owner tree) (dir : PathName) where
  in_node : (i : ℕ) (path : PathName) → slice_get (children tree dir) i ≡ Some path → (node : Node) × (slice_get (nodes_in tree dir) i ≡ Some (path, node)) × (node_at tree path ≡ Some node)
  in_node i path h =
      let found = key_get (nodes_in tree dir) i path (ap (λ ks. slice_get ks i) (keys_in tree dir) ∙ h) in
      let sorted = made_sorted (λ p node. if is_parent dir p then Some node else None) tree r.ordered in
      let at = all_get (λ (e : PathName × Node). entries.find path_cmp e.0 (nodes_in tree dir) ≡ Some e.1) (nodes_in tree dir) i (path, found.0) (found_all (nodes_in tree dir) sorted) found.1 in
      (found.0, found.1, stands found.0 (sym (find-made (λ p node. if is_parent dir p then Some node else None) path tree r.ordered) ∙ at))
    where
      by : (b : Bool) (n node : Node) → (if b then Some n else None) ≡ Some node → n ≡ node
      by true n node e = some_same n node e
      by false n node e = absurd (some_none node (sym e))

      stands : (node : Node) → option_and_then (λ n. if is_parent dir path then Some n else None) (node_at tree path) ≡ Some node → node_at tree path ≡ Some node
      stands node k = go (node_at tree path) refl k
        where
          go : (o : Option Node) → node_at tree path ≡ o → option_and_then (λ n. if is_parent dir path then Some n else None) o ≡ Some node → node_at tree path ≡ Some node
          go None e m = absurd (some_none node (sym m))
          go (Some n) e m = e ∙ ap Some (by (is_parent dir path) n node m)

  -- a child stands
  pub child_stands : (i : ℕ) (path : PathName) → slice_get (children tree dir) i ≡ Some path → node_at tree path ≡ None → ⊥
  child_stands i path h none = let found = in_node i path h in some_none found.0 (sym found.2 ∙ none)

  entry_there : (i : ℕ) (path : PathName) (node : Node) → slice_get (children tree dir) i ≡ Some path → node_at tree path ≡ Some node → slice_get (entries_in tree dir) i ≡ Some node.entry
  entry_there i path node h there =
      let found = in_node i path h in
      let same : found.0 ≡ node = some_same found.0 node (sym found.2 ∙ there) in
      map_get entry_of (values_of (nodes_in tree dir)) i found.0 (map_get (λ (e : PathName × Node). e.1) (nodes_in tree dir) i (path, found.0) found.1) ∙ ap (λ (n : Node). Some n.entry) same

  -- one item more
  pub items_on : (i : ℕ) (path : PathName) (node : Node) (found : List Entry) → slice_get (children tree dir) i ≡ Some path → node_at tree path ≡ Some node → found ≡ take i (entries_in tree dir) → found ++ node.entry ∷ [] ≡ take (i + 1) (entries_in tree dir)
  items_on i path node found h there so_far =
      ap (λ es. es ++ node.entry ∷ []) so_far
      ∙ (sym (take_next i (entries_in tree dir) node.entry (entry_there i path node h there)) ∙ ap (λ n. take n (entries_in tree dir)) (let e : suc i ≡ i + 1 = omega arith in e))

  -- no item more
  pub items_end : (i : ℕ) (found : List Entry) → slice_get (children tree dir) i ≡ None → found ≡ take i (entries_in tree dir) → found ≡ entries_in tree dir
  items_end i found h so_far = so_far ∙ past (entries_in tree dir) i (none_get i (ap (λ ks. slice_get ks i) (keys_in tree dir) ∙ h))
    where
      none_of : {X Y : Type 0} (f : X → Y) (xs : List X) (i : ℕ) → slice_get (map f xs) i ≡ None → slice_get xs i ≡ None
      none_of f [] i e = refl
      none_of f (x ∷ xs) zero e = absurd (some_none (f x) e)
      none_of f (x ∷ xs) (suc i) e = none_of f xs i e

      none_for : {X Y : Type 0} (f : X → Y) (xs : List X) (i : ℕ) → slice_get xs i ≡ None → slice_get (map f xs) i ≡ None
      none_for f [] i e = refl
      none_for f (x ∷ xs) zero e = absurd (some_none x e)
      none_for f (x ∷ xs) (suc i) e = none_for f xs i e

      none_get : (i : ℕ) → slice_get (keys_of (nodes_in tree dir)) i ≡ None → slice_get (entries_in tree dir) i ≡ None
      none_get i e = none_for entry_of (values_of (nodes_in tree dir)) i (none_for (λ (e : PathName × Node). e.1) (nodes_in tree dir) i (none_of (λ (e : PathName × Node). e.0) (nodes_in tree dir) i e))

      past : {X : Type 0} (xs : List X) (i : ℕ) → slice_get xs i ≡ None → take i xs ≡ xs
      past [] zero e = refl
      past [] (suc i) e = refl
      past (x ∷ xs) zero e = absurd (some_none x e)
      past (x ∷ xs) (suc i) e = ap (λ ys. x ∷ ys) (past xs i e)

-- ---- the item of a name

find_is : {X : Type 0} (p : X → Bool) (xs : List X) (o : Option X) → filter p xs ≡ option_to_list o → find p xs ≡ o
find_is p [] None h = refl
find_is p [] (Some x) h = absurd (cc)
find_is {X = X} p (x ∷ xs) o h = go (p x) refl (find_is p xs o)
  where
    first : (o : Option X) → x ∷ filter p xs ≡ option_to_list o → Some x ≡ o
    first None e = absurd (cc)
    first (Some y) e = ap Some (let s : x ≡ y = cc in s)

    go : (b : Bool) → p x ≡ b → (filter p xs ≡ option_to_list o → find p xs ≡ o) → find p (x ∷ xs) ≡ o
    go true e rest = ap (λ b. if b then Some x else find p xs) e ∙ first o (sym (ap (λ b. if b then x ∷ filter p xs else filter p xs) e) ∙ h)
    go false e rest = ap (λ b. if b then Some x else find p xs) e ∙ rest (sym (ap (λ b. if b then x ∷ filter p xs else filter p xs) e) ∙ h)

-- the first item of that name in a directory is what stands there
pub named_is : (look : Look) (dir : PathName) (name : List ℕ) → IsRooted look.owner look.tree → find (has_name (length dir.elements) name) (entries_in look.tree dir) ≡ entry_at look.tree (extended dir name)
named_is look dir name r =
    find_is (has_name (length dir.elements) name) (entries_in look.tree dir) (entry_at look.tree (extended dir name))
    (filter_alike (has_name (length dir.elements) name) (λ (e : Entry). path_eq (extended dir name) e.name) (entries_in look.tree dir)
    (all_weaker (IsIn look (length dir.elements) dir) (λ (e : Entry). has_name (length dir.elements) name e ≡ path_eq (extended dir name) e.name) (λ e is. test e is) (entries_in look.tree dir) (all_in look (length dir.elements) dir r refl))
    ∙ (one_entry look.owner look.tree r dir (extended dir name)
    ∙ ap (λ b. if b then option_to_list (entry_at look.tree (extended dir name)) else []) (parent_passes dir (extended dir name) (parent_extended dir name))))
  where
    test : (e : Entry) → IsIn look (length dir.elements) dir e → has_name (length dir.elements) name e ≡ path_eq (extended dir name) e.name
    test e is =
        sym (ap (path_eq (extended dir name)) (in_extended (length dir.elements) dir e is.parent is.size (size_in look (length dir.elements) dir e is))
        ∙ same_end dir name (slice_index_or e.name.elements (length dir.elements) []))

-- the element at a place, as what stands there or as nothing
pub element_is : (at : ℕ) (name : List ℕ) (e : Entry) (o : Option (List ℕ)) → o ≡ slice_get e.name.elements at → has_name at name e ≡ elim o as (λ _. Bool) [ None ↦ bytes_eq [] name | Some element ↦ bytes_eq element name ]
element_is at name e o h = go e.name.elements at o h
  where
    go : (xs : List (List ℕ)) (i : ℕ) (o : Option (List ℕ)) → o ≡ slice_get xs i → bytes_eq (slice_index_or xs i []) name ≡ elim o as (λ _. Bool) [ None ↦ bytes_eq [] name | Some element ↦ bytes_eq element name ]
    go [] i None h = refl
    go [] i (Some x) h = absurd (some_none x h)
    go (x ∷ xs) zero None h = absurd (some_none x (sym h))
    go (x ∷ xs) zero (Some y) h = ap (λ z. bytes_eq z name) (some_same x y (sym h))
    go (x ∷ xs) (suc i) o h = go xs i o h

none_next : {X : Type 0} (p : X → Bool) (xs : List X) (i : ℕ) (x : X) → slice_get xs i ≡ Some x → find p (take i xs) ≡ None → p x ≡ false → find p (take (suc i) xs) ≡ None
none_next p [] i x h none lacks = refl
none_next p (y ∷ ys) zero x h none lacks = ap (λ b. if b then Some y else None) (ap p (some_same y x h) ∙ lacks)
none_next p (y ∷ ys) (suc i) x h none lacks = go (p y) (λ e. none_next p ys i x h e lacks) none
  where
    go : (b : Bool) → (find p (take i ys) ≡ None → find p (take (suc i) ys) ≡ None) → (if b then Some y else find p (take i ys)) ≡ None → (if b then Some y else find p (take (suc i) ys)) ≡ None
    go true rest e = absurd (some_none y e)
    go false rest e = rest e

found_first : {X : Type 0} (p : X → Bool) (xs : List X) (i : ℕ) (x : X) → slice_get xs i ≡ Some x → find p (take i xs) ≡ None → p x ≡ true → find p xs ≡ Some x
found_first p [] i x h none has = absurd (some_none x (sym h))
found_first p (y ∷ ys) zero x h none has = ap (λ b. if b then Some y else find p ys) (ap p (some_same y x h) ∙ has) ∙ ap Some (some_same y x h)
found_first p (y ∷ ys) (suc i) x h none has = go (p y) (λ e. found_first p ys i x h e has) none
  where
    go : (b : Bool) → (find p (take i ys) ≡ None → find p ys ≡ Some x) → (if b then Some y else find p (take i ys)) ≡ None → (if b then Some y else find p ys) ≡ Some x
    go true rest e = absurd (some_none y e)
    go false rest e = rest e

module _ (owner : List ℕ) (tree : Tree) (r : IsRooted owner tree) (dir : PathName) (name : List ℕ) where
  named_there : find (has_name (length dir.elements) name) (entries_in tree dir) ≡ entry_at tree (extended dir name)
  named_there = named_is (record { owner = owner; tree = tree; loaded = []; user = owner }) dir name r

  -- one item more without the name
  pub named_on : (i : ℕ) (path : PathName) (node : Node) → slice_get (children tree dir) i ≡ Some path → node_at tree path ≡ Some node → find (has_name (length dir.elements) name) (take i (entries_in tree dir)) ≡ None → has_name (length dir.elements) name node.entry ≡ false →
      find (has_name (length dir.elements) name) (take (i + 1) (entries_in tree dir)) ≡ None
  named_on i path node h there none lacks =
      ap (λ n. find (has_name (length dir.elements) name) (take n (entries_in tree dir))) (let e : i + 1 ≡ suc i = omega arith in e)
      ∙ none_next (has_name (length dir.elements) name) (entries_in tree dir) i node.entry (entry_there owner tree r dir i path node h there) none lacks

  -- the item with the name
  pub named_here : (i : ℕ) (path : PathName) (node : Node) → slice_get (children tree dir) i ≡ Some path → node_at tree path ≡ Some node → find (has_name (length dir.elements) name) (take i (entries_in tree dir)) ≡ None → has_name (length dir.elements) name node.entry ≡ true →
      Some node.entry ≡ entry_at tree (extended dir name)
  named_here i path node h there none has =
      sym (found_first (has_name (length dir.elements) name) (entries_in tree dir) i node.entry (entry_there owner tree r dir i path node h there) none has) ∙ named_there

  -- no item has the name
  pub named_none : (i : ℕ) → slice_get (children tree dir) i ≡ None → find (has_name (length dir.elements) name) (take i (entries_in tree dir)) ≡ None → None ≡ entry_at tree (extended dir name)
  named_none i h none =
      sym (ap (find (has_name (length dir.elements) name)) (sym (items_end owner tree r dir i (take i (entries_in tree dir)) h refl)) ∙ none) ∙ named_there

-- ---- the tree as it is, its texts, and the file that governs

-- all records are the first ones
pub seen_whole : (owner : List ℕ) (records : List Rec) (at : ℕ) → at ≡ length records → ◌≡◌ {A = Seen} (record { owner = owner; records = take at records }) (record { owner = owner; records = records })
seen_whole owner records at h = ap (λ rs. record { owner = owner; records = rs }) (take_all at records (omega (arith, h)))

pub cut_past : (n : ℕ) (path : PathName) → length path.elements ≤ n → cut n path ≡ path
cut_past n path h = ap (λ elements. record { owner = path.owner; elements = elements }) (take_all n path.elements h)

-- a text is what an Access file says
pub has_text : (owner : List ℕ) (tree : Tree) (dir : PathName) → is_some ((facts_of owner tree).access dir) ≡ is_some (access_node tree dir)
unfolding facts_of
has_text owner tree dir = go (access_node tree dir)
  where
    go : (o : Option Node) → is_some (option_map (rules_of owner) o) ≡ is_some o
    go None = refl
    go (Some node) = refl

-- an owner of a log is no snapshot user
pub governing_seen : {E : Type 0} (seen : Seen) (loaded : Loading) (user : List ℕ) (look : Look) (path : PathName) (result : Result (Option Found) E) → look_of seen loaded user ≡ look → IsLog seen.owner seen.records →
    IfOk result (λ found. option_map entry_found found ≡ option_and_then (λ dir. entry_at (tree_of seen.records) (access_path dir)) (governing_prefix (tree_of seen.records) path)) →
    IfOk result (λ found. option_map entry_found found ≡ governing_file look path)
unfolding governing_file
governing_seen seen loaded user look path result e is h =
    let file : Option Entry = option_and_then (λ dir. entry_at (tree_of seen.records) (access_path dir)) (governing_prefix (tree_of seen.records) path) in
    let plain : governing_file (look_of seen loaded user) path ≡ file = ap (λ b. if b then None else file) is.plain in
    subst (λ (l : Look). IfOk result (λ found. option_map entry_found found ≡ governing_file l path)) e
    (subst (λ (x : Option Entry). IfOk result (λ found. option_map entry_found found ≡ x)) (sym plain) h)
