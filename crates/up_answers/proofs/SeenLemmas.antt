-- Lists of what is seen in two trees in which a user sees the same at every path: the rows of Glob, and the items of Watch.
use Rattle.std.proofs.Common.{◌≡◌, ℕ, suc, ◌+◌, ◌-◌, ◌<◌, ◌≤◌, Bool, true, false, not, ◌&&◌, ◌||◌, List, [], ◌∷◌, length, take, refl, sym, ap, subst, ◌∙◌, ◌⊎◌, inl, inr, arith, Option, Some, None}
use Rattle.std.specs.Prelude.{if◌then◌else◌, T, MatchOption, unwrap_or, nat_lt, ◌==◌}
use Rattle.std.specs.FinMap.Entries.{is_sorted}
use Rattle.std.specs.Map.{values_of}
use Rattle.std.specs.Option.{option_map, option_and_then}
use Rattle.std.proofs.lemmas.List.{length-take-le}
use Rattle.std.proofs.lemmas.Bool.{false≢true, and_parts, or_cases, ltb-true}
use Rattle.up_names.specs.PathNames.{PathName, cut, parent_of, is_under}
use Rattle.up_names.specs.PathOrder.{path_cmp, path_eq}
use Rattle.up_rights.specs.declared.Right.TheVariants as right
use Rattle.up_rights.specs.RightSets.{Rights}
use Rattle.up_entry.specs.declared.entries.Entry.{Entry}
use Rattle.up_entry.specs.declared.entries.Kind.{Kind}
use Rattle.up_entry.specs.declared.entries.Kind.TheVariants.{File, Directory, Link}
use Rattle.up_pattern.specs.declared.terms.Term.{Term}
use Rattle.up_pattern.specs.Patterns.{PatternName}
use Rattle.up_wire.specs.declared.replies.WatchEvent.{WatchEvent}
use Rattle.up_wire.specs.declared.replies.Reply.TheVariants as reply
use Rattle.up_wire.specs.declared.replies.Done.TheVariants as done
use Rattle.up_log_tree.specs.declared.node.Node.{Node}
use Rattle.up_log_tree.specs.Trees.{Tree, node_at, kind_of, is_file, is_link, is_parent}
use Rattle.up_entry.specs.Rules.{is_directory}
use Rattle.up_list.specs.Looks.{Look, rights, has_some, shown}
use Rattle.up_answers.specs.Views.{View, where_held, shown_node, shown_children}
use Rattle.up_log_tree.specs.Fits.{HasDirectory}
use Rattle.up_list.specs.Checks.{ways, check}
use Rattle.up_list.specs.Globs.{is_literal, literals, literal_path, is_whole, matches_front, is_listed, ends_literal, is_candidate, is_met, row_of, rows, one_row, rows_reply, glob_reply, matches_name, whole_reply}
use Rattle.up_list.specs.Entries.{entry_at, entry_of}
use Rattle.up_answers.specs.Watches.{items_under}
use Rattle.up_log_tree.proofs.Paths.{some_none, path_eq_itself, some_same, parent_is}
use Rattle.up_log_tree.proofs.Trees.{made_same, made_alike}
use Rattle.up_log_tree.proofs.Rooted.{IsRooted}
use Rattle.up_answers.proofs.RightLemmas.{any_from}
use Rattle.up_answers.proofs.AlikeLemmas.{AreAlike, turned_round, same_some, same_sight, same_rights, same_entry, ways_are, check_same, passed_some, behind_check, same_kind}
use Rattle.up_answers.proofs.ChangeLemmas.{held_alike}
use Rattle.up_answers.proofs.PutLemmas.{shown_sequence}

-- what is made of nodes that are shown alike
pub shown_alike : {Y : Type 0} (s t : Entry → Entry) (f g : Node → Option Y) (a b : Option Node) → option_map (λ (n : Node). s n.entry) a ≡ option_map (λ (n : Node). t n.entry) b → ((n m : Node) → s n.entry ≡ t m.entry → f n ≡ g m) → option_and_then f a ≡ option_and_then g b
shown_alike s t f g None None e h = refl
shown_alike s t f g None (Some m) e h = absurd (some_none (t m.entry) (sym e))
shown_alike s t f g (Some n) None e h = absurd (some_none (s n.entry) e)
shown_alike s t f g (Some n) (Some m) e h = h n m (some_same (s n.entry) (t m.entry) e)

-- nothing is made of either
pub nothing_made : {Y : Type 0} (f g : Node → Option Y) (a b : Option Node) → ((n : Node) → f n ≡ None) → ((n : Node) → g n ≡ None) → option_and_then f a ≡ option_and_then g b
nothing_made {Y = Y} f g a b h k = of f h a ∙ sym (of g k b)
  where
    of : (f : Node → Option Y) → ((n : Node) → f n ≡ None) → (a : Option Node) → option_and_then f a ≡ None
    of f h None = refl
    of f h (Some n) = h n

pub and_false : (a b : Bool) → a ≡ false → (a && b) ≡ false
and_false true b h = absurd (false≢true (sym h))
and_false false b h = refl

and_false_right : (a b : Bool) → b ≡ false → (a && b) ≡ false
and_false_right true b h = h
and_false_right false b h = refl

module _ (one two : Look) (alike : AreAlike one two) (sorted : T (is_sorted path_cmp one.tree)) (sorted' : T (is_sorted path_cmp two.tree)) where
  -- ---- the items of Watch

  pub items_same : (path : PathName) → items_under one path ≡ items_under two path
  unfolding items_under
  items_same path = ap (λ es. values_of es) (made_same (make one) (make two) one.tree two.tree sorted sorted' (λ q. go q (has_some one q) refl))
    where
      make : Look → PathName → Node → Option WatchEvent
      make look name node = if is_under name path && has_some look name then Some (record { position = node.entry.sequence; delete = false; entry = shown look node.entry }) else None

      hidden : (look : Look) (q : PathName) → has_some look q ≡ false → (n : Node) → make look q n ≡ None
      hidden look q none n = ap (λ b. if b then Some (record { position = n.entry.sequence; delete = false; entry = shown look n.entry }) else None) (and_false_right (is_under q path) (has_some look q) none)

      go : (q : PathName) (some : Bool) → has_some one q ≡ some → option_and_then (make one q) (node_at one.tree q) ≡ option_and_then (make two q) (node_at two.tree q)
      go q false none = nothing_made (make one q) (make two q) (node_at one.tree q) (node_at two.tree q) (hidden one q none) (hidden two q (sym (same_some one two alike q) ∙ none))
      go q true some = shown_alike (shown one) (shown two) (make one q) (make two q) (node_at one.tree q) (node_at two.tree q) (same_entry one two alike q some)
          (λ n m same.
          let sequence : n.entry.sequence ≡ m.entry.sequence = sym (shown_sequence one n.entry) ∙ (ap (λ (e : Entry). e.sequence) same ∙ shown_sequence two m.entry) in
          ap (λ b. if is_under q path && b then Some (record { position = n.entry.sequence; delete = false; entry = shown one n.entry }) else None) (same_some one two alike q)
          ∙ (ap (λ p. if is_under q path && has_some two q then Some (record { position = p; delete = false; entry = shown one n.entry }) else None) sequence
          ∙ ap (λ e. if is_under q path && has_some two q then Some (record { position = m.entry.sequence; delete = false; entry = e }) else None) same))

-- ---- children that are listed

children_there : {X : Type 0} (held : Bool) (x y : X) (a b : Option Node) → held ≡ true →
    where_held held (λ node. if is_directory (kind_of node) then Some x else None) a ≡ where_held held (λ node. if is_directory (kind_of node) then Some y else None) b →
    (n : Node) → a ≡ Some n → kind_of n ≡ Directory → x ≡ y
children_there {X = X} held x y a b h same n is directory = go b (sym first ∙ second)
  where
    first : option_and_then (λ (node : Node). if is_directory (kind_of node) then Some x else None) a ≡ Some x
    first = ap (option_and_then (λ (node : Node). if is_directory (kind_of node) then Some x else None)) is ∙ ap (λ k. if is_directory k then Some x else None) directory

    second : option_and_then (λ (node : Node). if is_directory (kind_of node) then Some x else None) a ≡ option_and_then (λ (node : Node). if is_directory (kind_of node) then Some y else None) b
    second = held_alike held _ _ a b h same

    by_kind : (k : Kind) → Some x ≡ (if is_directory k then Some y else None) → x ≡ y
    by_kind File e = absurd (some_none x e)
    by_kind Directory e = some_same x y e
    by_kind Link e = absurd (some_none x e)

    go : (b : Option Node) → Some x ≡ option_and_then (λ (node : Node). if is_directory (kind_of node) then Some y else None) b → x ≡ y
    go None e = absurd (some_none x e)
    go (Some m) e = by_kind (kind_of m) e

module _ (one two : Look) (alike : AreAlike one two) (sorted : T (is_sorted path_cmp one.tree)) (sorted' : T (is_sorted path_cmp two.tree)) where
  -- the shown children of a directory where list holds
  children_same : (dir : PathName) → (rights one dir).list ≡ true → HasDirectory one.tree dir → shown_children one dir ≡ shown_children two dir
  children_same dir held d =
      children_there (rights one dir).list _ _ (node_at one.tree dir) (node_at two.tree dir) held
      (ap (λ (v : View). v.children) (same_sight one two alike dir (any_from (rights one dir) right.List held))
      ∙ ap (λ b. where_held b (λ node. if is_directory (kind_of node) then Some (shown_children two dir) else None) (node_at two.tree dir)) (sym (ap (λ (r : Rights). r.list) (same_rights one two alike dir))))
      d.0 d.1 d.2

  child_of : (look : Look) (dir q : PathName) (a : Option Node) → parent_of q ≡ Some dir → option_and_then {U = Entry} (λ node. if is_parent dir q then Some (shown look node.entry) else None) a ≡ option_map (shown_node look) a
  unfolding is_parent
  child_of look dir q None is = refl
  child_of look dir q (Some n) is =
      ap (λ b. if b then Some (shown look n.entry) else None) (ap (λ o. elim o as (λ _. Bool) [ None ↦ false | Some parent ↦ path_eq parent dir ]) is ∙ path_eq_itself dir)

  -- what is shown of a child there
  from_children : (dir q : PathName) → parent_of q ≡ Some dir → shown_children one dir ≡ shown_children two dir → option_map (shown_node one) (node_at one.tree q) ≡ option_map (shown_node two) (node_at two.tree q)
  from_children dir q is same =
      sym (child_of one dir q (node_at one.tree q) is)
      ∙ (made_alike (λ p node. if is_parent dir p then Some (shown one node.entry) else None) (λ p node. if is_parent dir p then Some (shown two node.entry) else None) one.tree two.tree sorted sorted' same q
      ∙ child_of two dir q (node_at two.tree q) is)

module _ (one two : Look) (alike : AreAlike one two) (rooted : IsRooted one.owner one.tree) (rooted' : IsRooted two.owner two.tree) (sorted : T (is_sorted path_cmp one.tree)) (sorted' : T (is_sorted path_cmp two.tree)) where
  -- an item in a directory where list holds is shown alike
  pub listed_entry : (dir q : PathName) → parent_of q ≡ Some dir → (rights one dir).list ≡ true → option_map (shown_node one) (node_at one.tree q) ≡ option_map (shown_node two) (node_at two.tree q)
  listed_entry dir q is held = go (node_at one.tree q) refl (node_at two.tree q) refl
    where
      up : (owner : List ℕ) (tree : Tree) (r : IsRooted owner tree) (n : Node) → node_at tree q ≡ Some n → HasDirectory tree dir
      up owner tree r n there = subst (λ o. MatchOption o (q.owner ≡ owner) (HasDirectory tree)) is (r.placed q n there)

      go : (a : Option Node) → node_at one.tree q ≡ a → (b : Option Node) → node_at two.tree q ≡ b → option_map (shown_node one) (node_at one.tree q) ≡ option_map (shown_node two) (node_at two.tree q)
      go None p None r = ap (option_map (shown_node one)) p ∙ sym (ap (option_map (shown_node two)) r)
      go (Some n) p b r = from_children one two alike sorted sorted' dir q is (children_same one two alike sorted sorted' dir held (up one.owner one.tree rooted n p))
      go None p (Some m) r =
          sym (from_children two one (turned_round one two alike) sorted' sorted dir q is (children_same two one (turned_round one two alike) sorted' sorted dir (ap (λ (x : Rights). x.list) (sym (same_rights one two alike dir)) ∙ held) (up two.owner two.tree rooted' m r)))

-- ---- the rows of Glob

fits_within : (patterns : List (List Term)) (elements : List (List ℕ)) → matches_front patterns elements ≡ true → length elements ≤ length patterns
unfolding matches_front
fits_within patterns [] h = omega arith
fits_within [] (element ∷ elements) h = absurd (false≢true h)
fits_within (terms ∷ patterns) (element ∷ elements) h =
    let rest = fits_within patterns elements (and_parts (matches_name terms element) (matches_front patterns elements) h).1 in
    omega (arith, rest)

listed_last : (look : Look) (path : PathName) (n : ℕ) (passed : List (List Term)) → is_listed look path n passed ≡ true → ends_literal passed ≡ false → (rights look (cut (n + length passed - 1) path)).list ≡ true
unfolding is_listed
listed_last look path n [] h e = absurd (false≢true (sym e))
listed_last look path n (terms ∷ []) h e =
    let first = (and_parts (is_literal terms || (rights look (cut n path)).list) true h).0 in
    ap (λ k. (rights look (cut k path)).list) (let z : n + 1 - 1 ≡ n = omega arith in z)
    ∙ elim (or_cases (is_literal terms) ((rights look (cut n path)).list) first) [ inl literal ↦ absurd (false≢true (sym e ∙ literal)) | inr listed ↦ listed ]
listed_last look path n (terms ∷ more ∷ rest) h e =
    ap (λ k. (rights look (cut k path)).list) (let z : n + suc (length (more ∷ rest)) - 1 ≡ suc n + length (more ∷ rest) - 1 = omega arith in z)
    ∙ listed_last look path (suc n) (more ∷ rest) (and_parts (is_literal terms || (rights look (cut n path)).list) (is_listed look path (suc n) (more ∷ rest)) h).1 e

module _ (one two : Look) (alike : AreAlike one two) where
  listed_same : (path : PathName) (n : ℕ) (passed : List (List Term)) → is_listed one path n passed ≡ is_listed two path n passed
  unfolding is_listed
  listed_same path n [] = refl
  listed_same path n (terms ∷ rest) =
      ap (λ (r : Rights). (is_literal terms || r.list) && is_listed one path (suc n) rest) (same_rights one two alike (cut n path))
      ∙ ap (λ b. (is_literal terms || (rights two (cut n path)).list) && b) (listed_same path (suc n) rest)

  met_same : (pattern : PatternName) (path : PathName) → is_met one pattern path ≡ is_met two pattern path
  unfolding is_met
  met_same pattern path =
      let passed = take (length path.elements) pattern.elements in
      ap (λ b. is_candidate pattern path && (b && (not (ends_literal passed) || has_some one path))) (listed_same path 0 passed)
      ∙ ap (λ b. is_candidate pattern path && (is_listed two path 0 passed && (not (ends_literal passed) || b))) (same_some one two alike path)

-- An item that may be shown is seen itself, or, where the last element that it matches is not literal, is listed in its parent.
pub met_seen : (look : Look) (pattern : PatternName) (path : PathName) → is_met look pattern path ≡ true
    → (has_some look path ≡ true) ⊎ ((ends_literal (take (length path.elements) pattern.elements) ≡ false) × ((dir : PathName) × (parent_of path ≡ Some dir) × ((rights look dir).list ≡ true)))
unfolding is_met is_candidate
met_seen look pattern path h = go (ends_literal passed) refl (or_cases (not (ends_literal passed)) (has_some look path) parts.1)
  where
    passed : List (List Term)
    passed = take (length path.elements) pattern.elements

    outer : (is_candidate pattern path ≡ true) × ((is_listed look path 0 passed && (not (ends_literal passed) || has_some look path)) ≡ true)
    outer = and_parts (is_candidate pattern path) (is_listed look path 0 passed && (not (ends_literal passed) || has_some look path)) h

    parts : (is_listed look path 0 passed ≡ true) × ((not (ends_literal passed) || has_some look path) ≡ true)
    parts = and_parts (is_listed look path 0 passed) (not (ends_literal passed) || has_some look path) outer.1

    candidate : (nat_lt (length (literals pattern.elements)) (length path.elements) ≡ true) × (matches_front pattern.elements path.elements ≡ true)
    candidate = and_parts (nat_lt (length (literals pattern.elements)) (length path.elements)) (matches_front pattern.elements path.elements) outer.0

    some : length (literals pattern.elements) < length path.elements
    some = ltb-true (length (literals pattern.elements)) (length path.elements) candidate.0

    size : length passed ≡ length path.elements
    size = length-take-le (length path.elements) pattern.elements (fits_within pattern.elements path.elements candidate.1)

    listed : ends_literal passed ≡ false → (dir : PathName) × (parent_of path ≡ Some dir) × ((rights look dir).list ≡ true)
    listed e = (
      cut (length path.elements - 1) path,
      parent_is path (length path.elements - 1) (let z : length path.elements ≡ suc (length path.elements - 1) = omega (arith, some) in z),
      ap (λ k. (rights look (cut k path)).list) (let z : length path.elements - 1 ≡ 0 + length passed - 1 = omega (arith, size) in z) ∙ listed_last look path 0 passed parts.0 e,
    )

    go : (b : Bool) → ends_literal passed ≡ b → ((not (ends_literal passed) ≡ true) ⊎ (has_some look path ≡ true))
        → (has_some look path ≡ true) ⊎ ((ends_literal passed ≡ false) × ((dir : PathName) × (parent_of path ≡ Some dir) × ((rights look dir).list ≡ true)))
    go b e (inr seen) = inl seen
    go false e (inl open') = inr (e, listed e)
    go true e (inl open') = absurd (false≢true (ap not (sym e) ∙ open'))

module _ (one two : Look) (alike : AreAlike one two) (rooted : IsRooted one.owner one.tree) (rooted' : IsRooted two.owner two.tree) (sorted : T (is_sorted path_cmp one.tree)) (sorted' : T (is_sorted path_cmp two.tree)) where
  pub rows_same : (pattern : PatternName) → rows one pattern ≡ rows two pattern
  unfolding row_of
  rows_same pattern = ap (λ es. values_of es) (made_same (row_of one pattern) (row_of two pattern) one.tree two.tree sorted sorted' (λ q. go q (is_met one pattern q) refl))
    where
      unmet : (look : Look) (q : PathName) → is_met look pattern q ≡ false → (n : Node) → row_of look pattern q n ≡ None
      unmet look q none n = ap (λ b. if b then Some (record { entry = shown look n.entry; rest = length pattern.elements - length q.elements }) else None) (and_false (is_met look pattern q) (length q.elements == length pattern.elements || is_link (kind_of n)) none)

      entries : (q : PathName) → is_met one pattern q ≡ true → option_map (shown_node one) (node_at one.tree q) ≡ option_map (shown_node two) (node_at two.tree q)
      entries q met = elim (met_seen one pattern q met) [
        | inl some ↦ same_entry one two alike q some
        | inr listed ↦ let in' = listed.1 in listed_entry one two alike rooted rooted' sorted sorted' in'.0 q in'.1 in'.2
      ]

      go : (q : PathName) (met : Bool) → is_met one pattern q ≡ met → option_and_then (row_of one pattern q) (node_at one.tree q) ≡ option_and_then (row_of two pattern q) (node_at two.tree q)
      go q false none = nothing_made (row_of one pattern q) (row_of two pattern q) (node_at one.tree q) (node_at two.tree q) (unmet one q none) (unmet two q (sym (met_same one two alike pattern q) ∙ none))
      go q true met = shown_alike (shown one) (shown two) (row_of one pattern q) (row_of two pattern q) (node_at one.tree q) (node_at two.tree q) (entries q met)
          (λ n m same.
          let rest : ℕ = length pattern.elements - length q.elements in
          ap (λ b. if b && (length q.elements == length pattern.elements || is_link (kind_of n)) then Some (record { entry = shown one n.entry; rest = rest }) else None) (met_same one two alike pattern q)
          ∙ (ap (λ k. if is_met two pattern q && (length q.elements == length pattern.elements || is_link k) then Some (record { entry = shown one n.entry; rest = rest }) else None) (same_kind one two alike n m same)
          ∙ ap (λ e. if is_met two pattern q && (length q.elements == length pattern.elements || is_link (kind_of m)) then Some (record { entry = e; rest = rest }) else None) same))

  module _ (stranger : one.user ≡ one.owner → ⊥) (stranger' : two.user ≡ two.owner → ⊥) where
    pub glob_same : (pattern : PatternName) → glob_reply one pattern ≡ glob_reply two pattern
    unfolding glob_reply whole_reply
    glob_same pattern = go (is_whole pattern)
      where
        path : PathName
        path = literal_path pattern

        ones : (a b : Option Node) → option_map (shown_node one) a ≡ option_map (shown_node two) b → one_row one (option_map entry_of a) ≡ one_row two (option_map entry_of b)
        ones None None h = refl
        ones None (Some n) h = absurd (some_none (shown two n.entry) (sym h))
        ones (Some n) None h = absurd (some_none (shown one n.entry) h)
        ones (Some n) (Some m) h = ap (λ e. reply.Ok (done.Rows (record { entry = e; rest = 0 } ∷ []))) (some_same (shown one n.entry) (shown two m.entry) h)

        all : (a b : Option Node) → option_map (shown_node one) a ≡ option_map (shown_node two) b → rows_reply one pattern (option_map entry_of a) ≡ rows_reply two pattern (option_map entry_of b)
        all None None h = refl
        all None (Some n) h = absurd (some_none (shown two n.entry) (sym h))
        all (Some n) None h = absurd (some_none (shown one n.entry) h)
        all (Some n) (Some m) h =
            ap (λ k. if is_file k then reply.NotDir else reply.Ok (done.Rows (rows one pattern))) (same_kind one two alike n m (some_same (shown one n.entry) (shown two m.entry) h))
            ∙ ap (λ rs. if is_file (kind_of m) then reply.NotDir else reply.Ok (done.Rows rs)) (rows_same pattern)

        go : (whole : Bool) →
            (if whole then unwrap_or (check one (ways path) path None) (one_row one (entry_at one.tree path)) else unwrap_or (check one (ways path) path (Some right.List)) (rows_reply one pattern (entry_at one.tree path)))
            ≡ (if whole then unwrap_or (check two (ways path) path None) (one_row two (entry_at two.tree path)) else unwrap_or (check two (ways path) path (Some right.List)) (rows_reply two pattern (entry_at two.tree path)))
        go true =
            behind_check (check one (ways path) path None) (check two (ways path) path None) _ _
            (check_same one two alike rooted rooted' stranger stranger' (ways path) path (ways_are path) None)
            (λ passes. ones (node_at one.tree path) (node_at two.tree path) (same_entry one two alike path (passed_some one (ways path) path None passes)))
        go false =
            behind_check (check one (ways path) path (Some right.List)) (check two (ways path) path (Some right.List)) _ _
            (check_same one two alike rooted rooted' stranger stranger' (ways path) path (ways_are path) (Some right.List))
            (λ passes. all (node_at one.tree path) (node_at two.tree path) (same_entry one two alike path (passed_some one (ways path) path (Some right.List) passes)))
