-- Where a walk begins, and that what it finds at each path is the row there.
use Rattle.std.proofs.Common.{◌≡◌, ℕ, zero, suc, ◌-◌, ◌<◌, ◌≤◌, Bool, true, false, not, ◌&&◌, ◌||◌, List, [], ◌∷◌, length, take, refl, sym, ap, subst, ◌∙◌, arith, Option, Some, None}
use Rattle.std.specs.Prelude.{filter, if◌then◌else◌, nat_lt, ◌==◌, slice_index_or, is_some, MatchOption}
use Rattle.std.specs.List.{cons_option, filter_map}
use Rattle.std.specs.Option.{option_and_then, option_map, option_to_list}
use Rattle.std.proofs.lemmas.Bool.{and_from, and_parts, eq-eqb, eqb-true, false≢true, ltb-true}
use Rattle.std.proofs.lemmas.Slice.Eq.{bytes_eq-Decides}
use Rattle.up_names.specs.PathNames.{PathName, cut}
use Rattle.up_names.specs.PathOrder.{path_eq}
use Rattle.up_entry.specs.declared.entries.Entry.{Entry}
use Rattle.up_entry.specs.Rules.{is_directory}
use Rattle.up_pattern.specs.declared.terms.Term.{Term}
use Rattle.up_pattern.specs.Elements.{literal_of}
use Rattle.up_pattern.specs.Patterns.{PatternName}
use Rattle.up_rights.specs.RightSets.{has_any}
use Rattle.up_wire.specs.declared.replies.Row.{Row}
use Rattle.up_log_tree.specs.declared.node.Node.{Node}
use Rattle.up_log_tree.specs.Fits.{HasDirectory}
use Rattle.up_log_tree.specs.Trees.{Tree, is_link, kind_of, node_at}
use Rattle.up_log_tree.proofs.Paths.{length_cut, parent_is, parent_none, path_same, path_other}
use Rattle.up_list.specs.Entries.{entry_of}
use Rattle.up_list.specs.Globs.{ends_literal, is_candidate, is_listed, is_literal, is_met, literal_path, literals, matches_front, matches_name, row_of}
use Rattle.up_list.specs.Looks.{Look, has_some, rights, shown}
use Rattle.up_list.specs.Rooted.{IsRooted}
use Rattle.up_list.specs.Walking.{element_at, row_met}
use Rattle.up_list.proofs.DownLemmas.{is_on_way}
use Rattle.up_list.proofs.LiteralLemmas.{literal_match}
use Rattle.up_list.proofs.RowLemmas.{HasLevel, is_at, is_dir, row_here, way_short}

-- ---- the literal elements in front

pub literals_first : (terms : List Term) (rest : List (List Term)) (o : Option (List ℕ)) → literal_of terms ≡ o → literals (terms ∷ rest) ≡ (elim o as (λ _. List (List ℕ)) [ None ↦ [] | Some text ↦ text ∷ literals rest ])
literals_first terms rest o e = ap (λ o. elim o as (λ _. List (List ℕ)) [ None ↦ [] | Some text ↦ text ∷ literals rest ]) e

match_first : (terms : List Term) (rest : List (List Term)) (name : List ℕ) (names : List (List ℕ)) → matches_front (terms ∷ rest) (name ∷ names) ≡ (matches_name terms name && matches_front rest names)
unfolding matches_front
match_first terms rest name names = refl

match_none : (ts : List (List Term)) → matches_front ts [] ≡ true
unfolding matches_front
match_none ts = refl

match_more : (name : List ℕ) (names : List (List ℕ)) → matches_front [] (name ∷ names) ≡ false
unfolding matches_front
match_more name names = refl

-- they match
front_matches : (ts : List (List Term)) → matches_front ts (literals ts) ≡ true
front_matches [] = match_none []
front_matches (terms ∷ rest) = go (literal_of terms) refl (front_matches rest)
  where
    go : (o : Option (List ℕ)) → literal_of terms ≡ o → matches_front rest (literals rest) ≡ true → matches_front (terms ∷ rest) (literals (terms ∷ rest)) ≡ true
    go None e later = ap (matches_front (terms ∷ rest)) (literals_first terms rest None e) ∙ match_none (terms ∷ rest)
    go (Some text) e later =
        ap (matches_front (terms ∷ rest)) (literals_first terms rest (Some text) e)
        ∙ (match_first terms rest text (literals rest)
        ∙ and_from (matches_name terms text) (matches_front rest (literals rest)) (literal_match terms text text e ∙ (bytes_eq-Decides text text).1 refl) later)

-- no other elements of that number do
front_alone : (ts : List (List Term)) (names : List (List ℕ)) → matches_front ts names ≡ true → length names ≡ length (literals ts) → names ≡ literals ts
front_alone ts [] h size = none (literals ts) size
  where
    none : (xs : List (List ℕ)) → 0 ≡ length xs → [] ≡ xs
    none [] size = refl
    none (x ∷ xs) size = absurd (omega (arith, size))
front_alone [] (name ∷ names) h size = absurd (false≢true (sym (match_more name names) ∙ h))
front_alone (terms ∷ rest) (name ∷ names) h size = go (literal_of terms) refl (λ matched shorter. front_alone rest names matched shorter)
  where
    both : (matches_name terms name ≡ true) × (matches_front rest names ≡ true)
    both = and_parts (matches_name terms name) (matches_front rest names) (sym (match_first terms rest name names) ∙ h)

    go : (o : Option (List ℕ)) → literal_of terms ≡ o → (matches_front rest names ≡ true → length names ≡ length (literals rest) → names ≡ literals rest) → name ∷ names ≡ literals (terms ∷ rest)
    go None e later = absurd (let z : suc (length names) ≡ 0 = size ∙ ap length (literals_first terms rest None e) in omega (arith, z))
    go (Some text) e later =
        let same : name ≡ text = (bytes_eq-Decides name text).0 (sym (literal_match terms text name e) ∙ both.0) in
        let left : suc (length names) ≡ suc (length (literals rest)) = size ∙ ap length (literals_first terms rest (Some text) e) in
        ap (λ n. n ∷ names) same ∙ (ap (λ ns. text ∷ ns) (later both.1 (omega (arith, left))) ∙ sym (literals_first terms rest (Some text) e))

-- there are no more of them than elements
pub literals_short : (ts : List (List Term)) → length (literals ts) ≤ length ts
literals_short [] = omega arith
literals_short (terms ∷ rest) = go (literal_of terms) refl (literals_short rest)
  where
    go : (o : Option (List ℕ)) → literal_of terms ≡ o → length (literals rest) ≤ length rest → length (literals (terms ∷ rest)) ≤ suc (length rest)
    go None e later = let none : length (literals (terms ∷ rest)) ≡ 0 = ap length (literals_first terms rest None e) in omega (arith, none)
    go (Some text) e later = let more : length (literals (terms ∷ rest)) ≡ suc (length (literals rest)) = ap length (literals_first terms rest (Some text) e) in omega (arith, more, later)

-- before them no list is needed
listed_first : (look : Look) (p : PathName) (n : ℕ) (terms : List Term) (rest : List (List Term)) → is_listed look p n (terms ∷ rest) ≡ ((is_literal terms || (rights look (cut n p)).list) && is_listed look p (suc n) rest)
unfolding is_listed
listed_first look p n terms rest = refl

listed_none : (look : Look) (p : PathName) (n : ℕ) → is_listed look p n [] ≡ true
unfolding is_listed
listed_none look p n = refl

front_listed : (look : Look) (p : PathName) (n : ℕ) (ts : List (List Term)) → is_listed look p n (take (length (literals ts)) ts) ≡ true
front_listed look p n [] = listed_none look p n
front_listed look p n (terms ∷ rest) = go (literal_of terms) refl (front_listed look p (suc n) rest)
  where
    go : (o : Option (List ℕ)) → literal_of terms ≡ o → is_listed look p (suc n) (take (length (literals rest)) rest) ≡ true → is_listed look p n (take (length (literals (terms ∷ rest))) (terms ∷ rest)) ≡ true
    go None e later = ap (λ l. is_listed look p n (take (length l) (terms ∷ rest))) (literals_first terms rest None e) ∙ listed_none look p n
    go (Some text) e later =
        ap (λ l. is_listed look p n (take (length l) (terms ∷ rest))) (literals_first terms rest (Some text) e)
        ∙ (listed_first look p n terms (take (length (literals rest)) rest)
        ∙ (ap (λ (o : Option (List ℕ)). (is_some o || (rights look (cut n p)).list) && is_listed look p (suc n) (take (length (literals rest)) rest)) e
        ∙ later))

front_on_way : (look : Look) (pattern : PatternName) → is_on_way look pattern (literal_path pattern) ≡ true
unfolding literal_path
front_on_way look pattern =
    and_from (matches_front pattern.elements (literals pattern.elements)) (is_listed look (literal_path pattern) 0 (take (length (literals pattern.elements)) pattern.elements))
    (front_matches pattern.elements) (front_listed look (literal_path pattern) 0 pattern.elements)

pub front_elements : (pattern : PatternName) → (literal_path pattern).elements ≡ literals pattern.elements
unfolding literal_path
front_elements pattern = refl

pub front_owner : (pattern : PatternName) → (literal_path pattern).owner ≡ pattern.owner
unfolding literal_path
front_owner pattern = refl

-- ---- the owner of what stands in a tree

owner_by : (owner : List ℕ) (tree : Tree) → IsRooted owner tree → (n : ℕ) (q : PathName) (node : Node) → length q.elements ≡ n → node_at tree q ≡ Some node → q.owner ≡ owner
owner_by owner tree rooted zero q node size there =
    subst (λ o. MatchOption o (q.owner ≡ owner) (HasDirectory tree)) (parent_none q size) (rooted.placed q node there)
owner_by owner tree rooted (suc n) q node size there =
    let dir : HasDirectory tree (cut n q) = subst (λ o. MatchOption o (q.owner ≡ owner) (HasDirectory tree)) (parent_is q n size) (rooted.placed q node there) in
    owner_by owner tree rooted n (cut n q) dir.0 (length_cut n q (omega arith)) dir.1

pub owner_of : (owner : List ℕ) (tree : Tree) → IsRooted owner tree → (q : PathName) (node : Node) → node_at tree q ≡ Some node → q.owner ≡ owner
owner_of owner tree rooted q node there = owner_by owner tree rooted (length q.elements) q node refl there

pub same_path : (p q : PathName) → p.owner ≡ q.owner → p.elements ≡ q.elements → p ≡ q
same_path p q owners elements = ap (λ o. record { owner = o; elements = p.elements }) owners ∙ ap (λ es. record { owner = q.owner; elements = es }) elements

module _ (look : Look) (pattern : PatternName) (rooted : IsRooted look.owner look.tree) where
  -- ---- the first level

  -- The path of the literal elements in front is the one directory on the way with so many elements.
  pub front_level : pattern.owner ≡ look.owner → is_dir look pattern rooted (literal_path pattern) ≡ true → HasLevel look pattern rooted (length (literal_path pattern).elements) (literal_path pattern ∷ [])
  front_level owned dir q = go (path_eq q (literal_path pattern)) refl
    where
      m : ℕ
      m = length (literal_path pattern).elements

      here : is_at look pattern rooted m (literal_path pattern) ≡ true
      here = and_from (m == m) (is_on_way look pattern (literal_path pattern) && is_dir look pattern rooted (literal_path pattern)) (eq-eqb m m refl)
          (and_from (is_on_way look pattern (literal_path pattern)) (is_dir look pattern rooted (literal_path pattern)) (front_on_way look pattern) dir)

      only : is_at look pattern rooted m q ≡ true → q ≡ literal_path pattern
      only h =
          let parts = and_parts (length q.elements == m) (is_on_way look pattern q && is_dir look pattern rooted q) h in
          let more = and_parts (is_on_way look pattern q) (is_dir look pattern rooted q) parts.1 in
          let matched = (and_parts (matches_front pattern.elements q.elements) (is_listed look q 0 (take (length q.elements) pattern.elements)) more.0).0 in
          let size : length q.elements ≡ length (literals pattern.elements) = eqb-true (length q.elements) m parts.0 ∙ ap length (front_elements pattern) in
          same_path q (literal_path pattern) (stood (node_at look.tree q) refl more.1 ∙ sym (front_owner pattern ∙ owned)) (front_alone pattern.elements q.elements matched size ∙ sym (front_elements pattern))
        where
          stood : (o : Option Node) → node_at look.tree q ≡ o → is_dir look pattern rooted q ≡ true → q.owner ≡ look.owner
          stood None e d = absurd (false≢true (sym (ap (λ o. elim (option_map entry_of o) as (λ _. Bool) [ None ↦ false | Some entry ↦ is_directory entry.attr.kind ]) e) ∙ d))
          stood (Some node) e d = owner_of look.owner look.tree rooted q node e

      none : (b : Bool) → is_at look pattern rooted m q ≡ b → path_eq q (literal_path pattern) ≡ false → [] ≡ (if b then q ∷ [] else [])
      none true e f = absurd (path_other q (literal_path pattern) f (only e))
      none false e f = refl

      go : (b : Bool) → path_eq q (literal_path pattern) ≡ b → filter (path_eq q) (literal_path pattern ∷ []) ≡ (if is_at look pattern rooted m q then q ∷ [] else [])
      go true e =
          let same : q ≡ literal_path pattern = path_same q (literal_path pattern) e in
          ap (λ b. if b then literal_path pattern ∷ [] else []) e
          ∙ sym (ap (λ (p : PathName). if is_at look pattern rooted m p then p ∷ [] else []) same ∙ ap (λ b. if b then literal_path pattern ∷ [] else []) here)
      go false e = ap (λ b. if b then literal_path pattern ∷ [] else []) e ∙ (none (is_at look pattern rooted m q) refl e)

-- ---- the row at a path

ends_at : (n : ℕ) (ts : List (List Term)) → n < length ts → ends_literal (take (suc n) ts) ≡ is_literal (slice_index_or ts n [])
ends_at n [] low = absurd (omega (arith, low))
ends_at zero (terms ∷ rest) low = refl
ends_at (suc n) (terms ∷ []) low = absurd (omega (arith, low))
ends_at (suc n) (terms ∷ more ∷ rest) low = ends_at n (more ∷ rest) (omega (arith, low))

pub row_is : (look : Look) (pattern : PatternName) (q : PathName) (node : Node) → row_of look pattern q node
    ≡ (if ((nat_lt (length (literals pattern.elements)) (length q.elements) && matches_front pattern.elements q.elements)
    && (is_listed look q 0 (take (length q.elements) pattern.elements) && (not (ends_literal (take (length q.elements) pattern.elements)) || has_some look q)))
    && (length q.elements == length pattern.elements || is_link (kind_of node))
    then Some (record { entry = shown look node.entry; rest = length pattern.elements - length q.elements }) else None)
unfolding row_of is_met is_candidate
row_is look pattern q node = refl

row_table : (f : Entry → Option Row) (entry : Entry) (mf ls e a h : Bool) (x : Row) → f entry ≡ (if h then (if not e || a then Some x else None) else None) →
    filter_map f (if mf && ls then entry ∷ [] else []) ≡ option_to_list (if ((true && mf) && (ls && (not e || a))) && h then Some x else None)
row_table f entry true true e a h x is = ap (λ o. cons_option o []) is ∙ table (not e || a) h
  where
    table : (b h : Bool) → cons_option (if h then (if b then Some x else None) else None) [] ≡ option_to_list (if b && h then Some x else None)
    table true true = refl
    table true false = refl
    table false true = refl
    table false false = refl
row_table f entry true false e a h x is = refl
row_table f entry false ls e a h x is = refl

none_made : (f : Entry → Option Row) (b : Bool) → filter_map f (if b then [] else []) ≡ []
none_made f true = refl
none_made f false = refl

module _ (look : Look) (pattern : PatternName) (rooted : IsRooted look.owner look.tree) where
  abbrev j_of : PathName → ℕ
  j_of q = length q.elements

  row_stood : (q : PathName) (node : Node) (n : ℕ) → length q.elements ≡ suc n → node_at look.tree q ≡ Some node → length q.elements ≤ length pattern.elements →
      row_met look pattern n node.entry ≡ (if length q.elements == length pattern.elements || is_link (kind_of node) then
      (if not (ends_literal (take (length q.elements) pattern.elements)) || has_some look q then Some (record { entry = shown look node.entry; rest = length pattern.elements - length q.elements }) else None) else None)
  row_stood q node n size there short =
      ap (λ (p : PathName). if suc n == length pattern.elements || is_link (kind_of node) then (if not (is_literal (element_at pattern n)) || has_any (rights look p) then Some (record { entry = shown look node.entry; rest = length pattern.elements - suc n }) else None) else None) (rooted.named q node there)
      ∙ (ap (λ b. if suc n == length pattern.elements || is_link (kind_of node) then (if not b || has_any (rights look q) then Some (record { entry = shown look node.entry; rest = length pattern.elements - suc n }) else None) else None) (sym (ends_at n pattern.elements (omega arith)))
      ∙ ap (λ k. if k == length pattern.elements || is_link (kind_of node) then (if not (ends_literal (take k pattern.elements)) || has_any (rights look q) then Some (record { entry = shown look node.entry; rest = length pattern.elements - k }) else None) else None) (sym size))

  -- what the walk finds at a path is the row of what stands there
  pub row_found : (q : PathName) →
      (if nat_lt (length (literal_path pattern).elements) (length q.elements) then row_here look pattern rooted q else []) ≡ option_to_list (option_and_then (row_of look pattern q) (node_at look.tree q))
  row_found q = ap (λ n. if nat_lt n (length q.elements) then row_here look pattern rooted q else []) (ap length (front_elements pattern)) ∙ by (node_at look.tree q) refl
    where
      long : Bool
      long = nat_lt (length (literals pattern.elements)) (length q.elements)

      on : Bool
      on = is_on_way look pattern q

      fs : Entry → Option Row
      fs = row_met look pattern (length q.elements - 1)

      nothing : (b : Bool) → (if b then filter_map fs (if on then [] else []) else []) ≡ []
      nothing true = none_made fs on
      nothing false = refl

      short_row : (node : Node) → long ≡ false → row_of look pattern q node ≡ None
      short_row node e =
          row_is look pattern q node
          ∙ ap (λ b. if ((b && matches_front pattern.elements q.elements)
          && (is_listed look q 0 (take (length q.elements) pattern.elements) && (not (ends_literal (take (length q.elements) pattern.elements)) || has_some look q)))
          && (length q.elements == length pattern.elements || is_link (kind_of node))
          then Some (record { entry = shown look node.entry; rest = length pattern.elements - length q.elements }) else None) e

      long_row : (node : Node) → long ≡ true → row_of look pattern q node ≡ (if ((true && matches_front pattern.elements q.elements)
          && (is_listed look q 0 (take (length q.elements) pattern.elements) && (not (ends_literal (take (length q.elements) pattern.elements)) || has_some look q)))
          && (length q.elements == length pattern.elements || is_link (kind_of node))
          then Some (record { entry = shown look node.entry; rest = length pattern.elements - length q.elements }) else None)
      long_row node e =
          row_is look pattern q node
          ∙ ap (λ b. if ((b && matches_front pattern.elements q.elements)
          && (is_listed look q 0 (take (length q.elements) pattern.elements) && (not (ends_literal (take (length q.elements) pattern.elements)) || has_some look q)))
          && (length q.elements == length pattern.elements || is_link (kind_of node))
          then Some (record { entry = shown look node.entry; rest = length pattern.elements - length q.elements }) else None) e

      stood : (node : Node) → node_at look.tree q ≡ Some node → long ≡ true → (w : Bool) → on ≡ w →
          filter_map fs (if on then node.entry ∷ [] else []) ≡ option_to_list (row_of look pattern q node)
      stood node there e false off =
          ap (λ w. filter_map fs (if w then node.entry ∷ [] else [])) off
          ∙ sym (ap option_to_list (long_row node e) ∙ away (matches_front pattern.elements q.elements) (is_listed look q 0 (take (length q.elements) pattern.elements)) off)
        where
          x : Row
          x = record { entry = shown look node.entry; rest = length pattern.elements - length q.elements }

          away : (mf ls : Bool) → (mf && ls) ≡ false → option_to_list (if ((true && mf) && (ls && (not (ends_literal (take (length q.elements) pattern.elements)) || has_some look q))) && (length q.elements == length pattern.elements || is_link (kind_of node)) then Some x else None) ≡ []
          away true true h = absurd (false≢true (sym h))
          away true false h = refl
          away false ls h = refl
      stood node there e true h =
          row_table fs node.entry (matches_front pattern.elements q.elements) (is_listed look q 0 (take (length q.elements) pattern.elements))
          (ends_literal (take (length q.elements) pattern.elements)) (has_some look q) (length q.elements == length pattern.elements || is_link (kind_of node))
          (record { entry = shown look node.entry; rest = length pattern.elements - length q.elements })
          (row_stood q node (length q.elements - 1) (omega (arith, ltb-true (length (literals pattern.elements)) (length q.elements) e)) there (way_short look pattern q h))
          ∙ sym (ap option_to_list (long_row node e))

      by : (o : Option Node) → node_at look.tree q ≡ o → (if long then row_here look pattern rooted q else []) ≡ option_to_list (option_and_then (row_of look pattern q) (node_at look.tree q))
      by None there =
          ap (λ o. if long then filter_map fs (if on then option_to_list (option_map entry_of o) else []) else []) there
          ∙ (nothing long ∙ sym (ap (λ o. option_to_list (option_and_then (row_of look pattern q) o)) there))
      by (Some node) there =
          ap (λ o. if long then filter_map fs (if on then option_to_list (option_map entry_of o) else []) else []) there
          ∙ (both long refl ∙ sym (ap (λ o. option_to_list (option_and_then (row_of look pattern q) o)) there))
        where
          both : (b : Bool) → long ≡ b → (if long then filter_map fs (if on then node.entry ∷ [] else []) else []) ≡ option_to_list (row_of look pattern q node)
          both true e = ap (λ b. if b then filter_map fs (if on then node.entry ∷ [] else []) else []) e ∙ stood node there e on refl
          both false e = ap (λ b. if b then filter_map fs (if on then node.entry ∷ [] else []) else []) e ∙ sym (ap option_to_list (short_row node e))
