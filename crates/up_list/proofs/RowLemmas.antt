-- What a walk finds are the rows: at each path it finds what stands there, once, where that is a row.
use Rattle.std.proofs.Common.{◌≡◌, ◌≢◌, ℕ, zero, suc, ◌+◌, ◌-◌, ◌<◌, ◌≤◌, Bool, true, false, not, ◌&&◌, ◌||◌, List, [], ◌∷◌, ◌++◌, length, map, take, refl, sym, ap, subst, ◌∙◌, arith, Option, Some, None}
use Rattle.std.specs.Prelude.{filter, if◌then◌else◌, nat_lt, ◌==◌, slice_get, slice_index_or, unwrap_or, MatchOption}
use Rattle.std.specs.List.{filter_map, flat_map}
use Rattle.std.specs.Option.{option_map, option_to_list}
use Rattle.std.proofs.lemmas.Bool.{and_parts, eq-eqb, eqb-true, false≢true, lt-ltb, ltb-false, ltb-true}
use Rattle.std.proofs.lemmas.List.{append-nil}
use Rattle.std.proofs.lemmas.List.Elements.{filter-append}
use Rattle.up_names.specs.PathNames.{PathName, cut, extended, parent_of}
use Rattle.up_names.specs.PathOrder.{path_eq}
use Rattle.up_entry.specs.declared.entries.Entry.{Entry}
use Rattle.up_entry.specs.Rules.{is_directory}
use Rattle.up_pattern.specs.declared.terms.Term.{Term}
use Rattle.up_pattern.specs.Patterns.{PatternName}
use Rattle.up_entry.specs.Showing.{shown_as}
use Rattle.up_rights.specs.RightSets.{has_any}
use Rattle.up_wire.specs.declared.replies.Row.{Row}
use Rattle.up_log_tree.specs.declared.node.Node.{Node}
use Rattle.up_log_tree.specs.Trees.{node_at, is_parent}
use Rattle.up_log_tree.specs.Fits.{HasDirectory}
use Rattle.up_log_tree.specs.Trees.{last_element}
use Rattle.up_log_tree.proofs.Paths.{extended_last, is_parent-none, is_parent-some, length_cut, parent_is, parent_none, parent_passes, some_none, some_same}
use Rattle.up_list.specs.Entries.{entry_of, entry_at, entries_in}
use Rattle.up_list.specs.Globs.{is_literal, is_listed, matches_front, matches_name}
use Rattle.up_list.specs.Looks.{Look, rights}
use Rattle.up_list.specs.Rooted.{IsRooted}
use Rattle.up_list.specs.Walking.{element_at, further, goes_on, has_row, is_match, met_from, met_in, row_met, walked}
use Rattle.up_list.proofs.ChildLemmas.{one_entry}
use Rattle.up_list.proofs.DownLemmas.{glob_goes_down, is_on_way}
use Rattle.up_list.proofs.PatternLemmas.{here}
use Rattle.up_list.proofs.PickLemmas.{filter_joined, filter_of_made, filter_of_map, filter_turned, joined_at}

and_again : (a b c : Bool) → ((a && b) && c) ≡ (a && (b && c))
and_again true b c = refl
and_again false b c = refl

eqb_false : (a b : ℕ) → (a ≡ b → ⊥) → (a == b) ≡ false
eqb_false a b h = go (a == b) refl
  where
    go : (c : Bool) → (a == b) ≡ c → (a == b) ≡ false
    go true e = absurd (h (eqb-true a b e))
    go false e = e

no_item : (b : Bool) → filter {X = Entry} (λ e. b) [] ≡ (if b then [] else [])
no_item true = refl
no_item false = refl

eqb_next : (a b : ℕ) → (suc a == suc b) ≡ (a == b)
eqb_next a b = go (a == b) refl
  where
    go : (c : Bool) → (a == b) ≡ c → (suc a == suc b) ≡ (a == b)
    go true e = eq-eqb (suc a) (suc b) (ap suc (eqb-true a b e)) ∙ sym e
    go false e = eqb_false (suc a) (suc b) (λ same. false≢true (sym e ∙ eq-eqb a b (omega (arith, same)))) ∙ sym e

last_is : {X : Type 0} (xs : List (List X)) → 0 < length xs → unwrap_or (slice_get xs (length xs - 1)) [] ≡ slice_index_or xs (length xs - 1) []
last_is xs h = ap (λ o. unwrap_or o []) (here xs (length xs - 1) [] (omega arith))

front_short : (patterns : List (List Term)) (elements : List (List ℕ)) → matches_front patterns elements ≡ true → length elements ≤ length patterns
unfolding matches_front
front_short patterns [] h = omega arith
front_short [] (element ∷ elements) h = absurd (false≢true h)
front_short (terms ∷ patterns) (element ∷ elements) h = let rest = front_short patterns elements (and_parts (matches_name terms element) (matches_front patterns elements) h).1 in omega (arith, rest)

-- a path on the way has no more elements than the pattern
pub way_short : (look : Look) (pattern : PatternName) (q : PathName) → is_on_way look pattern q ≡ true → length q.elements ≤ length pattern.elements
way_short look pattern q h = front_short pattern.elements q.elements (and_parts (matches_front pattern.elements q.elements) (is_listed look q 0 (take (length q.elements) pattern.elements)) h).0

shown_name : (b : Bool) (e : Entry) → (shown_as b e).name ≡ e.name
shown_name true e = refl
shown_name false e = refl

module _ (look : Look) (pattern : PatternName) (rooted : IsRooted look.owner look.tree) where
  -- a directory stands at a path
  abbrev pub is_dir : PathName → Bool
  is_dir q = elim (entry_at look.tree q) [ None ↦ false | Some entry ↦ is_directory entry.attr.kind ]

  -- a directory on the way, with so many elements
  abbrev pub is_at : ℕ → PathName → Bool
  is_at at q = (length q.elements == at) && (is_on_way look pattern q && is_dir q)

  -- these are the directories on the way with so many elements, each once
  abbrev pub HasLevel : ℕ → List PathName → Type 0
  HasLevel at dirs = (q : PathName) → filter (path_eq q) dirs ≡ (if is_at at q then q ∷ [] else [])

  -- an item on the way with so many elements
  abbrev stands_at : ℕ → PathName → List Entry
  stands_at at q = if (length q.elements == at) && is_on_way look pattern q then option_to_list (entry_at look.tree q) else []

  -- ---- what is met in one directory

  none_met : (at : ℕ) (q d : PathName) → is_parent d q ≡ false → filter (λ (e : Entry). path_eq q e.name) (met_in look pattern at d) ≡ []
  none_met at q d h = go (is_literal (element_at pattern at) || (rights look d).list)
    where
      filter_nil : {X : Type 0} (p : X → Bool) → filter p [] ≡ []
      filter_nil p = refl

      go : (b : Bool) → filter (λ (e : Entry). path_eq q e.name) (if b then filter (is_match pattern at) (entries_in look.tree d) else []) ≡ []
      go true =
          filter_turned (λ (e : Entry). path_eq q e.name) (is_match pattern at) (entries_in look.tree d)
          ∙ ap (filter (is_match pattern at)) (one_entry look.owner look.tree rooted d q ∙ ap (λ b. if b then option_to_list (entry_at look.tree q) else []) h)
      go false = refl

  is_met_in : ℕ → PathName → PathName → Bool
  is_met_in at d q = (is_literal (element_at pattern at) || (rights look d).list) && matches_name (element_at pattern at) (slice_index_or q.elements at [])

  one_met : (at : ℕ) (q d : PathName) → is_parent d q ≡ true →
      filter (λ (e : Entry). path_eq q e.name) (met_in look pattern at d) ≡ (if (is_literal (element_at pattern at) || (rights look d).list) && matches_name (element_at pattern at) (slice_index_or q.elements at []) then option_to_list (entry_at look.tree q) else [])
  one_met at q d h = go (is_literal (element_at pattern at) || (rights look d).list)
    where
      matched : (o : Option Node) → node_at look.tree q ≡ o →
          filter (is_match pattern at) (option_to_list (option_map entry_of o)) ≡ (if matches_name (element_at pattern at) (slice_index_or q.elements at []) then option_to_list (option_map entry_of o) else [])
      matched None e = no_item (matches_name (element_at pattern at) (slice_index_or q.elements at []))
      matched (Some node) e =
          ap (λ (p : PathName). if matches_name (element_at pattern at) (slice_index_or p.elements at []) then node.entry ∷ [] else []) (rooted.named q node e)

      go : (b : Bool) → filter (λ (e : Entry). path_eq q e.name) (if b then filter (is_match pattern at) (entries_in look.tree d) else [])
          ≡ (if b && matches_name (element_at pattern at) (slice_index_or q.elements at []) then option_to_list (entry_at look.tree q) else [])
      go true =
          filter_turned (λ (e : Entry). path_eq q e.name) (is_match pattern at) (entries_in look.tree d)
          ∙ (ap (filter (is_match pattern at)) (one_entry look.owner look.tree rooted d q ∙ ap (λ b. if b then option_to_list (entry_at look.tree q) else []) h)
          ∙ matched (node_at look.tree q) refl)
      go false = refl

  -- ---- what is met from a level

  -- above an item stands a directory
  dir_above : (q p : PathName) (node : Node) → parent_of q ≡ Some p → node_at look.tree q ≡ Some node → is_dir p ≡ true
  dir_above q p node parent there = go (parent_of q) parent (rooted.placed q node there)
    where
      is : (dir : HasDirectory look.tree p) → is_dir p ≡ true
      is dir = ap (λ o. elim (option_map entry_of o) as (λ _. Bool) [ None ↦ false | Some entry ↦ is_directory entry.attr.kind ]) dir.1 ∙ ap is_directory dir.2

      go : (o : Option PathName) → o ≡ Some p → MatchOption o (q.owner ≡ look.owner) (HasDirectory look.tree) → is_dir p ≡ true
      go None e place = absurd (some_none p (sym e))
      go (Some x) e place = is (subst (HasDirectory look.tree) (some_same x p e) place)

  none_joined : (g : PathName → List Entry) → ((d : PathName) → g d ≡ []) → (dirs : List PathName) → flat_map g dirs ≡ []
  none_joined g none [] = refl
  none_joined g none (d ∷ dirs) = ap (λ es. es ++ flat_map g dirs) (none d) ∙ none_joined g none dirs

  -- an item in a directory that is on the way, or none
  level_one : (at : ℕ) (g : PathName → List Entry) (p q : PathName) (a w d l m : Bool) (o : Option Entry) → (o ≢ None → d ≡ true) →
      g p ≡ (if l && m then option_to_list o else []) → flat_map g (if a && (w && d) then p ∷ [] else []) ≡ (if a && (w && (m && l)) then option_to_list o else [])
  level_one at g p q false w d l m o dir is = refl
  level_one at g p q true false d l m o dir is = refl
  level_one at g p q true true d l m None dir is = both d (l && m) (m && l) is
    where
      both : (d b c : Bool) → g p ≡ (if b then [] else []) → flat_map g (if d then p ∷ [] else []) ≡ (if c then [] else [])
      both true true true is = append-nil (g p) ∙ is
      both true true false is = append-nil (g p) ∙ is
      both true false true is = append-nil (g p) ∙ is
      both true false false is = append-nil (g p) ∙ is
      both false b true is = refl
      both false b false is = refl
  level_one at g p q true true d l m (Some e) dir is =
      ap (λ b. flat_map g (if b then p ∷ [] else [])) (dir (λ none. some_none e none))
      ∙ (append-nil (g p) ∙ (is ∙ turned l m))
    where
      turned : (l m : Bool) → (if l && m then e ∷ [] else []) ≡ (if m && l then e ∷ [] else [])
      turned true true = refl
      turned true false = refl
      turned false true = refl
      turned false false = refl

  -- what is met at a path from a level is what stands there, where it is on the way
  pub met_at : (at : ℕ) (dirs : List PathName) → at < length pattern.elements → HasLevel at dirs →
      (q : PathName) → filter (λ (e : Entry). path_eq q e.name) (met_from look pattern at dirs) ≡ stands_at (suc at) q
  met_at at dirs low level q = filter_joined (λ (e : Entry). path_eq q e.name) (met_in look pattern at) dirs ∙ by (length q.elements) refl
    where
      g : PathName → List Entry
      g d = filter (λ (e : Entry). path_eq q e.name) (met_in look pattern at d)

      below : (n : ℕ) (p : PathName) → length q.elements ≡ suc n → p ≡ cut n q → flat_map (λ d. filter (λ (e : Entry). path_eq q e.name) (met_in look pattern at d)) dirs ≡ stands_at (suc at) q
      below n p size is =
          joined_at p (λ d. filter (λ (e : Entry). path_eq q e.name) (met_in look pattern at d)) (λ d h. none_met at q d (is_parent-some d q p parent ∙ h)) dirs
          ∙ (ap (flat_map (λ d. filter (λ (e : Entry). path_eq q e.name) (met_in look pattern at d))) (level p)
          ∙ (level_one at (λ d. filter (λ (e : Entry). path_eq q e.name) (met_in look pattern at d)) p q (length p.elements == at) (is_on_way look pattern p) (is_dir p) listed matched (entry_at look.tree q) dir (one_met at q p (parent_passes p q parent))
          ∙ sym (ap (λ b. if b then option_to_list (entry_at look.tree q) else []) (tested (n == at) refl))))
        where
          parent : parent_of q ≡ Some p
          parent = parent_is q n size ∙ ap Some (sym is)

          short : length p.elements ≡ n
          short = ap (λ (p : PathName). length p.elements) is ∙ length_cut n q (omega arith)

          listed : Bool
          listed = is_literal (element_at pattern at) || (rights look p).list

          matched : Bool
          matched = matches_name (element_at pattern at) (slice_index_or q.elements at [])

          named : q ≡ extended p (last_element q)
          named = extended_last q p parent

          dir : entry_at look.tree q ≢ None → is_dir p ≡ true
          dir some = stood (node_at look.tree q) refl
            where
              stood : (o : Option Node) → node_at look.tree q ≡ o → is_dir p ≡ true
              stood None e = absurd (some (ap (option_map entry_of) e))
              stood (Some node) e = dir_above q p node parent e

          last : n ≡ at → slice_index_or q.elements at [] ≡ last_element q
          last e = ap (λ k. slice_index_or q.elements k []) (let f : at ≡ length q.elements - 1 = omega arith in f) ∙ sym (last_is q.elements (omega arith))

          tested : (b : Bool) → (n == at) ≡ b → ((length q.elements == suc at) && is_on_way look pattern q) ≡ ((length p.elements == at) && (is_on_way look pattern p && (matched && listed)))
          tested false e = ap (λ l. (l == suc at) && is_on_way look pattern q) size ∙ (ap (λ b. b && is_on_way look pattern q) (eqb_next n at ∙ e) ∙ sym (ap (λ l. (l == at) && (is_on_way look pattern p && (matched && listed))) short ∙ ap (λ b. b && (is_on_way look pattern p && (matched && listed))) e))
          tested true e =
              ap (λ l. (l == suc at) && is_on_way look pattern q) size ∙ (ap (λ b. b && is_on_way look pattern q) (eqb_next n at ∙ e)
              ∙ (ap (is_on_way look pattern) named
              ∙ (glob_goes_down look pattern p (last_element q) (element_at pattern at) (ap (slice_get pattern.elements) (short ∙ eqb-true n at e) ∙ here pattern.elements at [] low)
              ∙ (ap (λ (name : List ℕ). is_on_way look pattern p && (matches_name (element_at pattern at) name && listed)) (sym (last (eqb-true n at e)))
              ∙ sym (ap (λ l. (l == at) && (is_on_way look pattern p && (matched && listed))) short ∙ ap (λ b. b && (is_on_way look pattern p && (matched && listed))) e)))))

      by : (n : ℕ) → length q.elements ≡ n → flat_map (λ d. filter (λ (e : Entry). path_eq q e.name) (met_in look pattern at d)) dirs ≡ stands_at (suc at) q
      by zero size =
          none_joined (λ d. filter (λ (e : Entry). path_eq q e.name) (met_in look pattern at d)) (λ d. none_met at q d (is_parent-none d q (parent_none q size))) dirs
          ∙ sym (ap (λ b. if b && is_on_way look pattern q then option_to_list (entry_at look.tree q) else []) (ap (λ n. n == suc at) size ∙ eqb_false 0 (suc at) (λ same. omega (arith, same))))
      by (suc n) size = below n (cut n q) size refl

  -- ---- the next level

  dirs_one : (at : ℕ) (q : PathName) (c d : Bool) (o : Option Node) → node_at look.tree q ≡ o → suc at < length pattern.elements →
      (elim (option_map entry_of o) [ None ↦ false | Some entry ↦ is_directory entry.attr.kind ]) ≡ d →
      map (λ (e : Entry). e.name) (filter (goes_on pattern at) (if c then option_to_list (option_map entry_of o) else [])) ≡ (if c && d then q ∷ [] else [])
  dirs_one at q false d o there low is = refl
  dirs_one at q true d None there low is = ap (λ b. if b then q ∷ [] else []) is
  dirs_one at q true d (Some node) there low is =
      ap (λ b. map (λ (e : Entry). e.name) (if is_directory node.entry.attr.kind && not b then node.entry ∷ [] else [])) (eqb_false (suc at) (length pattern.elements) (λ same. omega (arith, same)))
      ∙ (by (is_directory node.entry.attr.kind) ∙ ap (λ b. if b then q ∷ [] else []) is)
    where
      by : (b : Bool) → map (λ (e : Entry). e.name) (if b && true then node.entry ∷ [] else []) ≡ (if b then q ∷ [] else [])
      by true = ap (λ p. p ∷ []) (rooted.named q node there)
      by false = refl

  pub next_level : (at : ℕ) (dirs : List PathName) → suc at < length pattern.elements → HasLevel at dirs → HasLevel (suc at) (further pattern at (met_from look pattern at dirs))
  next_level at dirs low level q =
      filter_of_map (path_eq q) (λ (e : Entry). e.name) (filter (goes_on pattern at) (met_from look pattern at dirs))
      ∙ (ap (map (λ (e : Entry). e.name)) (filter_turned (λ (e : Entry). path_eq q e.name) (goes_on pattern at) (met_from look pattern at dirs))
      ∙ (ap (λ es. map (λ (e : Entry). e.name) (filter (goes_on pattern at) es)) (met_at at dirs (omega arith) level q)
      ∙ (dirs_one at q ((length q.elements == suc at) && is_on_way look pattern q) (is_dir q) (node_at look.tree q) refl low refl
      ∙ ap (λ b. if b then q ∷ [] else []) (and_again (length q.elements == suc at) (is_on_way look pattern q) (is_dir q)))))

  -- ---- the rows at a path

  row_named : (at : ℕ) (e : Entry) (row : Row) → row_met look pattern at e ≡ Some row → row.entry.name ≡ e.name
  row_named at e row h = by (has_row pattern at e) (not (is_literal (element_at pattern at)) || has_any (rights look e.name)) h
    where
      made : Row
      made = record { entry = shown_as (rights look e.name).read e; rest = length pattern.elements - suc at }

      by : (a b : Bool) → (if a then (if b then Some made else None) else None) ≡ Some row → row.entry.name ≡ e.name
      by true true k = ap (λ (r : Row). r.entry.name) (sym (some_same made row k)) ∙ shown_name (rights look e.name).read e
      by true false k = absurd (some_none row (sym k))
      by false b k = absurd (some_none row (sym k))

  -- what the walk finds at a path
  abbrev pub row_here : PathName → List Row
  row_here q = filter_map (row_met look pattern (length q.elements - 1)) (if is_on_way look pattern q then option_to_list (entry_at look.tree q) else [])

  rows_at : (at : ℕ) (dirs : List PathName) → at < length pattern.elements → HasLevel at dirs → (q : PathName) →
      filter (λ (row : Row). path_eq q row.entry.name) (filter_map (row_met look pattern at) (met_from look pattern at dirs)) ≡ (if length q.elements == suc at then row_here q else [])
  rows_at at dirs low level q =
      filter_of_made (λ (row : Row). path_eq q row.entry.name) (λ (e : Entry). path_eq q e.name) (row_met look pattern at) (λ e row h. ap (path_eq q) (row_named at e row h)) (met_from look pattern at dirs)
      ∙ (ap (filter_map (row_met look pattern at)) (met_at at dirs low level q)
      ∙ by (length q.elements == suc at) refl)
    where
      by : (b : Bool) → (length q.elements == suc at) ≡ b → filter_map (row_met look pattern at) (if (length q.elements == suc at) && is_on_way look pattern q then option_to_list (entry_at look.tree q) else []) ≡ (if length q.elements == suc at then row_here q else [])
      by true e =
          ap (λ b. filter_map (row_met look pattern at) (if b && is_on_way look pattern q then option_to_list (entry_at look.tree q) else [])) e
          ∙ (ap (λ n. filter_map (row_met look pattern n) (if is_on_way look pattern q then option_to_list (entry_at look.tree q) else [])) (let same : length q.elements ≡ suc at = eqb-true (length q.elements) (suc at) e in let f : at ≡ length q.elements - 1 = omega (arith, same) in f)
          ∙ sym (ap (λ b. if b then row_here q else []) e))
      by false e =
          ap (λ b. filter_map (row_met look pattern at) (if b && is_on_way look pattern q then option_to_list (entry_at look.tree q) else [])) e
          ∙ sym (ap (λ b. if b then row_here q else []) e)

  -- ---- the rows of a walk

  pub walked_at : (n at : ℕ) (dirs : List PathName) → n + at ≡ length pattern.elements → (0 < n → HasLevel at dirs) → (q : PathName) →
      filter (λ (row : Row). path_eq q row.entry.name) (walked look pattern n at dirs) ≡ (if nat_lt at (length q.elements) then row_here q else [])
  walked_at zero at dirs size level q = by (nat_lt at (length q.elements)) refl (is_on_way look pattern q) refl
    where
      by : (b : Bool) → nat_lt at (length q.elements) ≡ b → (w : Bool) → is_on_way look pattern q ≡ w → filter (λ (row : Row). path_eq q row.entry.name) [] ≡ (if nat_lt at (length q.elements) then row_here q else [])
      by false e w f = sym (ap (λ b. if b then row_here q else []) e)
      by true e true f = absurd (let long = ltb-true at (length q.elements) e in let short = way_short look pattern q f in omega (arith, long, short, size))
      by true e false f =
          sym (ap (λ b. if b then row_here q else []) e
          ∙ ap (λ w. filter_map (row_met look pattern (length q.elements - 1)) (if w then option_to_list (entry_at look.tree q) else [])) f)
  walked_at (suc n) at dirs size level q =
      filter-append (λ (row : Row). path_eq q row.entry.name) (filter_map (row_met look pattern at) (met_from look pattern at dirs)) (walked look pattern n (suc at) (further pattern at (met_from look pattern at dirs)))
      ∙ (ap (λ rows. rows ++ filter (λ (row : Row). path_eq q row.entry.name) (walked look pattern n (suc at) (further pattern at (met_from look pattern at dirs)))) (rows_at at dirs (omega (arith, size)) (level (omega arith)) q)
      ∙ (ap (λ rows. (if length q.elements == suc at then row_here q else []) ++ rows) (walked_at n (suc at) (further pattern at (met_from look pattern at dirs)) (omega (arith, size)) (λ more. next_level at dirs (omega (arith, size, more)) (level (omega arith))) q)
      ∙ parts (length q.elements == suc at) refl (nat_lt (suc at) (length q.elements)) refl))
    where
      parts : (a : Bool) → (length q.elements == suc at) ≡ a → (b : Bool) → nat_lt (suc at) (length q.elements) ≡ b →
          ((if length q.elements == suc at then row_here q else []) ++ (if nat_lt (suc at) (length q.elements) then row_here q else [])) ≡ (if nat_lt at (length q.elements) then row_here q else [])
      parts true e true f = absurd (let same = eqb-true (length q.elements) (suc at) e in let more = ltb-true (suc at) (length q.elements) f in omega (arith, same, more))
      parts true e false f =
          ap (λ a. (if a then row_here q else []) ++ (if nat_lt (suc at) (length q.elements) then row_here q else [])) e
          ∙ (ap (λ b. row_here q ++ (if b then row_here q else [])) f
          ∙ (append-nil (row_here q)
          ∙ sym (ap (λ b. if b then row_here q else []) (lt-ltb at (length q.elements) (let same = eqb-true (length q.elements) (suc at) e in omega (arith, same))))))
      parts false e true f =
          ap (λ a. (if a then row_here q else []) ++ (if nat_lt (suc at) (length q.elements) then row_here q else [])) e
          ∙ (ap (λ b. if b then row_here q else []) f
          ∙ sym (ap (λ b. if b then row_here q else []) (lt-ltb at (length q.elements) (let more = ltb-true (suc at) (length q.elements) f in omega (arith, more)))))
      parts false e false f =
          ap (λ a. (if a then row_here q else []) ++ (if nat_lt (suc at) (length q.elements) then row_here q else [])) e
          ∙ (ap (λ b. if b then row_here q else []) f
          ∙ sym (ap (λ b. if b then row_here q else []) (at_most (nat_lt at (length q.elements)) refl)))
        where
          at_most : (c : Bool) → nat_lt at (length q.elements) ≡ c → nat_lt at (length q.elements) ≡ false
          at_most false g = g
          at_most true g =
              let more = ltb-true at (length q.elements) g in
              let most = ltb-false (suc at) (length q.elements) f in
              let other : length q.elements ≢ suc at = λ same. false≢true (sym e ∙ eq-eqb (length q.elements) (suc at) same) in
              absurd (other (omega (arith, more, most)))
