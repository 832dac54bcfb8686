-- Replies to a user under two loadings that give the same rights wherever a request looks.
use Rattle.std.proofs.Common.{◌≡◌, ℕ, zero, suc, ◌+◌, ◌-◌, ◌<◌, ◌≤◌, Bool, true, false, not, ◌&&◌, ◌||◌, List, [], ◌∷◌, length, take, refl, sym, ap, subst, ◌∙◌, arith, Option, Some, None, is_some, unwrap_or}
use Rattle.std.specs.Prelude.{if◌then◌else◌, ◌==◌, nat_lt, T, ⊤, slice_get}
use Rattle.std.specs.FinMap.Entries.{is_sorted}
use Rattle.std.specs.Map.{values_of}
use Rattle.std.specs.Option.{option_and_then, option_map}
use Rattle.std.specs.Str.{bytes_eq, chars}
use Rattle.std.proofs.lemmas.Bool.{false≢true, ltb-false, ltb-true}
use Rattle.std.proofs.lemmas.Slice.Eq.{bytes_eq-Decides}
use Rattle.up_names.specs.PathNames.{PathName, cut}
use Rattle.up_names.specs.PathOrder.{path_cmp}
use Rattle.up_rights.specs.declared.Right.{Right}
use Rattle.up_rights.specs.declared.Right.TheVariants as right
use Rattle.up_rights.specs.RightSets.{Rights, has_any, has_right}
use Rattle.up_entry.specs.Showing.{shown_as}
use Rattle.up_entry.specs.declared.entries.Entry.{Entry}
use Rattle.up_pattern.specs.declared.terms.Term.{Term}
use Rattle.up_pattern.specs.Elements.{literal_of}
use Rattle.up_pattern.specs.Matching.{matches}
use Rattle.up_pattern.specs.Patterns.{PatternName}
use Rattle.up_policy.specs.Governors.{governor}
use Rattle.up_policy.specs.Loadings.{Loading}
use Rattle.up_policy.specs.Trees.{owns_snapshots}
use Rattle.up_wire.specs.declared.replies.Reply.{Reply}
use Rattle.up_wire.specs.declared.replies.Reply.TheVariants as reply
use Rattle.up_wire.specs.declared.replies.Row.{Row}
use Rattle.up_wire.specs.declared.replies.Done.TheVariants as done
use Rattle.up_log_tree.specs.declared.node.Node.{Node}
use Rattle.up_log_tree.specs.Trees.{Tree, is_file, is_link, kind_of, node_at}
use Rattle.up_log_tree.specs.Fits.{HasDirectory}
use Rattle.up_log_tree.specs.Rights.{access_path, facts_of, governing_prefix}
use Rattle.up_log_tree.proofs.Paths.{length_cut}
use Rattle.up_log_tree.proofs.Rooted.{IsRooted, prefix_directory}
use Rattle.up_log_tree.proofs.Trees.{made_same}
use Rattle.up_list.specs.Checks.{at_link, check, first_link, lacking, link_at, ways}
use Rattle.up_list.specs.Entries.{entry_at, entry_of}
use Rattle.up_list.specs.Globs.{ends_literal, glob_reply, is_candidate, is_listed, is_literal, is_met, is_whole, literal_path, literals, matches_front, matches_name, one_row, row_of, rows, rows_reply, whole_reply}
use Rattle.up_list.specs.Governing.{governing_file}
use Rattle.up_list.specs.Looks.{Look, has_some, rights, shown}
use Rattle.up_list.specs.Reads.{access_reply, entry_reply, lookup_reply}
use Rattle.up_list.proofs.FrontLemmas.{front_elements, front_owner, literals_first, same_path}
use Rattle.up_answers.proofs.AlikeLemmas.{AreWays, first_found, ways_are}
use Rattle.up_answers.proofs.LinkedLemmas.{is_link_there}
use Rattle.up_answers.proofs.OtherLemmas.{owned_by}
use Rattle.up_answers.proofs.RightLemmas.{governed_above, no_access}
use Rattle.up_answers.proofs.SettledRights.{governing_governor, seen_by}

-- two looks at a tree have the same rights to look at a path
pub record SameAt (one two : Look) (path : PathName) : Type 0 where
  pub some : has_some one path ≡ has_some two path
  pub read : (rights one path).read ≡ (rights two path).read
  pub list : (rights one path).list ≡ (rights two path).list

pub all_same : (one two : Look) (path : PathName) → rights one path ≡ rights two path → SameAt one two path
all_same one two path h = record {
  some = ap (λ (r : Rights). has_any r) h;
  read = ap (λ (r : Rights). r.read) h;
  list = ap (λ (r : Rights). r.list) h;
}

-- the right that is needed is held alike; for any right nothing is needed
abbrev pub HeldAlike : Look → Look → PathName → Option Right → Type 0
HeldAlike one two path None = ⊤
HeldAlike one two path (Some r) = has_right (rights one path) r ≡ has_right (rights two path) r

-- ---- patterns

before_literals : (ts : List (List Term)) (k : ℕ) (terms : List Term) → slice_get ts k ≡ Some terms → k < length (literals ts) → is_literal terms ≡ true
before_literals [] k terms h less = absurd (omega arith)
before_literals (first ∷ ts) k terms h less = go (literal_of first) refl k h less (λ j at low. before_literals ts j terms at low)
  where
    go : (o : Option (List ℕ)) → literal_of first ≡ o → (k : ℕ) → slice_get (first ∷ ts) k ≡ Some terms → k < length (literals (first ∷ ts)) →
        ((j : ℕ) → slice_get ts j ≡ Some terms → j < length (literals ts) → is_literal terms ≡ true) → is_literal terms ≡ true
    go None e k h less later = absurd (let none : length (literals (first ∷ ts)) ≡ 0 = ap length (literals_first first ts None e) in omega (arith, none))
    go (Some text) e zero h less later = ap is_literal (some_is h) ∙ ap is_some e
      where
        some_is : ◌≡◌ {A = Option (List Term)} (Some first) (Some terms) → terms ≡ first
        some_is h = cc
    go (Some text) e (suc k) h less later = later k h (let more : length (literals (first ∷ ts)) ≡ suc (length (literals ts)) = ap length (literals_first first ts (Some text) e) in omega (arith, more))

taken_is : {X : Type 0} (n : ℕ) (xs : List X) (k : ℕ) (x : X) → slice_get (take n xs) k ≡ Some x → (slice_get xs k ≡ Some x) × (k < n)
taken_is zero xs k x h = absurd (cc)
taken_is (suc n) [] k x h = absurd (cc)
taken_is (suc n) (y ∷ xs) zero x h = (h, omega arith)
taken_is (suc n) (y ∷ xs) (suc k) x h = let rest = taken_is n xs k x h in (rest.0, omega (arith, rest.1))

and_both : (a b : Bool) → (a && b) ≡ true → (a ≡ true) × (b ≡ true)
and_both true b h = (refl, h)
and_both false b h = absurd (false≢true h)

-- a front of elements that match matches
front_matches : (ts : List (List Term)) (names : List (List ℕ)) (k : ℕ) → matches_front ts names ≡ true → matches_front ts (take k names) ≡ true
unfolding matches_front
front_matches ts names zero h = refl
front_matches ts [] (suc k) h = refl
front_matches [] (name ∷ names) (suc k) h = absurd (false≢true h)
front_matches (terms ∷ ts) (name ∷ names) (suc k) h =
    let both = and_both (matches_name terms name) (matches_front ts names) h in
    ap (λ b. b && matches_front ts (take k names)) both.0 ∙ front_matches ts names k both.1

-- the first elements of those that match are the literal ones
front_is : (ts : List (List Term)) (names : List (List ℕ)) → matches_front ts names ≡ true → length (literals ts) ≤ length names → take (length (literals ts)) names ≡ literals ts
unfolding matches_front
front_is [] names h size = refl
front_is (terms ∷ ts) [] h size = go (literals (terms ∷ ts)) size
  where
    go : (ls : List (List ℕ)) → length ls ≤ 0 → take (length ls) [] ≡ ls
    go [] size = refl
    go (l ∷ ls) size = absurd (omega arith)
front_is (terms ∷ ts) (name ∷ names) h size = go (literal_of terms) refl (λ matched shorter. front_is ts names matched shorter)
  where
    both : (matches_name terms name ≡ true) × (matches_front ts names ≡ true)
    both = and_both (matches_name terms name) (matches_front ts names) h

    go : (o : Option (List ℕ)) → literal_of terms ≡ o → (matches_front ts names ≡ true → length (literals ts) ≤ length names → take (length (literals ts)) names ≡ literals ts) → take (length (literals (terms ∷ ts))) (name ∷ names) ≡ literals (terms ∷ ts)
    go None e later = subst (λ (ls : List (List ℕ)). take (length ls) (name ∷ names) ≡ ls) (sym (literals_first terms ts None e)) refl
    go (Some text) e later =
        let same : name ≡ text = (bytes_eq-Decides name text).0 (sym (ap (λ o. elim o as (λ _. Bool) [ Some text ↦ bytes_eq name text | None ↦ matches terms (chars name) ]) e) ∙ both.0) in
        let shorter : length (literals ts) ≤ length names = (let more : length (literals (terms ∷ ts)) ≡ suc (length (literals ts)) = ap length (literals_first terms ts (Some text) e) in omega (arith, more)) in
        subst (λ (ls : List (List ℕ)). take (length ls) (name ∷ names) ≡ ls) (sym (literals_first terms ts (Some text) e))
        (ap (λ n. n ∷ take (length (literals ts)) names) same ∙ ap (λ ns. text ∷ ns) (later both.1 shorter))

-- ---- one tree, and the paths that are settled in it

module _ (owner : List ℕ) (tree : Tree) (rooted : IsRooted owner tree) (sorted : T (is_sorted path_cmp tree)) (user : List ℕ) (less more : Loading) (Settled : PathName → Type 0)
    (same : (path : PathName) → Settled path → SameAt (seen_by owner tree less user) (seen_by owner tree more user) path)
    (moves : (p q : PathName) → governor (facts_of owner tree) q ≡ governor (facts_of owner tree) p → Settled p → Settled q) where
  abbrev one : Look
  one = seen_by owner tree less user

  abbrev two : Look
  two = seen_by owner tree more user

  -- what stands at a settled path is shown alike
  node_same : (path : PathName) (node : Node) → node_at tree path ≡ Some node → Settled path → shown (seen_by owner tree less user) node.entry ≡ shown (seen_by owner tree more user) node.entry
  node_same path node there settled = ap (λ b. shown_as b node.entry) (same node.entry.name (subst Settled (sym (rooted.named path node there)) settled)).read

  -- a link on the way to a settled path is met alike
  link_governor : (path : PathName) (m : ℕ) (entry : Entry) → m ≤ length path.elements → link_at tree (cut m path) ≡ Some entry → governor (facts_of owner tree) path ≡ governor (facts_of owner tree) (cut m path)
  unfolding governor facts_of
  link_governor path m entry short link =
      ap (λ o. if owns_snapshots owner then None else o)
      (governed_above (facts_of owner tree).access m path short (λ k low high. ap (option_map _) (no_access owner tree rooted path m entry link k (omega arith) high)))

  link_same : (tested : List PathName) (path : PathName) (link : Entry) → AreWays tested path → first_link tree tested ≡ Some link → Settled path → at_link (seen_by owner tree less user) link ≡ at_link (seen_by owner tree more user) link
  link_same tested path link are first settled =
      let found = first_found tree tested link first in
      let way = are.each found.0 found.1 in
      let there : link_at tree (cut way.0 path) ≡ Some link = ap (link_at tree) (sym way.2) ∙ found.2 in
      let node = is_link_there owner tree rooted (cut way.0 path) link there in
      let named : link.name ≡ cut way.0 path = ap (λ (e : Entry). e.name) (sym node.3) ∙ rooted.named (cut way.0 path) node.0 node.1 in
      let at = same link.name (subst Settled (sym named) (moves path (cut way.0 path) (sym (link_governor path way.0 link way.1 there)) settled)) in
      ap (λ b. if b then reply.FollowLink (shown (seen_by owner tree less user) link) else reply.Private) at.some
      ∙ ap (λ b. if has_some (seen_by owner tree more user) link.name then reply.FollowLink (shown_as b link) else reply.Private) at.read

  lacking_same : (path : PathName) (needed : Option Right) → SameAt (seen_by owner tree less user) (seen_by owner tree more user) path → HeldAlike (seen_by owner tree less user) (seen_by owner tree more user) path needed →
      lacking (rights (seen_by owner tree less user) path) needed ≡ lacking (rights (seen_by owner tree more user) path) needed
  unfolding lacking
  lacking_same path None at held = ap (λ b. if b then None else Some reply.Private) at.some
  lacking_same path (Some r) at held =
      ap (λ b. if not b then Some reply.Private else if not (has_right (rights (seen_by owner tree less user) path) r) then Some (reply.Permission r) else None) at.some
      ∙ ap (λ b. if not (has_some (seen_by owner tree more user) path) then Some reply.Private else if not b then Some (reply.Permission r) else None) held

  -- the tests of links and rights
  pub check_settled : (tested : List PathName) (path : PathName) (needed : Option Right) → AreWays tested path → Settled path → HeldAlike (seen_by owner tree less user) (seen_by owner tree more user) path needed →
      check (seen_by owner tree less user) tested path needed ≡ check (seen_by owner tree more user) tested path needed
  unfolding check
  check_settled tested path needed are settled held = go (first_link tree tested) refl
    where
      go : (o : Option Entry) → first_link tree tested ≡ o → (elim o as (λ _. Option Reply) [ Some link ↦ Some (at_link (seen_by owner tree less user) link) | None ↦ lacking (rights (seen_by owner tree less user) path) needed ])
          ≡ (elim o as (λ _. Option Reply) [ Some link ↦ Some (at_link (seen_by owner tree more user) link) | None ↦ lacking (rights (seen_by owner tree more user) path) needed ])
      go None e = lacking_same path needed (same path settled) held
      go (Some link) e = ap Some (link_same tested path link are e settled)

  -- ---- Lookup, WhichAccess

  entry_same : {Y : Type 0} (f g : Option Entry → Y) → f None ≡ g None → ((node : Node) → shown (seen_by owner tree less user) node.entry ≡ shown (seen_by owner tree more user) node.entry → f (Some node.entry) ≡ g (Some node.entry)) →
      (path : PathName) → Settled path → f (entry_at tree path) ≡ g (entry_at tree path)
  entry_same f g none some path settled = go (node_at tree path) refl
    where
      go : (o : Option Node) → node_at tree path ≡ o → f (option_map entry_of o) ≡ g (option_map entry_of o)
      go None e = none
      go (Some node) e = some node (node_same path node e settled)

  pub lookup_settled : (path : PathName) → Settled path → lookup_reply (seen_by owner tree less user) path ≡ lookup_reply (seen_by owner tree more user) path
  unfolding lookup_reply
  lookup_settled path settled =
      ap (λ o. unwrap_or o (entry_reply (seen_by owner tree less user) (entry_at tree path))) (check_settled (ways path) path None (ways_are path) settled tt)
      ∙ ap (λ r. unwrap_or (check (seen_by owner tree more user) (ways path) path None) r)
      (entry_same (entry_reply (seen_by owner tree less user)) (entry_reply (seen_by owner tree more user)) refl (λ node shown_same. ap (λ e. reply.Ok (done.Entry e)) shown_same) path settled)

  governing_same : (path : PathName) → Settled path → option_map (shown (seen_by owner tree less user)) (governing_file (seen_by owner tree less user) path) ≡ option_map (shown (seen_by owner tree more user)) (governing_file (seen_by owner tree more user) path)
  unfolding governing_file
  governing_same path settled = go (owns_snapshots owner) (governing_prefix tree path) refl
    where
      go : (b : Bool) (o : Option PathName) → governing_prefix tree path ≡ o →
          option_map (shown (seen_by owner tree less user)) (if b then None else option_and_then (λ dir. entry_at tree (access_path dir)) o)
          ≡ option_map (shown (seen_by owner tree more user)) (if b then None else option_and_then (λ dir. entry_at tree (access_path dir)) o)
      go true o e = refl
      go false None e = refl
      go false (Some dir) e =
          entry_same (option_map (shown (seen_by owner tree less user))) (option_map (shown (seen_by owner tree more user))) refl (λ node shown_same. ap Some shown_same) (access_path dir)
          (moves path (access_path dir) (governing_governor owner tree rooted path dir e) settled)

  pub access_settled : (path : PathName) → Settled path → access_reply (seen_by owner tree less user) path ≡ access_reply (seen_by owner tree more user) path
  unfolding access_reply
  access_settled path settled =
      ap (λ o. unwrap_or o (reply.Ok (done.Access (option_map (shown (seen_by owner tree less user)) (governing_file (seen_by owner tree less user) path))))) (check_settled (ways path) path None (ways_are path) settled tt)
      ∙ ap (λ a. unwrap_or (check (seen_by owner tree more user) (ways path) path None) (reply.Ok (done.Access a))) (governing_same path settled)

  -- ---- Glob

  listed_same : (path : PathName) (n : ℕ) (ts : List (List Term)) →
      ((k : ℕ) (terms : List Term) → slice_get ts k ≡ Some terms → is_literal terms ≡ false → (rights (seen_by owner tree less user) (cut (n + k) path)).list ≡ (rights (seen_by owner tree more user) (cut (n + k) path)).list) →
      is_listed (seen_by owner tree less user) path n ts ≡ is_listed (seen_by owner tree more user) path n ts
  unfolding is_listed
  listed_same path n [] each = refl
  listed_same path n (terms ∷ rest) each =
      ap (λ b. b && is_listed (seen_by owner tree less user) path (suc n) rest) (by (is_literal terms) refl)
      ∙ ap (λ b. (is_literal terms || (rights (seen_by owner tree more user) (cut n path)).list) && b)
      (listed_same path (suc n) rest (λ k t at open'. subst (λ m. (rights (seen_by owner tree less user) (cut m path)).list ≡ (rights (seen_by owner tree more user) (cut m path)).list) (let e : n + suc k ≡ suc n + k = omega arith in e) (each (suc k) t at open')))
    where
      by : (b : Bool) → is_literal terms ≡ b → (b || (rights (seen_by owner tree less user) (cut n path)).list) ≡ (b || (rights (seen_by owner tree more user) (cut n path)).list)
      by true e = refl
      by false e = subst (λ m. (rights (seen_by owner tree less user) (cut m path)).list ≡ (rights (seen_by owner tree more user) (cut m path)).list) (let z : n + 0 ≡ n = omega arith in z) (each 0 terms refl e)

  module _ (pattern : PatternName) (owned : pattern.owner ≡ owner) (front : Settled (literal_path pattern)) (items : (path : PathName) → is_candidate pattern path ≡ true → is_some (node_at tree path) ≡ true → Settled path) where
    -- the prefixes on which list is tested
    prefix_settled : (path : PathName) (node : Node) (k : ℕ) → node_at tree path ≡ Some node → is_candidate pattern path ≡ true → length (literals pattern.elements) ≤ k → k < length path.elements → Settled (cut k path)
    unfolding is_candidate
    prefix_settled path node k there candidate low high = go (nat_lt (length (literals pattern.elements)) k) refl
      where
        matched : matches_front pattern.elements path.elements ≡ true
        matched = (and_both (nat_lt (length (literals pattern.elements)) (length path.elements)) (matches_front pattern.elements path.elements) candidate).1

        directory : HasDirectory tree (cut k path)
        directory = prefix_directory owner tree rooted (length path.elements - suc k) path node k there (let e : k + suc (length path.elements - suc k) ≡ length path.elements = omega (arith, high) in e)

        go : (b : Bool) → nat_lt (length (literals pattern.elements)) k ≡ b → Settled (cut k path)
        go true e =
            items (cut k path)
            (ap (λ n. nat_lt (length (literals pattern.elements)) n && matches_front pattern.elements (take k path.elements)) (length_cut k path (omega arith)) ∙ (ap (λ b. b && matches_front pattern.elements (take k path.elements)) e ∙ front_matches pattern.elements path.elements k matched))
            (ap is_some directory.1)
        go false e =
            let size : k ≡ length (literals pattern.elements) = (let ge : k ≤ length (literals pattern.elements) = ltb-false (length (literals pattern.elements)) k e in omega arith) in
            subst Settled
            (sym (same_path (cut k path) (literal_path pattern) (owned_by owner tree rooted (length path.elements) path node refl there ∙ (sym owned ∙ sym (front_owner pattern)))
            (ap (λ n. take n path.elements) size ∙ (front_is pattern.elements path.elements matched (omega arith) ∙ sym (front_elements pattern))))) front

    row_same : (path : PathName) (node : Node) → node_at tree path ≡ Some node → row_of (seen_by owner tree less user) pattern path node ≡ row_of (seen_by owner tree more user) pattern path node
    unfolding row_of is_met
    row_same path node there = go (is_candidate pattern path) refl
      where
        passed : List (List Term)
        passed = take (length path.elements) pattern.elements

        row : Bool → Bool → Bool → Entry → Option Row
        row candidate listed some entry =
            if (candidate && (listed && (not (ends_literal passed) || some))) && (length path.elements == length pattern.elements || is_link (kind_of node))
            then Some (record { entry = entry; rest = length pattern.elements - length path.elements }) else None

        go : (b : Bool) → is_candidate pattern path ≡ b →
            row b (is_listed (seen_by owner tree less user) path 0 passed) (has_some (seen_by owner tree less user) path) (shown (seen_by owner tree less user) node.entry)
            ≡ row b (is_listed (seen_by owner tree more user) path 0 passed) (has_some (seen_by owner tree more user) path) (shown (seen_by owner tree more user) node.entry)
        go false e = refl
        go true e =
            let settled = items path e (ap is_some there) in
            ap (λ l. row true l (has_some (seen_by owner tree less user) path) (shown (seen_by owner tree less user) node.entry)) (listed_same path 0 passed listed)
            ∙ (ap (λ s. row true (is_listed (seen_by owner tree more user) path 0 passed) s (shown (seen_by owner tree less user) node.entry)) (same path settled).some
            ∙ ap (row true (is_listed (seen_by owner tree more user) path 0 passed) (has_some (seen_by owner tree more user) path)) (node_same path node there settled))
          where
            listed : (k : ℕ) (terms : List Term) → slice_get (take (length path.elements) pattern.elements) k ≡ Some terms → is_literal terms ≡ false → (rights (seen_by owner tree less user) (cut (0 + k) path)).list ≡ (rights (seen_by owner tree more user) (cut (0 + k) path)).list
            listed k terms at open' =
                let taken = taken_is (length path.elements) pattern.elements k terms at in
                let low : length (literals pattern.elements) ≤ k = by (nat_lt k (length (literals pattern.elements))) refl taken.0 in
                subst (λ n. (rights (seen_by owner tree less user) (cut n path)).list ≡ (rights (seen_by owner tree more user) (cut n path)).list) (let z : k ≡ 0 + k = omega arith in z)
                (same (cut k path) (prefix_settled path node k there e low taken.1)).list
              where
                by : (b : Bool) → nat_lt k (length (literals pattern.elements)) ≡ b → slice_get pattern.elements k ≡ Some terms → length (literals pattern.elements) ≤ k
                by true lt at = absurd (false≢true (sym open' ∙ before_literals pattern.elements k terms at (ltb-true k (length (literals pattern.elements)) lt)))
                by false ge at = ltb-false k (length (literals pattern.elements)) ge

    rows_settled : rows (seen_by owner tree less user) pattern ≡ rows (seen_by owner tree more user) pattern
    rows_settled = ap (λ es. values_of es) (made_same (row_of (seen_by owner tree less user) pattern) (row_of (seen_by owner tree more user) pattern) tree tree sorted sorted (λ q. go q (node_at tree q) refl))
      where
        go : (q : PathName) (o : Option Node) → node_at tree q ≡ o → option_and_then (row_of (seen_by owner tree less user) pattern q) o ≡ option_and_then (row_of (seen_by owner tree more user) pattern q) o
        go q None e = refl
        go q (Some node) e = row_same q node e

    pub glob_settled : glob_reply (seen_by owner tree less user) pattern ≡ glob_reply (seen_by owner tree more user) pattern
    unfolding glob_reply whole_reply
    glob_settled = go (is_whole pattern)
      where
        path : PathName
        path = literal_path pattern

        whole : whole_reply (seen_by owner tree less user) (literal_path pattern) ≡ whole_reply (seen_by owner tree more user) (literal_path pattern)
        whole =
            ap (λ o. unwrap_or o (one_row (seen_by owner tree less user) (entry_at tree path))) (check_settled (ways path) path None (ways_are path) front tt)
            ∙ ap (λ r. unwrap_or (check (seen_by owner tree more user) (ways path) path None) r)
            (entry_same (one_row (seen_by owner tree less user)) (one_row (seen_by owner tree more user)) refl (λ node shown_same. ap (λ e. reply.Ok (done.Rows (record { entry = e; rest = 0 } ∷ []))) shown_same) path front)

        go : (b : Bool) → (if b then whole_reply (seen_by owner tree less user) (literal_path pattern) else unwrap_or (check (seen_by owner tree less user) (ways (literal_path pattern)) (literal_path pattern) (Some right.List)) (rows_reply (seen_by owner tree less user) pattern (entry_at tree (literal_path pattern))))
            ≡ (if b then whole_reply (seen_by owner tree more user) (literal_path pattern) else unwrap_or (check (seen_by owner tree more user) (ways (literal_path pattern)) (literal_path pattern) (Some right.List)) (rows_reply (seen_by owner tree more user) pattern (entry_at tree (literal_path pattern))))
        go true = whole
        go false =
            ap (λ o. unwrap_or o (rows_reply (seen_by owner tree less user) pattern (entry_at tree path))) (check_settled (ways path) path (Some right.List) (ways_are path) front (same path front).list)
            ∙ ap (λ r. unwrap_or (check (seen_by owner tree more user) (ways path) path (Some right.List)) r)
            (entry_same (rows_reply (seen_by owner tree less user) pattern) (rows_reply (seen_by owner tree more user) pattern) refl (λ node shown_same. ap (λ (rs : List Row). if is_file node.entry.attr.kind then reply.NotDir else reply.Ok (done.Rows rs)) rows_settled) path front)
