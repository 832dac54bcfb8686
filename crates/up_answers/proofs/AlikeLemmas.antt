-- Two trees in which a user sees the same at every path: the test of links and rights, and the replies that rest on it.
use Rattle.std.proofs.Common.{◌≡◌, ℕ, zero, suc, ◌<◌, ◌≤◌, Bool, true, false, not, List, [], ◌∷◌, length, refl, sym, ap, subst, ◌∙◌, inl, inr, arith, Option, Some, None}
use Rattle.std.specs.Prelude.{if◌then◌else◌, Contains, unwrap_or}
use Rattle.std.specs.Option.{option_map, option_or}
use Rattle.std.proofs.lemmas.Bool.{cases_Bool, cases_order, false≢true}
use Rattle.std.proofs.lemmas.List.Elements.{Contains-append_cases}
use Rattle.up_names.specs.PathNames.{PathName, cut}
use Rattle.up_rights.specs.declared.Right.{Right}
use Rattle.up_rights.specs.RightSets.{Rights, has_right, has_any}
use Rattle.up_entry.specs.declared.entries.Entry.{Entry}
use Rattle.up_entry.specs.Showing.{shown_as}
use Rattle.up_policy.proofs.PathLists.{no_member, Contains-cons, Contains-head, Contains-behind}
use Rattle.up_wire.specs.declared.replies.Reply.{Reply}
use Rattle.up_wire.specs.declared.replies.Reply.TheVariants as reply
use Rattle.up_wire.specs.declared.replies.Done.{Done}
use Rattle.up_wire.specs.declared.replies.Done.TheVariants as done
use Rattle.up_log_tree.specs.declared.node.Node.{Node}
use Rattle.up_log_tree.specs.Trees.{Tree, node_at, kind_of}
use Rattle.up_list.specs.Checks.{link_at, first_link, ways_to, ways, at_link, lacking, check}
use Rattle.up_list.specs.Looks.{Look, rights, has_some, shown}
use Rattle.up_answers.specs.Views.{View, view, sight, shown_node}
use Rattle.up_list.specs.Governing.{governing_file}
use Rattle.up_list.specs.Entries.{entry_at, entry_of}
use Rattle.up_list.specs.Reads.{entry_reply, lookup_reply, access_reply}
use Rattle.up_log_tree.proofs.Rooted.{IsRooted}
use Rattle.up_log_tree.proofs.Paths.{some_none, some_same, cut_cut, length_cut}
use Rattle.up_answers.proofs.LinkedLemmas.{is_link_there, link_there, nothing_below}
use Rattle.up_answers.proofs.RightLemmas.{none_from, none_below}

-- ---- the same view at every path

-- two looks that see the same at every path
pub record AreAlike (one two : Look) : Type 0 where
  pub views : (path : PathName) → view one path ≡ view two path

pub turned_round : (one two : Look) → AreAlike one two → AreAlike two one
turned_round one two alike = record { views = λ path. sym (alike.views path) }

both_views : {X : Type 0} (a b : Bool) (x y : X) → (if a then Some x else None) ≡ (if b then Some y else None) → (a ≡ b) × (a ≡ true → x ≡ y)
both_views true true x y h = (refl, λ _. some_same x y h)
both_views true false x y h = absurd (some_none x h)
both_views false true x y h = absurd (some_none y (sym h))
both_views false false x y h = (refl, λ f. absurd (false≢true f))

module _ (one two : Look) (alike : AreAlike one two) where
  both : (path : PathName) → (has_some one path ≡ has_some two path) × (has_some one path ≡ true → sight one path ≡ sight two path)
  unfolding view
  both path = both_views (has_some one path) (has_some two path) (sight one path) (sight two path) (alike.views path)

  pub same_some : (path : PathName) → has_some one path ≡ has_some two path
  same_some path = (both path).0

  -- where there is a right, the views are one
  pub same_sight : (path : PathName) → has_some one path ≡ true → sight one path ≡ sight two path
  same_sight path = (both path).1

  pub same_rights : (path : PathName) → rights one path ≡ rights two path
  same_rights path = elim (cases_Bool (has_some one path)) [
    | inl some ↦ ap (λ (v : View). v.rights) (same_sight path some)
    | inr none ↦ none_from (rights one path) none ∙ sym (none_from (rights two path) (sym (same_some path) ∙ none))
  ]

  pub same_entry : (path : PathName) → has_some one path ≡ true → option_map (shown_node one) (node_at one.tree path) ≡ option_map (shown_node two) (node_at two.tree path)
  same_entry path some = ap (λ (v : View). v.entry) (same_sight path some)

  pub same_governor : (path : PathName) → has_some one path ≡ true → option_map (shown one) (governing_file one path) ≡ option_map (shown two) (governing_file two path)
  same_governor path some = ap (λ (v : View). v.governor) (same_sight path some)

-- ---- the first link

pub first_found : (tree : Tree) (paths : List PathName) (link : Entry) → first_link tree paths ≡ Some link → (k : PathName) × Contains paths k × (link_at tree k ≡ Some link)
first_found tree [] link h = absurd (some_none link (sym h))
first_found tree (k ∷ ks) link h = go (link_at tree k) refl h (first_found tree ks link)
  where
    go : (made : Option Entry) → link_at tree k ≡ made → option_or made (first_link tree ks) ≡ Some link → (first_link tree ks ≡ Some link → (q : PathName) × Contains ks q × (link_at tree q ≡ Some link)) → (q : PathName) × Contains (k ∷ ks) q × (link_at tree q ≡ Some link)
    go (Some y) is h rest = (k, Contains-head k ks, is ∙ h)
    go None is h rest = let found = rest h in (found.0, Contains-behind k found.0 ks found.1, found.2)

pub first_none : (tree : Tree) (paths : List PathName) → first_link tree paths ≡ None → (k : PathName) → Contains paths k → link_at tree k ≡ None
first_none tree [] h k there = absurd (no_member k there)
first_none tree (first ∷ ks) h k there = go (link_at tree first) refl h (λ rest. first_none tree ks rest k)
  where
    go : (made : Option Entry) → link_at tree first ≡ made → option_or made (first_link tree ks) ≡ None → (first_link tree ks ≡ None → Contains ks k → link_at tree k ≡ None) → link_at tree k ≡ None
    go (Some y) is h rest = absurd (some_none y h)
    go None is h rest = elim (Contains-cons first k ks there) [ inl same ↦ ap (link_at tree) (sym same) ∙ is | inr behind ↦ rest h behind ]

-- ---- prefixes

-- only prefixes of a path
pub record AreWays (tested : List PathName) (path : PathName) : Type 0 where
  pub each : (q : PathName) → Contains tested q → (m : ℕ) × (m ≤ length path.elements) × (q ≡ cut m path)

ways_to_each : (n : ℕ) (path q : PathName) → Contains (ways_to n path) q → (m : ℕ) × (m ≤ n) × (q ≡ cut m path)
ways_to_each zero path q h = elim (Contains-cons (cut 0 path) q [] h) [ inl same ↦ (0, (omega arith), sym same) | inr none ↦ absurd (no_member q none) ]
ways_to_each (suc n) path q h = elim (Contains-append_cases (ways_to n path) (cut (suc n) path ∷ []) q h) [
  | inl before ↦ let found = ways_to_each n path q before in (found.0, (let e : found.0 ≤ suc n = omega (arith, found.1) in e), found.2)
  | inr last ↦ elim (Contains-cons (cut (suc n) path) q [] last) [ inl same ↦ (suc n, (omega arith), sym same) | inr none ↦ absurd (no_member q none) ]
]

pub ways_are : (path : PathName) → AreWays (ways path) path
unfolding ways
ways_are path = record { each = λ q h. ways_to_each (length path.elements) path q h }

-- ---- what is shown

pub shown_kind : (look : Look) (entry : Entry) → (shown look entry).attr.kind ≡ entry.attr.kind
shown_kind look entry = go (rights look entry.name).read
  where
    go : (read : Bool) → (shown_as read entry).attr.kind ≡ entry.attr.kind
    go true = refl
    go false = refl

-- what both show of what stands at a path
both_shown : {X : Type 0} (f g : Node → X) (found : Option Node) (node : Node) → Some (f node) ≡ option_map g found → (other : Node) × (found ≡ Some other) × (f node ≡ g other)
both_shown f g None node h = absurd (some_none (f node) h)
both_shown f g (Some other) node h = (other, refl, some_same (f node) (g other) h)

module _ (one two : Look) (alike : AreAlike one two) where
  -- what is seen in the one tree stands in the other
  pub node_over : (path : PathName) (node : Node) → has_some one path ≡ true → node_at one.tree path ≡ Some node → (other : Node) × (node_at two.tree path ≡ Some other) × (shown one node.entry ≡ shown two other.entry)
  node_over path node some there =
      both_shown (λ n. shown one n.entry) (λ n. shown two n.entry) (node_at two.tree path) node
      (sym (ap (option_map (λ (n : Node). shown one n.entry)) there) ∙ same_entry one two alike path some)

  pub same_kind : (node other : Node) → shown one node.entry ≡ shown two other.entry → kind_of node ≡ kind_of other
  same_kind node other same = sym (shown_kind one node.entry) ∙ (ap (λ (e : Entry). e.attr.kind) same ∙ shown_kind two other.entry)

  module _ (rooted : IsRooted one.owner one.tree) (rooted' : IsRooted two.owner two.tree) where
    -- a link that is seen in the one tree stands in the other, and is shown alike
    pub link_over : (path : PathName) (entry : Entry) → has_some one path ≡ true → link_at one.tree path ≡ Some entry → (other : Entry) × (link_at two.tree path ≡ Some other) × (shown one entry ≡ shown two other)
    link_over path entry some link =
        let found = is_link_there one.owner one.tree rooted path entry link in
        let over = node_over path found.0 some found.1 in
        (over.0.entry, link_there two.owner two.tree rooted' path over.0 over.1 (sym (same_kind found.0 over.0 over.2) ∙ found.2), ap (shown one) (sym found.3) ∙ over.2)

-- a link that is met, by its place
link_place : (look : Look) (rooted : IsRooted look.owner look.tree) (path : PathName) (entry : Entry) → link_at look.tree path ≡ Some entry → at_link look entry ≡ (if has_some look path then reply.FollowLink (shown look entry) else reply.Private)
link_place look rooted path entry link =
    let found = is_link_there look.owner look.tree rooted path entry link in
    ap (λ p. if has_some look p then reply.FollowLink (shown look entry) else reply.Private) (ap (λ (e : Entry). e.name) (sym found.3) ∙ rooted.named path found.0 found.1)

-- two links on the way to a path are one
one_link : (owner : List ℕ) (tree : Tree) (rooted : IsRooted owner tree) (path : PathName) (m n : ℕ) (e f : Entry) → m ≤ length path.elements → n ≤ length path.elements → link_at tree (cut m path) ≡ Some e → link_at tree (cut n path) ≡ Some f → m ≡ n
one_link owner tree rooted path m n e f low high one two = elim (cases_order m n) [
  | inl same ↦ same
  | inr apart ↦ elim apart [
    | inl less ↦ absurd (below m n e f less high one two)
    | inr more ↦ absurd (below n m f e more low two one)
  ]
]
  where
    below : (a b : ℕ) (x y : Entry) → a < b → b ≤ length path.elements → link_at tree (cut a path) ≡ Some x → link_at tree (cut b path) ≡ Some y → ⊥
    below a b x y less within first second =
        let found = is_link_there owner tree rooted (cut b path) y second in
        nothing_below owner tree rooted (cut b path) x a found.0 (ap (link_at tree) (cut_cut a b path (omega arith)) ∙ first) (subst (λ l. a < l) (sym (length_cut b path within)) less) found.1

lacking_none : (held : Rights) (needed : Option Right) → has_any held ≡ false → lacking held needed ≡ Some reply.Private
unfolding lacking
lacking_none held None h = ap (λ b. if b then None else Some reply.Private) h
lacking_none held (Some r) h = ap (λ b. if not b then Some reply.Private else if not (has_right held r) then Some (reply.Permission r) else None) h

-- where only the one tree has a link, the other has no right there
module _ (one two : Look) (alike : AreAlike one two) (rooted : IsRooted one.owner one.tree) (rooted' : IsRooted two.owner two.tree) (stranger : one.user ≡ one.owner → ⊥) (tested : List PathName) (path : PathName) (are : AreWays tested path) (needed : Option Right) where
  one_sided : (entry : Entry) → first_link one.tree tested ≡ Some entry → first_link two.tree tested ≡ None → Some (at_link one entry) ≡ lacking (rights two path) needed
  one_sided entry first none = go (has_some one q) refl
    where
      found : (k : PathName) × Contains tested k × (link_at one.tree k ≡ Some entry)
      found = first_found one.tree tested entry first

      q : PathName
      q = found.0

      way : (m : ℕ) × (m ≤ length path.elements) × (q ≡ cut m path)
      way = are.each q found.1

      go : (some : Bool) → has_some one q ≡ some → Some (at_link one entry) ≡ lacking (rights two path) needed
      go true some =
          let over = link_over one two alike rooted rooted' q entry some found.2 in
          absurd (some_none over.0 (sym over.1 ∙ first_none two.tree tested none q found.1))
      go false some =
          let hidden : has_some one path ≡ false = none_below one rooted stranger path way.0 entry way.1 (ap (link_at one.tree) (sym way.2) ∙ found.2) (ap (has_some one) (sym way.2) ∙ some) in
          ap Some (link_place one rooted q entry found.2 ∙ ap (λ b. if b then reply.FollowLink (shown one entry) else reply.Private) some)
          ∙ sym (lacking_none (rights two path) needed (sym (same_some one two alike path) ∙ hidden))

module _ (one two : Look) (alike : AreAlike one two) (rooted : IsRooted one.owner one.tree) (rooted' : IsRooted two.owner two.tree) (stranger : one.user ≡ one.owner → ⊥) (stranger' : two.user ≡ two.owner → ⊥) (tested : List PathName) (path : PathName) (are : AreWays tested path) (needed : Option Right) where
  abbrev checked : Look → Option Entry → Option Reply
  checked look found = elim found [ Some link ↦ Some (at_link look link) | None ↦ lacking (rights look path) needed ]

  two_links : (e f : Entry) → first_link one.tree tested ≡ Some e → first_link two.tree tested ≡ Some f → at_link one e ≡ at_link two f
  two_links e f first second = link_place one rooted a.0 e a.2 ∙ (go (has_some one a.0) refl (has_some two b.0) refl ∙ sym (link_place two rooted' b.0 f b.2))
    where
      a : (k : PathName) × Contains tested k × (link_at one.tree k ≡ Some e)
      a = first_found one.tree tested e first

      b : (k : PathName) × Contains tested k × (link_at two.tree k ≡ Some f)
      b = first_found two.tree tested f second

      way : (m : ℕ) × (m ≤ length path.elements) × (a.0 ≡ cut m path)
      way = are.each a.0 a.1

      way' : (m : ℕ) × (m ≤ length path.elements) × (b.0 ≡ cut m path)
      way' = are.each b.0 b.1

      -- one place, where both stand in one tree
      meets : (owner : List ℕ) (tree : Tree) (r : IsRooted owner tree) (x y : Entry) → link_at tree a.0 ≡ Some x → link_at tree b.0 ≡ Some y → a.0 ≡ b.0
      meets owner tree r x y p q = way.2 ∙ (ap (λ m. cut m path) (one_link owner tree r path way.0 way'.0 x y way.1 way'.1 (ap (link_at tree) (sym way.2) ∙ p) (ap (link_at tree) (sym way'.2) ∙ q)) ∙ sym way'.2)

      go : (s : Bool) → has_some one a.0 ≡ s → (t : Bool) → has_some two b.0 ≡ t → (if has_some one a.0 then reply.FollowLink (shown one e) else reply.Private) ≡ (if has_some two b.0 then reply.FollowLink (shown two f) else reply.Private)
      go true s true t =
          let over = link_over one two alike rooted rooted' a.0 e s a.2 in
          let place = meets two.owner two.tree rooted' over.0 f over.1 b.2 in
          let same : over.0 ≡ f = some_same over.0 f (sym over.1 ∙ (ap (link_at two.tree) place ∙ b.2)) in
          ap (λ b. if b then reply.FollowLink (shown one e) else reply.Private) s ∙ (ap reply.FollowLink (over.2 ∙ ap (shown two) same) ∙ sym (ap (λ b. if b then reply.FollowLink (shown two f) else reply.Private) t))
      go true s false t =
          let over = link_over one two alike rooted rooted' a.0 e s a.2 in
          let place = meets two.owner two.tree rooted' over.0 f over.1 b.2 in
          absurd (false≢true (sym t ∙ (ap (has_some two) (sym place) ∙ (sym (same_some one two alike a.0) ∙ s))))
      go false s true t =
          let over = link_over two one (turned_round one two alike) rooted' rooted b.0 f t b.2 in
          let place = meets one.owner one.tree rooted e over.0 a.2 over.1 in
          absurd (false≢true (sym s ∙ (ap (has_some one) place ∙ (same_some one two alike b.0 ∙ t))))
      go false s false t = ap (λ b. if b then reply.FollowLink (shown one e) else reply.Private) s ∙ sym (ap (λ b. if b then reply.FollowLink (shown two f) else reply.Private) t)

  -- the tests of links and rights answer alike
  pub check_same : check one tested path needed ≡ check two tested path needed
  unfolding check
  check_same = go (first_link one.tree tested) refl (first_link two.tree tested) refl
    where
      go : (x : Option Entry) → first_link one.tree tested ≡ x → (y : Option Entry) → first_link two.tree tested ≡ y →
          checked one (first_link one.tree tested) ≡ checked two (first_link two.tree tested)
      go (Some e) x (Some f) y = ap (checked one) x ∙ (ap Some (two_links e f x y) ∙ sym (ap (checked two) y))
      go (Some e) x None y = ap (checked one) x ∙ (one_sided one two alike rooted rooted' stranger tested path are needed e x y ∙ sym (ap (checked two) y))
      go None x (Some f) y = ap (checked one) x ∙ (sym (one_sided two one (turned_round one two alike) rooted' rooted stranger' tested path are needed f y x) ∙ sym (ap (checked two) y))
      go None x None y = ap (checked one) x ∙ (ap (λ held. lacking held needed) (same_rights one two alike path) ∙ sym (ap (checked two) y))

-- what a check that passes says
lacking_some : (held : Rights) (needed : Option Right) → lacking held needed ≡ None → has_any held ≡ true
unfolding lacking
lacking_some held None h = go (has_any held) refl h
  where
    go : (b : Bool) → has_any held ≡ b → (if b then None else Some reply.Private) ≡ None → has_any held ≡ true
    go true is h = is
    go false is h = absurd (some_none reply.Private h)
lacking_some held (Some r) h = go (has_any held) refl h
  where
    go : (b : Bool) → has_any held ≡ b → (if not b then Some reply.Private else if not (has_right held r) then Some (reply.Permission r) else None) ≡ None → has_any held ≡ true
    go true is h = is
    go false is h = absurd (some_none reply.Private h)

lacking_right : (held : Rights) (r : Right) → lacking held (Some r) ≡ None → has_right held r ≡ true
unfolding lacking
lacking_right held r h = go (has_any held) (has_right held r) refl h
  where
    go : (b c : Bool) → has_right held r ≡ c → (if not b then Some reply.Private else if not c then Some (reply.Permission r) else None) ≡ None → has_right held r ≡ true
    go true true is h = is
    go true false is h = absurd (some_none (reply.Permission r) h)
    go false c is h = absurd (some_none reply.Private h)

passed : (look : Look) (tested : List PathName) (path : PathName) (needed : Option Right) → check look tested path needed ≡ None → (first_link look.tree tested ≡ None) × (lacking (rights look path) needed ≡ None)
unfolding check
passed look tested path needed h = go (first_link look.tree tested) refl h
  where
    go : (x : Option Entry) → first_link look.tree tested ≡ x → elim x as (λ _. Option Reply) [ Some link ↦ Some (at_link look link) | None ↦ lacking (rights look path) needed ] ≡ None → (first_link look.tree tested ≡ None) × (lacking (rights look path) needed ≡ None)
    go (Some e) is h = absurd (some_none (at_link look e) h)
    go None is h = (is, h)

pub passed_some : (look : Look) (tested : List PathName) (path : PathName) (needed : Option Right) → check look tested path needed ≡ None → has_some look path ≡ true
passed_some look tested path needed h = lacking_some (rights look path) needed (passed look tested path needed h).1

pub passed_right : (look : Look) (tested : List PathName) (path : PathName) (r : Right) → check look tested path (Some r) ≡ None → has_right (rights look path) r ≡ true
passed_right look tested path r h = lacking_right (rights look path) r (passed look tested path (Some r) h).1

pub passed_links : (look : Look) (tested : List PathName) (path : PathName) (needed : Option Right) → check look tested path needed ≡ None → first_link look.tree tested ≡ None
passed_links look tested path needed h = (passed look tested path needed h).0

-- no refusal tells of success
pub refused_not : (look : Look) (tested : List PathName) (path : PathName) (needed : Option Right) (done : Done) → check look tested path needed ≡ Some (reply.Ok done) → ⊥
unfolding check lacking
refused_not look tested path needed done h = by_link (first_link look.tree tested) h
  where
    at : (link : Entry) (b : Bool) → (if b then reply.FollowLink (shown look link) else reply.Private) ≡ reply.Ok done → ⊥
    at link true k = absurd (cc)
    at link false k = absurd (cc)

    same : (x y : Reply) → Some x ≡ Some y → x ≡ y
    same x y k = cc

    any : (b : Bool) → (if b then None else Some reply.Private) ≡ Some (reply.Ok done) → ⊥
    any true k = absurd (some_none (reply.Ok done) (sym k))
    any false k = absurd (let e = same reply.Private (reply.Ok done) k in cc)

    this : (r : Right) (a b : Bool) → (if not a then Some reply.Private else if not b then Some (reply.Permission r) else None) ≡ Some (reply.Ok done) → ⊥
    this r false b k = absurd (let e = same reply.Private (reply.Ok done) k in cc)
    this r true false k = absurd (let e = same (reply.Permission r) (reply.Ok done) k in cc)
    this r true true k = absurd (some_none (reply.Ok done) (sym k))

    by_needed : (needed : Option Right) → lacking (rights look path) needed ≡ Some (reply.Ok done) → ⊥
    by_needed None k = any (has_any (rights look path)) k
    by_needed (Some r) k = this r (has_any (rights look path)) (has_right (rights look path) r) k

    by_link : (found : Option Entry) → elim found as (λ _. Option Reply) [ Some link ↦ Some (at_link look link) | None ↦ lacking (rights look path) needed ] ≡ Some (reply.Ok done) → ⊥
    by_link (Some link) k = at link (has_some look link.name) (same (at_link look link) (reply.Ok done) k)
    by_link None k = by_needed needed k

-- a check that is refused, or what is answered behind it
pub behind_check : (a b : Option Reply) (x y : Reply) → a ≡ b → (a ≡ None → x ≡ y) → unwrap_or a x ≡ unwrap_or b y
behind_check a b x y same rest = go a refl ∙ ap (λ o. unwrap_or o y) same
  where
    go : (o : Option Reply) → a ≡ o → unwrap_or a x ≡ unwrap_or a y
    go None is = ap (λ o. unwrap_or o x) is ∙ (rest is ∙ sym (ap (λ o. unwrap_or o y) is))
    go (Some refusal) is = ap (λ o. unwrap_or o x) is ∙ sym (ap (λ o. unwrap_or o y) is)

-- ---- replies

module _ (one two : Look) (alike : AreAlike one two) (rooted : IsRooted one.owner one.tree) (rooted' : IsRooted two.owner two.tree) (stranger : one.user ≡ one.owner → ⊥) (stranger' : two.user ≡ two.owner → ⊥) where
  entry_replies : (a b : Option Node) → option_map (shown_node one) a ≡ option_map (shown_node two) b → entry_reply one (option_map entry_of a) ≡ entry_reply two (option_map entry_of b)
  entry_replies None None h = refl
  entry_replies None (Some n) h = absurd (some_none (shown two n.entry) (sym h))
  entry_replies (Some n) None h = absurd (some_none (shown one n.entry) h)
  entry_replies (Some n) (Some m) h = ap (λ e. reply.Ok (done.Entry e)) (some_same (shown one n.entry) (shown two m.entry) h)

  pub lookup_same : (path : PathName) → lookup_reply one path ≡ lookup_reply two path
  unfolding lookup_reply
  lookup_same path =
      behind_check (check one (ways path) path None) (check two (ways path) path None) (entry_reply one (entry_at one.tree path)) (entry_reply two (entry_at two.tree path))
      (check_same one two alike rooted rooted' stranger stranger' (ways path) path (ways_are path) None)
      (λ passes. entry_replies (node_at one.tree path) (node_at two.tree path) (same_entry one two alike path (passed_some one (ways path) path None passes)))

  pub access_same : (path : PathName) → access_reply one path ≡ access_reply two path
  unfolding access_reply
  access_same path =
      behind_check (check one (ways path) path None) (check two (ways path) path None) _ _
      (check_same one two alike rooted rooted' stranger stranger' (ways path) path (ways_are path) None)
      (λ passes. ap (λ e. reply.Ok (done.Access e)) (same_governor one two alike path (passed_some one (ways path) path None passes)))
