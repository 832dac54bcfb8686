-- Rights that were decided hold of all paths of one kind that the same text governs, as long as the texts say the same.
use Rattle.std.proofs.Common.{◌≡◌, ℕ, ◌≤◌, ◌&&◌, Bool, true, false, not, cond, List, [], ◌∷◌, length, refl, sym, ap, subst, ◌∙◌, arith, Option, Some, None, is_some}
use Rattle.std.specs.Prelude.{◌++◌, codes, find, if◌then◌else◌}
use Rattle.std.specs.FinMap.Entries as entries
use Rattle.std.specs.FinMap.Entries.{find-put}
use Rattle.std.specs.Map.{keys_of}
use Rattle.std.specs.Option.{option_map, option_or}
use Rattle.std.specs.Str.{bytes_eq}
use Rattle.std.proofs.lemmas.List.{take_all}
use Rattle.up_names.specs.PathNames.{PathName, control_of, is_in_group}
use Rattle.up_names.specs.UserNames.{base_of}
use Rattle.up_names.specs.PathOrder.{path_cmp, path_eq}
use Rattle.up_names.specs.PathOrderLaws.{path_cmp_eq, path_cmp_total}
use Rattle.up_names.specs.declared.paths.Control.{Control}
use Rattle.up_names.specs.declared.paths.Control.TheVariants.{Ordinary, Access, Group}
use Rattle.up_rights.specs.declared.Right.{Right}
use Rattle.up_rights.specs.declared.Right.TheVariants.{Read, Write, List as ListRight, Create, Delete}
use Rattle.up_rights.specs.RightSets.{Rights}
use Rattle.up_access.specs.declared.Rule.{Rule}
use Rattle.up_policy.specs.Governors.{first_text, governor, prefixes}
use Rattle.up_policy.specs.Loadings.{Loading}
use Rattle.up_policy.specs.Members.{text_of}
use Rattle.up_policy.specs.Trees.{AccessTexts, GroupTexts, owns_snapshots}
use Rattle.up_policy.specs.Verdicts.{grants, is_control, items_for, only_looks, right_test, rights_held, text_decides, without_text}
use Rattle.up_log_tree.specs.declared.node.Node.{Node}
use Rattle.up_log_tree.specs.Rights.{access_node, access_path, facts_of, governing_prefix, group_paths, rules_of}
use Rattle.up_log_tree.specs.Trees.{Tree, tree_at, tree_of}
use Rattle.up_log_tree.proofs.Paths.{path_same, some_none, some_same}
use Rattle.up_mem_tree.specs.Groups.{HaveSameGroups, StayTexts}
use Rattle.up_answers.proofs.PutLemmas.{ends_extended}
use Rattle.up_list.specs.Looks.{Look, rights}
use Rattle.up_watch.specs.Watching.{Watching, after, now}
use Rattle.up_watch.specs.Decided.{AreDecided, IsGiven, Remembers, given_in, place, right_by, rights_by}
use Rattle.up_watch.specs.declared.decided.Decided.{Decided}
use Rattle.up_watch.specs.declared.decided.Given.{Given}
use Rattle.up_watch.specs.declared.watcher.Known.{Known}

-- ---- the text that governs

module _ (owner : List ℕ) (tree : Tree) where
  abbrev text_in : PathName → Option (List Rule)
  text_in dir = option_map (rules_of owner) (access_node tree dir)

  abbrev has_text : PathName → Bool
  has_text dir = is_some (access_node tree dir)

  first_is : (dirs : List PathName) (dir : PathName) → find has_text dirs ≡ Some dir → first_text text_in dirs ≡ text_in dir
  first_is [] dir h = absurd (some_none dir (sym h))
  first_is (d ∷ ds) dir h = go (access_node tree d) refl (first_is ds dir)
    where
      go : (o : Option Node) → access_node tree d ≡ o → (find has_text ds ≡ Some dir → first_text text_in ds ≡ text_in dir) → first_text text_in (d ∷ ds) ≡ text_in dir
      go None is rest = ap (λ o. option_or (option_map (rules_of owner) o) (first_text text_in ds)) is ∙ rest (sym (ap (λ o. if is_some o then Some d else find has_text ds) is) ∙ h)
      go (Some node) is rest =
          ap (λ o. option_or (option_map (rules_of owner) o) (first_text text_in ds)) is
          ∙ (sym (ap (option_map (rules_of owner)) is) ∙ ap text_in (some_same d dir (sym (ap (λ o. if is_some o then Some d else find has_text ds) is) ∙ h)))

  governed : (path dir : PathName) → owns_snapshots owner ≡ false → governing_prefix tree path ≡ Some dir → governor (facts_of owner tree) path ≡ (facts_of owner tree).access dir
  unfolding governor facts_of governing_prefix
  governed path dir plain is = ap (λ b. if b then None else first_text text_in (prefixes path)) plain ∙ first_is (prefixes path) dir is

-- ---- what a text decides

access_control : (dir : PathName) → control_of (access_path dir) ≡ Access
access_control dir = ap (λ b. if b then Access else if is_in_group (access_path dir) then Group else Ordinary) (ends_extended dir)

abbrev control_kind : Control → Bool
control_kind control = elim control as (λ _. Bool) [ Ordinary ↦ false | Access ↦ true | Group ↦ true ]

-- the kind of an owner's path of that kind
place_kind : (owner : List ℕ) (control : Bool) → is_control (place owner control) ≡ control
place_kind owner false = refl
place_kind owner true = ap control_kind (access_control (record { owner = owner; elements = [] }))

without_same : (owner user : List ℕ) (right : Right) (p q : PathName) → is_control p ≡ is_control q → without_text owner user right p ≡ without_text owner user right q
unfolding without_text
without_same owner user right p q h =
    ap (λ b. if owns_snapshots owner then Some (only_looks right && bytes_eq user (base_of owner))
    else if bytes_eq user owner && only_looks right then Some true
    else if b && not (only_looks right) then Some (bytes_eq user owner)
    else None) h

test_by : (look : Look) (path : PathName) (right : Right) →
    right_test (facts_of look.owner look.tree) (group_paths look.tree) look.loaded look.user right path ≡ right_by look (is_control path) (governor (facts_of look.owner look.tree) path) right
unfolding right_test facts_of
test_by look path right =
    ap (λ o. elim o as (λ _. Bool) [ Some answer ↦ answer | None ↦ text_decides (facts_of look.owner look.tree) (group_paths look.tree) look.loaded look.user right (governor (facts_of look.owner look.tree) path) ])
    (without_same look.owner look.user right path (place look.owner (is_control path)) (sym (place_kind look.owner (is_control path))))

-- the rights on a path go by its kind and the text that governs it
rights_are : (look : Look) (path : PathName) → rights look path ≡ rights_by look (is_control path) (governor (facts_of look.owner look.tree) path)
unfolding rights rights_held rights_by
rights_are look path =
    let has = λ (right : Right). test_by look path right in
    λ i. record { read = has Read i; write = has Write i; list = has ListRight i; create = has Create i; delete = has Delete i }

pub rights_in : (look : Look) (path dir : PathName) (control : Bool) → owns_snapshots look.owner ≡ false → Some dir ≡ governing_prefix look.tree path → control ≡ is_control path →
    rights look path ≡ rights_by look control ((facts_of look.owner look.tree).access dir)
rights_in look path dir control plain is kind =
    rights_are look path
    ∙ (ap (rights_by look (is_control path)) (governed look.owner look.tree path dir plain (sym is))
    ∙ ap (λ c. rights_by look c ((facts_of look.owner look.tree).access dir)) (sym kind))

-- ---- texts that say the same

-- what a text decides goes by the Group texts alone
by_groups : (owner : List ℕ) (a b : AccessTexts) (g h : GroupTexts) (listed : List PathName) (loaded : Loading) (user : List ℕ) (right : Right) (text : Option (List Rule)) → g ≡ h →
    text_decides (record { owner = owner; access = a; group = g }) listed loaded user right text ≡ text_decides (record { owner = owner; access = b; group = h }) listed loaded user right text
unfolding text_decides
by_groups owner a b g h listed loaded user right None same = refl
by_groups owner a b g h listed loaded user right (Some rules) same =
    ap (λ (texts : GroupTexts). grants (text_of (record { owner = owner; access = a; group = texts }) loaded) (listed ++ keys_of loaded) user (items_for right rules)) same

module _ (owner : List ℕ) (loaded : Loading) (user : List ℕ) (one two : Tree) (same : HaveSameGroups owner one two) where
  abbrev look_in : Tree → Look
  look_in tree = record { owner = owner; tree = tree; loaded = loaded; user = user }

  same_decision : (right : Right) (text : Option (List Rule)) →
      text_decides (facts_of owner one) (group_paths one) loaded user right text ≡ text_decides (facts_of owner two) (group_paths two) loaded user right text
  unfolding facts_of
  same_decision right text =
      by_groups owner (facts_of owner one).access (facts_of owner two).access (facts_of owner one).group (facts_of owner two).group (group_paths one) loaded user right text same.texts
      ∙ ap (λ listed. text_decides (facts_of owner two) listed loaded user right text) same.paths

  same_right : (control : Bool) (right : Right) (text : Option (List Rule)) → right_by (look_in one) control text right ≡ right_by (look_in two) control text right
  same_right control right text = go (without_text owner user right (place owner control))
    where
      go : (o : Option Bool) → (elim o as (λ _. Bool) [ Some answer ↦ answer | None ↦ text_decides (facts_of owner one) (group_paths one) loaded user right text ])
          ≡ (elim o as (λ _. Bool) [ Some answer ↦ answer | None ↦ text_decides (facts_of owner two) (group_paths two) loaded user right text ])
      go (Some answer) = refl
      go None = same_decision right text

  same_rights : (control : Bool) (text : Option (List Rule)) → rights_by (look_in one) control text ≡ rights_by (look_in two) control text
  unfolding rights_by
  same_rights control text =
      let has = λ (right : Right). same_right control right text in
      λ i. record { read = has Read i; write = has Write i; list = has ListRight i; create = has Create i; delete = has Delete i }

-- ---- what was decided

module _ (watching : Watching) where
  abbrev text_at : ℕ → PathName → Option (List Rule)
  text_at n dir = (facts_of watching.owner (tree_at watching.log n)).access dir

  -- what a text gave before it gives still, where the texts stay
  pub gives_still : (dir : PathName) (control : Bool) (given : Given) (n : ℕ) → StayTexts watching.owner watching.log dir given.at n → IsGiven watching control dir given → rights_by (after watching n) control (text_at n dir) ≡ given.held
  gives_still dir control given n stay is =
      ap (rights_by (after watching n) control) (sym stay.access)
      ∙ (sym (same_rights watching.owner watching.loaded watching.user (tree_at watching.log given.at) (tree_at watching.log n) stay.groups control (text_at given.at dir))
      ∙ is)

  -- nothing was decided
  pub decided_none : (decided : Decided) → decided.ordinary.entries ≡ [] → decided.control.entries ≡ [] → AreDecided watching decided
  decided_none decided none none_too = record { each = λ dir control given found. absurd (none_in dir control given found) }
    where
      none_in : (dir : PathName) (control : Bool) (given : Given) → given_in decided dir control ≡ Some given → ⊥
      none_in dir false given found = some_none given (sym (sym (ap (λ es. entries.find path_cmp dir es) none) ∙ found))
      none_in dir true given found = some_none given (sym (sym (ap (λ es. entries.find path_cmp dir es) none_too) ∙ found))

  -- what was decided is not decided again
  pub decided_still : (decided : Decided) (dir : PathName) (control : Bool) (n : ℕ) (given : Given) → AreDecided watching decided → Some given ≡ given_in decided dir control →
      StayTexts watching.owner watching.log dir given.at n → rights_by (after watching n) control (text_at n dir) ≡ given.held
  decided_still decided dir control n given are found stay = gives_still dir control given n stay (are.each dir control given (sym found))

-- it holds of each path of that kind that the text governs
pub decided_already : (look : Look) (path dir : PathName) (control : Bool) (held : Rights) → owns_snapshots look.owner ≡ false →
    Some dir ≡ governing_prefix look.tree path → control ≡ is_control path → rights_by look control ((facts_of look.owner look.tree).access dir) ≡ held → held ≡ rights look path
decided_already look path dir control held plain is kind gives = sym (rights_in look path dir control plain is kind ∙ gives)

-- ---- one more

put_in : (P : PathName → Given → Type 0) (dir : PathName) (given : Given) (old new : List (PathName × Given)) → new ≡ entries.put path_cmp dir given old → P dir given →
    ((q : PathName) (found : Given) → entries.find path_cmp q old ≡ Some found → P q found) →
    (q : PathName) (found : Given) → entries.find path_cmp q new ≡ Some found → P q found
put_in P dir given old new put is were q found there =
    go (path_eq q dir) refl (sym (ap (λ es. entries.find path_cmp q es) put ∙ (find-put path_cmp path_cmp_total q dir given old ∙ ap (λ b. cond b (Some given) (entries.find path_cmp q old)) (sym (path_cmp_eq q dir)))) ∙ there)
  where
    go : (b : Bool) → path_eq q dir ≡ b → cond b (Some given) (entries.find path_cmp q old) ≡ Some found → P q found
    go true same there = subst (P q) (some_same given found there) (subst (λ p. P p given) (sym (path_same q dir same)) is)
    go false other there = were q found there

-- one more, where there was memory
put_or_not : (P : PathName → Given → Type 0) (dir : PathName) (given : Given) (done : Bool) (old new : List (PathName × Given)) → new ≡ (if done then entries.put path_cmp dir given old else old) → P dir given →
    ((q : PathName) (found : Given) → entries.find path_cmp q old ≡ Some found → P q found) →
    (q : PathName) (found : Given) → entries.find path_cmp q new ≡ Some found → P q found
put_or_not P dir given true old new put is were q found there = put_in P dir given old new put is were q found there
put_or_not P dir given false old new put is were q found there = were q found (sym (ap (λ es. entries.find path_cmp q es) put) ∙ there)

module _ (watching : Watching) (dir : PathName) (given : Given) (done : Bool) (old new : Decided) where
  pub put_control : new.ordinary.entries ≡ old.ordinary.entries → new.control.entries ≡ (if done then entries.put path_cmp dir given old.control.entries else old.control.entries) →
      IsGiven watching true dir given → AreDecided watching old → AreDecided watching new
  put_control same put is are = record { each = by }
    where
      by : (q : PathName) (control : Bool) (found : Given) → given_in new q control ≡ Some found → IsGiven watching control q found
      by q false found there = are.each q false found (sym (ap (λ es. entries.find path_cmp q es) same) ∙ there)
      by q true found there = put_or_not (IsGiven watching true) dir given done old.control.entries new.control.entries put is (λ q found there. are.each q true found there) q found there

  pub put_ordinary : new.control.entries ≡ old.control.entries → new.ordinary.entries ≡ (if done then entries.put path_cmp dir given old.ordinary.entries else old.ordinary.entries) →
      IsGiven watching false dir given → AreDecided watching old → AreDecided watching new
  put_ordinary same put is are = record { each = by }
    where
      by : (q : PathName) (control : Bool) (found : Given) → given_in new q control ≡ Some found → IsGiven watching control q found
      by q true found there = are.each q true found (sym (ap (λ es. entries.find path_cmp q es) same) ∙ there)
      by q false found there = put_or_not (IsGiven watching false) dir given done old.ordinary.entries new.ordinary.entries put is (λ q found there. are.each q false found there) q found there

-- ---- by the calls

-- the rights after all records are those of now
pub whole_rights : (watching : Watching) (n : ℕ) (path : PathName) → n ≡ length watching.log → rights (after watching n) path ≡ rights (now watching) path
whole_rights watching n path is =
    ap (λ m. rights (after watching m) path) is
    ∙ ap (λ l. rights (record { owner = watching.owner; tree = tree_of l; loaded = watching.loaded; user = watching.user }) path) (take_all (length watching.log) watching.log (let e : length watching.log ≤ length watching.log = omega arith in e))

-- what is remembered
pub remembers_none : (watching : Watching) (known : Known) → known.current.ordinary.entries ≡ [] → known.current.control.entries ≡ [] → known.past.ordinary.entries ≡ [] → known.past.control.entries ≡ [] → Remembers watching known
remembers_none watching known none none_too past past_too = record {
  current = decided_none watching known.current none none_too;
  past = decided_none watching known.past past past_too;
}
