-- All rights on a path at which nothing more is needed; and which paths have one governor.
use Rattle.std.proofs.Common.{◌≡◌, ℕ, zero, suc, ◌-◌, ◌<◌, ◌≤◌, Bool, true, false, not, ◌&&◌, List, [], ◌∷◌, ◌++◌, length, refl, sym, ap, subst, ◌∙◌, arith, Option, Some, None, is_some, bytes_eq}
use Rattle.std.specs.Prelude.{if◌then◌else◌, codes, find, T, IsTrue, ◌↔◌, MatchOption, slice_get}
use Rattle.std.specs.FinMap.Entries.{is_sorted}
use Rattle.std.specs.Option.{option_map, option_or}
use Rattle.std.proofs.lemmas.Bool.{false≢true}
use Rattle.std.proofs.lemmas.List.{length-append}
use Rattle.std.proofs.lemmas.Slice.Eq.{bytes_eq-Decides}
use Rattle.up_names.specs.PathNames.{PathName, control_of, cut, is_in_group}
use Rattle.up_names.specs.PathOrder.{path_cmp}
use Rattle.up_names.specs.UserNames.{base_of}
use Rattle.up_names.specs.declared.paths.Control.TheVariants as control
use Rattle.up_names.proofs.PathComparisons.{ends_in}
use Rattle.up_rights.specs.declared.Right.{Right}
use Rattle.up_rights.specs.declared.Right.TheVariants.{Read, Write, List as ListRight, Create, Delete}
use Rattle.up_rights.specs.RightSets.{has_right}
use Rattle.up_access.specs.declared.Rule.{Rule}
use Rattle.up_entry.specs.Rules.{control_fits}
use Rattle.up_entry.specs.declared.entries.Kind.{Kind}
use Rattle.up_entry.specs.declared.entries.Kind.TheVariants.{File, Directory, Link}
use Rattle.up_policy.specs.Governors.{first_text, governor, prefixes, prefixes_to}
use Rattle.up_policy.specs.Loadings.{Loading}
use Rattle.up_policy.specs.Reached.{needed, needed_by}
use Rattle.up_policy.specs.Trees.{TreeFacts, owns_snapshots}
use Rattle.up_policy.specs.Verdicts.{is_control, only_looks, right_test, rights_held, text_decides, without_text}
use Rattle.up_policy.proofs.VerdictLemmas.{test_is_right}
use Rattle.up_log_tree.specs.declared.node.Node.{Node}
use Rattle.up_log_tree.specs.Trees.{Tree, kind_of, node_at}
use Rattle.up_log_tree.specs.Fits.{HasDirectory}
use Rattle.up_log_tree.specs.Rights.{access_node, access_path, facts_of, governing_prefix, group_paths, rules_of}
use Rattle.up_log_tree.proofs.Paths.{cut_extended, cut_whole, length-extended, parent_extended, some_none}
use Rattle.up_log_tree.proofs.Rooted.{IsRooted}
use Rattle.up_list.specs.Looks.{Look, rights}
use Rattle.up_answers.specs.Laws.{Extends}
use Rattle.up_answers.proofs.MeaningLemmas.{groups_listed}
use Rattle.up_answers.proofs.RightLemmas.{governed_above, held_is}
use Rattle.up_answers.proofs.SettledLemmas.{rights_are_settled}

-- ---- a path at which nothing more is needed

bool_same : (a b : Bool) → IsTrue a ↔ IsTrue b → a ≡ b
bool_same true true h = refl
bool_same true false h = sym (h.0 refl)
bool_same false true h = h.1 refl
bool_same false false h = refl

abbrev pub seen_by : List ℕ → Tree → Loading → List ℕ → Look
seen_by owner tree loaded user = record { owner = owner; tree = tree; loaded = loaded; user = user }

module _ (owner : List ℕ) (tree : Tree) (sorted : T (is_sorted path_cmp tree)) (less more : Loading) (extends : Extends less more) (user : List ℕ) where
  test_settled : (path : PathName) → needed (facts_of owner tree) (group_paths tree) less path ≡ [] → (r : Right) → right_test (facts_of owner tree) (group_paths tree) less user r path ≡ right_test (facts_of owner tree) (group_paths tree) more user r path
  test_settled path none r =
      let lists = groups_listed owner tree sorted in
      let before = test_is_right (facts_of owner tree) (group_paths tree) less user r path lists in
      let after = test_is_right (facts_of owner tree) (group_paths tree) more user r path lists in
      let same = rights_are_settled (facts_of owner tree) (group_paths tree) less more user r path lists extends none in
      bool_same (right_test (facts_of owner tree) (group_paths tree) less user r path) (right_test (facts_of owner tree) (group_paths tree) more user r path)
      (λ h. after.1 (same.0 (before.0 h)), λ h. before.1 (same.1 (after.0 h)))

  -- all rights on it are settled
  pub rights_settled : (path : PathName) → needed (facts_of owner tree) (group_paths tree) less path ≡ [] → rights (seen_by owner tree less user) path ≡ rights (seen_by owner tree more user) path
  unfolding rights rights_held
  rights_settled path none i = record {
    read = test_settled path none Read i;
    write = test_settled path none Write i;
    list = test_settled path none ListRight i;
    create = test_settled path none Create i;
    delete = test_settled path none Delete i;
  }

-- what is needed at a path depends on its governor alone
pub needed_by_governor : (facts : TreeFacts) (listed : List PathName) (loaded : Loading) (p q : PathName) → governor facts p ≡ governor facts q → needed facts listed loaded p ≡ needed facts listed loaded q
unfolding needed
needed_by_governor facts listed loaded p q same = ap (λ o. elim o as (λ _. List PathName) [ None ↦ [] | Some rules ↦ needed_by facts listed loaded rules ]) same

-- ---- the owner's rights

module _ (owner : List ℕ) (tree : Tree) (loaded : Loading) (plain : owns_snapshots owner ≡ false) where
  owner_test : (r : Right) (path : PathName) → bytes_eq owner owner ≡ true → without_text owner owner r path ≡ (if only_looks r then Some true else if is_control path && not (only_looks r) then Some true else None)
  unfolding without_text
  owner_test r path own =
      ap (λ b. if b then Some (only_looks r && bytes_eq owner (base_of owner)) else if bytes_eq owner owner && only_looks r then Some true else if is_control path && not (only_looks r) then Some (bytes_eq owner owner) else None) plain
      ∙ ap (λ b. if b && only_looks r then Some true else if is_control path && not (only_looks r) then Some b else None) own

  -- the owner reads and lists
  pub owner_looks : (r : Right) (path : PathName) → only_looks r ≡ true → has_right (rights (seen_by owner tree loaded owner) path) r ≡ true
  unfolding rights right_test facts_of
  owner_looks r path looks =
      held_is (facts_of owner tree) (group_paths tree) loaded owner path r
      ∙ ap (λ o. elim o as (λ _. Bool) [ Some answer ↦ answer | None ↦ text_decides (facts_of owner tree) (group_paths tree) loaded owner r (governor (facts_of owner tree) path) ])
      (owner_test r path ((bytes_eq-Decides owner owner).1 refl) ∙ ap (λ b. if b then Some true else if is_control path && not b then Some true else None) looks)

  -- and changes what stands at a control path
  pub owner_controls : (r : Right) (path : PathName) → is_control path ≡ true → has_right (rights (seen_by owner tree loaded owner) path) r ≡ true
  unfolding rights right_test facts_of
  owner_controls r path control =
      held_is (facts_of owner tree) (group_paths tree) loaded owner path r
      ∙ ap (λ o. elim o as (λ _. Bool) [ Some answer ↦ answer | None ↦ text_decides (facts_of owner tree) (group_paths tree) loaded owner r (governor (facts_of owner tree) path) ])
      (owner_test r path ((bytes_eq-Decides owner owner).1 refl)
      ∙ (ap (λ b. if only_looks r then Some true else if b && not (only_looks r) then Some true else None) control ∙ either (only_looks r)))
    where
      either : (b : Bool) → (if b then Some true else if not b then Some true else None) ≡ Some true
      either true = refl
      either false = refl

-- ---- the Access file that governs

abbrev access_name : List ℕ
access_name = codes "Access"

last_there : (es : List (List ℕ)) (e : List ℕ) → slice_get (es ++ e ∷ []) (length (es ++ e ∷ []) - 1) ≡ Some e
last_there es e = ap (slice_get (es ++ e ∷ [])) (let l = length-append es (e ∷ []) in let k : length (es ++ e ∷ []) - 1 ≡ length es = omega (arith, l) in k) ∙ go es
  where
    go : (es : List (List ℕ)) → slice_get (es ++ e ∷ []) (length es) ≡ Some e
    go [] = refl
    go (x ∷ es) = go es

access_control : (dir : PathName) → control_of (access_path dir) ≡ control.Access
access_control dir =
    ap (λ b. if b then control.Access else (if is_in_group (access_path dir) then control.Group else control.Ordinary))
    (ends_in (dir.elements ++ access_name ∷ []) access_name access_name (last_there dir.elements access_name) ∙ (bytes_eq-Decides access_name access_name).1 refl)

-- a directory has no Access path
no_directory : (kind : Kind) → control_fits kind control.Access ≡ true → kind ≡ Directory → ⊥
no_directory File h e = absurd (cc)
no_directory Directory h e = absurd (false≢true h)
no_directory Link h e = absurd (cc)

module _ (owner : List ℕ) (tree : Tree) (rooted : IsRooted owner tree) (dir : PathName) where
  -- so nothing stands below it
  no_access_below : access_node tree (access_path dir) ≡ None
  no_access_below = go (node_at tree (access_path (access_path dir))) refl
    where
      go : (o : Option Node) → node_at tree (access_path (access_path dir)) ≡ o → o ≡ None
      go None e = refl
      go (Some node) e =
          let above : HasDirectory tree (access_path dir) = subst (λ o. MatchOption o ((access_path (access_path dir)).owner ≡ owner) (HasDirectory tree)) (parent_extended (access_path dir) access_name) (rooted.placed (access_path (access_path dir)) node e) in
          absurd (no_directory (kind_of above.0) (ap (control_fits (kind_of above.0)) (sym (access_control dir)) ∙ rooted.control (access_path dir) above.0 above.1) above.2)

  -- the Access file in a directory is governed as the directory is
  access_governor : first_text (facts_of owner tree).access (prefixes (access_path dir)) ≡ first_text (facts_of owner tree).access (prefixes dir)
  unfolding facts_of
  access_governor =
      governed_above (facts_of owner tree).access (length dir.elements) (access_path dir) (let l = length-extended dir access_name in omega (arith, l)) none
      ∙ ap (λ p. first_text (facts_of owner tree).access (prefixes p)) (cut_extended dir access_name)
    where
      none : (k : ℕ) → length dir.elements < k → k ≤ length (access_path dir).elements → (facts_of owner tree).access (cut k (access_path dir)) ≡ None
      none k low high =
          ap (option_map (rules_of owner))
          (ap (access_node tree) (ap (λ n. cut n (access_path dir)) (let l = length-extended dir access_name in let z : k ≡ length (access_path dir).elements = omega (arith, l) in z) ∙ cut_whole (access_path dir)) ∙ no_access_below)

-- the first of these directories that has an Access file decides
first_is : (owner : List ℕ) (tree : Tree) (dirs : List PathName) (dir : PathName) → find (λ d. is_some (access_node tree d)) dirs ≡ Some dir → (first_text (facts_of owner tree).access dirs ≡ (facts_of owner tree).access dir) × (is_some (access_node tree dir) ≡ true)
unfolding facts_of
first_is owner tree [] dir h = absurd (some_none dir (sym h))
first_is owner tree (d ∷ dirs) dir h = go (access_node tree d) refl h (first_is owner tree dirs dir)
  where
    go : (o : Option Node) → access_node tree d ≡ o → (if is_some (access_node tree d) then Some d else find (λ d. is_some (access_node tree d)) dirs) ≡ Some dir →
        (find (λ d. is_some (access_node tree d)) dirs ≡ Some dir → (first_text (facts_of owner tree).access dirs ≡ (facts_of owner tree).access dir) × (is_some (access_node tree dir) ≡ true)) →
        (option_or (option_map (rules_of owner) (access_node tree d)) (first_text (facts_of owner tree).access dirs) ≡ option_map (rules_of owner) (access_node tree dir)) × (is_some (access_node tree dir) ≡ true)
    go None e h rest =
        let later = rest (sym (ap (λ o. if is_some o then Some d else find (λ d. is_some (access_node tree d)) dirs) e) ∙ h) in
        (ap (λ o. option_or (option_map (rules_of owner) o) (first_text (facts_of owner tree).access dirs)) e ∙ later.0, later.1)
    go (Some node) e h rest =
        let same : d ≡ dir = some_is d dir (sym (ap (λ o. if is_some o then Some d else find (λ d. is_some (access_node tree d)) dirs) e) ∙ h) in (
          ap (λ o. option_or (option_map (rules_of owner) o) (first_text (facts_of owner tree).access dirs)) e ∙ (ap (option_map (rules_of owner)) (sym e) ∙ ap (λ p. option_map (rules_of owner) (access_node tree p)) same),
          ap (λ p. is_some (access_node tree p)) (sym same) ∙ ap is_some e,
        )
      where
        some_is : (a b : PathName) → ◌≡◌ {A = Option PathName} (Some a) (Some b) → a ≡ b
        some_is a b h = cc

-- a directory that has an Access file is governed by it
own_first : (owner : List ℕ) (tree : Tree) (dir : PathName) → is_some (access_node tree dir) ≡ true → first_text (facts_of owner tree).access (prefixes dir) ≡ (facts_of owner tree).access dir
unfolding facts_of
own_first owner tree dir there = go (length dir.elements) (cut_whole dir)
  where
    by : (o : Option Node) (rest : Option (List Rule)) → is_some o ≡ true → option_or (option_map (rules_of owner) o) rest ≡ option_map (rules_of owner) o
    by None rest h = absurd (false≢true h)
    by (Some node) rest h = refl

    go : (n : ℕ) → cut n dir ≡ dir → first_text (facts_of owner tree).access (prefixes_to n dir) ≡ option_map (rules_of owner) (access_node tree dir)
    go zero e = ap (λ p. option_or (option_map (rules_of owner) (access_node tree p)) None) e ∙ by (access_node tree dir) None there
    go (suc n) e = ap (λ p. option_or (option_map (rules_of owner) (access_node tree p)) (first_text (facts_of owner tree).access (prefixes_to n dir))) e ∙ by (access_node tree dir) (first_text (facts_of owner tree).access (prefixes_to n dir)) there

-- the file that governs a path has the path's governor
pub governing_governor : (owner : List ℕ) (tree : Tree) (rooted : IsRooted owner tree) (path dir : PathName) → governing_prefix tree path ≡ Some dir → governor (facts_of owner tree) (access_path dir) ≡ governor (facts_of owner tree) path
unfolding governor governing_prefix
governing_governor owner tree rooted path dir h =
    let first = first_is owner tree (prefixes path) dir h in
    ap (λ o. if owns_snapshots (facts_of owner tree).owner then None else o) (access_governor owner tree rooted dir ∙ (own_first owner tree dir first.1 ∙ sym first.0))
