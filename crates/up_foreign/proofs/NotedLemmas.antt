-- Texts whose needed groups were noted: those groups are there, and stay needed as long as the texts say the same.
use Rattle.std.proofs.Common.{◌≡◌, ℕ, Bool, true, false, cond, List, [], ◌∷◌, ◌++◌, filter, refl, sym, ap, subst, ◌∙◌, Option, Some, None, is_some}
use Rattle.std.specs.Prelude.{Contains, find, if◌then◌else◌}
use Rattle.std.specs.FinMap.Entries as entries
use Rattle.std.specs.FinMap.Entries.{find-put}
use Rattle.std.specs.Map.{keys_of}
use Rattle.std.specs.Option.{option_map, option_or}
use Rattle.up_names.specs.PathNames.{PathName}
use Rattle.up_names.specs.PathOrder.{path_cmp, path_eq}
use Rattle.up_names.specs.PathOrderLaws.{path_cmp_eq, path_cmp_total}
use Rattle.up_access.specs.declared.Rule.{Rule}
use Rattle.up_policy.specs.Governors.{first_text, governor, prefixes}
use Rattle.up_policy.specs.Loadings.{Loading}
use Rattle.up_policy.specs.Members.{text_of}
use Rattle.up_policy.specs.Reached.{groups_named, is_wanted, needed, needed_by, reached, with_path, with_paths}
use Rattle.up_policy.specs.Trees.{AccessTexts, GroupTexts, TreeFacts, owns_snapshots}
use Rattle.up_policy.proofs.PathLists.{Contains-behind, Contains-head, among_from_Contains, no_member, with_paths-has, with_paths-keeps}
use Rattle.up_log_tree.specs.declared.node.Node.{Node}
use Rattle.up_log_tree.specs.Rights.{access_node, facts_of, governing_prefix, group_paths, rules_of}
use Rattle.up_log_tree.specs.Trees.{Tree, tree_at}
use Rattle.up_log_tree.proofs.Paths.{path_same, some_none, some_same}
use Rattle.up_mem_tree.specs.Groups.{HaveSameGroups, StayTexts}
use Rattle.up_mem_tree.specs.MemTrees.{TreeLog}
use Rattle.up_foreign.specs.Foreign.{needed_in}
use Rattle.up_foreign.specs.Noted.{AreNoted, HasNeeded}
use Rattle.up_foreign.specs.declared.noted.Noted.{Noted}

-- ---- names that are there

with_old : (names : List PathName) (path : PathName) → Contains names path → with_path names path ≡ names
with_old names path there = ap (λ b. if b then names else names ++ path ∷ []) (among_from_Contains names path there)

-- adding what is there changes nothing
pub same_with : (names more : List PathName) → ((q : PathName) → Contains more q → Contains names q) → with_paths names more ≡ names
same_with names [] all = refl
same_with names (path ∷ more) all =
    ap (λ ns. with_paths ns more) (with_old names path (all path (Contains-head path more)))
    ∙ same_with names more (λ q there. all q (Contains-behind path q more there))

-- ---- the text that governs

module _ (owner : List ℕ) (tree : Tree) where
  abbrev text_in : PathName → Option (List Rule)
  text_in dir = option_map (rules_of owner) (access_node tree dir)

  abbrev has_text : PathName → Bool
  has_text dir = is_some (access_node tree dir)

  first_is : (dirs : List PathName) (dir : PathName) → find has_text dirs ≡ Some dir → first_text text_in dirs ≡ text_in dir
  first_is [] dir h = absurd (some_none dir (sym h))
  first_is (d ∷ ds) dir h = go (access_node tree d) refl (first_is ds dir)
    where
      go : (o : Option Node) → access_node tree d ≡ o → (find has_text ds ≡ Some dir → first_text text_in ds ≡ text_in dir) → first_text text_in (d ∷ ds) ≡ text_in dir
      go None is rest = ap (λ o. option_or (option_map (rules_of owner) o) (first_text text_in ds)) is ∙ rest (sym (ap (λ o. if is_some o then Some d else find has_text ds) is) ∙ h)
      go (Some node) is rest =
          ap (λ o. option_or (option_map (rules_of owner) o) (first_text text_in ds)) is
          ∙ (sym (ap (option_map (rules_of owner)) is) ∙ ap text_in (some_same d dir (sym (ap (λ o. if is_some o then Some d else find has_text ds) is) ∙ h)))

  first_none : (dirs : List PathName) → find has_text dirs ≡ None → first_text text_in dirs ≡ None
  first_none [] h = refl
  first_none (d ∷ ds) h = go (access_node tree d) refl (first_none ds)
    where
      go : (o : Option Node) → access_node tree d ≡ o → (find has_text ds ≡ None → first_text text_in ds ≡ None) → first_text text_in (d ∷ ds) ≡ None
      go None is rest = ap (λ o. option_or (option_map (rules_of owner) o) (first_text text_in ds)) is ∙ rest (sym (ap (λ o. if is_some o then Some d else find has_text ds) is) ∙ h)
      go (Some node) is rest = absurd (some_none d (sym (ap (λ o. if is_some o then Some d else find has_text ds) is) ∙ h))

  governed : (path dir : PathName) → owns_snapshots owner ≡ false → governing_prefix tree path ≡ Some dir → governor (facts_of owner tree) path ≡ (facts_of owner tree).access dir
  unfolding governor facts_of governing_prefix
  governed path dir plain is = ap (λ b. if b then None else first_text text_in (prefixes path)) plain ∙ first_is (prefixes path) dir is

  ungoverned : (path : PathName) → governing_prefix tree path ≡ None → governor (facts_of owner tree) path ≡ None
  unfolding governor facts_of governing_prefix
  ungoverned path is = go (owns_snapshots owner)
    where
      go : (b : Bool) → (if b then None else first_text text_in (prefixes path)) ≡ None
      go true = refl
      go false = first_none (prefixes path) is

module _ (facts : TreeFacts) (listed : List PathName) (loaded : Loading) (path : PathName) where
  needed_none : governor facts path ≡ None → needed facts listed loaded path ≡ []
  unfolding needed
  needed_none h = ap (λ o. elim o as (λ _. List PathName) [ None ↦ [] | Some rules ↦ needed_by facts listed loaded rules ]) h

  needed_some : (rules : List Rule) → governor facts path ≡ Some rules → needed facts listed loaded path ≡ needed_by facts listed loaded rules
  unfolding needed
  needed_some rules h = ap (λ o. elim o as (λ _. List PathName) [ None ↦ [] | Some rules ↦ needed_by facts listed loaded rules ]) h

-- ---- one tree

module _ (owner : List ℕ) (loaded : Loading) (tree : Tree) where
  abbrev needed_here : PathName → List PathName
  needed_here path = needed_in owner loaded (tree, path)

  -- where no text governs nothing is needed
  pub noted_none : (path : PathName) (names now : List PathName) → None ≡ governing_prefix tree path → now ≡ names → now ≡ with_paths names (needed_here path)
  noted_none path names now none same = same ∙ ap (with_paths names) (sym (needed_none (facts_of owner tree) (group_paths tree) loaded path (ungoverned owner tree path (sym none))))

  module _ (plain : owns_snapshots owner ≡ false) (path dir : PathName) (is : Some dir ≡ governing_prefix tree path) where
    governs : governor (facts_of owner tree) path ≡ (facts_of owner tree).access dir
    governs = governed owner tree path dir plain (sym is)

    -- the text was looked at
    pub noted_already : (names : List PathName) → HasNeeded owner loaded tree dir names → names ≡ with_paths names (needed_here path)
    noted_already names noted = sym (same_with names (needed_here path) (λ group wanted. go ((facts_of owner tree).access dir) refl group wanted))
      where
        go : (o : Option (List Rule)) → (facts_of owner tree).access dir ≡ o → (group : PathName) → Contains (needed_here path) group → Contains names group
        go None none group wanted = absurd (no_member group (subst (λ all. Contains all group) (needed_none (facts_of owner tree) (group_paths tree) loaded path (governs ∙ none)) wanted))
        go (Some rules) some group wanted = noted rules some group (subst (λ all. Contains all group) (needed_some (facts_of owner tree) (group_paths tree) loaded path rules (governs ∙ some)) wanted)

    -- the text is looked at now
    needed_now : (names now : List PathName) → now ≡ with_paths names (needed_here path) → HasNeeded owner loaded tree dir now
    needed_now names now added rules text group wanted =
        subst (λ ns. Contains ns group) (sym added)
        (with_paths-has names (needed_here path) group (subst (λ all. Contains all group) (sym (needed_some (facts_of owner tree) (group_paths tree) loaded path rules (governs ∙ text))) wanted))

-- ---- texts that say the same

-- the groups that a text needs go by the Group texts alone
by_groups : (owner : List ℕ) (a b : AccessTexts) (g h : GroupTexts) (listed : List PathName) (loaded : Loading) (rules : List Rule) → g ≡ h →
    needed_by (record { owner = owner; access = a; group = g }) listed loaded rules ≡ needed_by (record { owner = owner; access = b; group = h }) listed loaded rules
unfolding needed_by
by_groups owner a b g h listed loaded rules same =
    ap (λ (texts : GroupTexts). filter (is_wanted (record { owner = owner; access = a; group = g }) loaded) (reached (text_of (record { owner = owner; access = a; group = texts }) loaded) (listed ++ keys_of loaded) (groups_named rules))) same

same_needed : (owner : List ℕ) (loaded : Loading) (one two : Tree) (rules : List Rule) → HaveSameGroups owner one two →
    needed_by (facts_of owner one) (group_paths one) loaded rules ≡ needed_by (facts_of owner two) (group_paths two) loaded rules
unfolding facts_of
same_needed owner loaded one two rules same =
    by_groups owner (facts_of owner one).access (facts_of owner two).access (facts_of owner one).group (facts_of owner two).group (group_paths one) loaded rules same.texts
    ∙ ap (λ listed. needed_by (facts_of owner two) listed loaded rules) same.paths

module _ (tree : TreeLog) (loaded : Loading) where
  -- a text that was looked at needs the same groups still
  pub still_needed : (noted : Noted) (dir : PathName) (at n : ℕ) (names : List PathName) → Some at ≡ entries.find path_cmp dir noted.dirs.entries → StayTexts tree.owner tree.log dir at n → AreNoted tree loaded noted names →
      HasNeeded tree.owner loaded (tree_at tree.log n) dir names
  still_needed noted dir at n names found stay are rules text group wanted =
      are.each dir at (sym found) rules (stay.access ∙ text) group
      (subst (λ all. Contains all group) (sym (same_needed tree.owner loaded (tree_at tree.log at) (tree_at tree.log n) rules stay.groups)) wanted)

  -- none was looked at
  pub none_noted : (noted : Noted) (names : List PathName) → noted.dirs.entries ≡ [] → AreNoted tree loaded noted names
  none_noted noted names none = record { each = λ dir at there. absurd (some_none at (sym there ∙ ap (λ es. entries.find path_cmp dir es) none)) }

  -- more names
  grown : (n : ℕ) (dir : PathName) (names more now : List PathName) → now ≡ with_paths names more → HasNeeded tree.owner loaded (tree_at tree.log n) dir names → HasNeeded tree.owner loaded (tree_at tree.log n) dir now
  grown n dir names more now is noted rules text group wanted = subst (λ ns. Contains ns group) (sym is) (with_paths-keeps names more group (noted rules text group wanted))

  pub noted_grows : (noted : Noted) (names more now : List PathName) → AreNoted tree loaded noted names → now ≡ with_paths names more → AreNoted tree loaded noted now
  noted_grows noted names more now are is = record { each = λ dir at there. grown at dir names more now is (are.each dir at there) }

  -- one text more
  pub noted_one : (plain : owns_snapshots tree.owner ≡ false) (n : ℕ) (path dir : PathName) → Some dir ≡ governing_prefix (tree_at tree.log n) path → (old new : Noted) (names now : List PathName) → AreNoted tree loaded old names →
      now ≡ with_paths names (needed_in tree.owner loaded (tree_at tree.log n, path)) → new.dirs.entries ≡ entries.put path_cmp dir n old.dirs.entries → AreNoted tree loaded new now
  noted_one plain n path dir is old new names now are added more = record { each = by }
    where
      by : (q : PathName) (at : ℕ) → entries.find path_cmp q new.dirs.entries ≡ Some at → HasNeeded tree.owner loaded (tree_at tree.log at) q now
      by q at found =
          go (path_eq q dir) refl (sym (ap (λ es. entries.find path_cmp q es) more ∙ (find-put path_cmp path_cmp_total q dir n old.dirs.entries ∙ ap (λ b. cond b (Some n) (entries.find path_cmp q old.dirs.entries)) (sym (path_cmp_eq q dir)))) ∙ found)
        where
          go : (b : Bool) → path_eq q dir ≡ b → cond b (Some n) (entries.find path_cmp q old.dirs.entries) ≡ Some at → HasNeeded tree.owner loaded (tree_at tree.log at) q now
          go true same there =
              subst (λ k. HasNeeded tree.owner loaded (tree_at tree.log k) q now) (some_same n at there)
              (subst (λ p. HasNeeded tree.owner loaded (tree_at tree.log n) p now) (sym (path_same q dir same)) (needed_now tree.owner loaded (tree_at tree.log n) plain path dir is names now added))
          go false other there = grown at q names (needed_in tree.owner loaded (tree_at tree.log n, path)) now added (are.each q at there)
