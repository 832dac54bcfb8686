-- The rights of a user in a directory whose Access file gives all to one user.
use Rattle.std.proofs.Common.{◌≡◌, ℕ, zero, suc, ◌<◌, Bool, true, false, not, ◌&&◌, ◌||◌, List, [], ◌∷◌, ◌++◌, length, refl, ap, ◌∙◌, arith, Option, Some, None, bytes_eq}
use Rattle.std.specs.Prelude.{if◌then◌else◌, Result}
use Rattle.std.specs.List.{list_any}
use Rattle.std.specs.Map.{keys_of}
use Rattle.std.specs.Option.{option_map, option_or}
use Rattle.std.proofs.lemmas.Slice.Eq.{bytes_eq-Decides}
use Rattle.up_access.specs.declared.Rule.{Rule}
use Rattle.up_answers.proofs.RightLemmas.{decided}
use Rattle.up_list.specs.Looks.{Look, rights}
use Rattle.up_log_tree.specs.Rights.{access_node, access_path, facts_of, group_paths, rules_of, said}
use Rattle.up_log_tree.specs.Trees.{Tree, node_at}
use Rattle.up_log_tree.specs.declared.node.Node.{Node}
use Rattle.up_names.specs.PathNames.{PathName}
use Rattle.up_names.specs.Texts.{Text, UserName}
use Rattle.up_names.specs.UserNames.{base_of}
use Rattle.up_names.specs.declared.fault.TextFault.{TextFault}
use Rattle.up_names.specs.declared.items.Item.{Item}
use Rattle.up_names.specs.declared.items.Item.TheVariants.{User}
use Rattle.up_plots.specs.Plots.{HasPlot, IsFlat, all_to, file_path, plot_path}
use Rattle.up_policy.specs.Governors.{first_text, governor, prefixes}
use Rattle.up_policy.specs.Loadings.{Loading}
use Rattle.up_policy.specs.Members.{has_user, text_of}
use Rattle.up_policy.specs.Reached.{after_look, met_after, nameable, reached}
use Rattle.up_policy.specs.Trees.{GroupTexts, TreeFacts, owns_snapshots}
use Rattle.up_policy.specs.Verdicts.{grants, is_control, items_for, only_looks, right_test, rights_held, text_decides, without_text}
use Rattle.up_rights.specs.RightSets.{Rights, all_rights, no_rights}
use Rattle.up_rights.specs.declared.Right.{Right}
use Rattle.up_rights.specs.declared.Right.TheVariants.{Create, Delete, List as ListRight, Read, Write}

-- ---- an item that is a user grants that user alone, whatever groups there are

-- no group is met where none is named
none_met : (texts : GroupTexts) (n : ℕ) → met_after texts [] n ≡ []
none_met texts zero = refl
none_met texts (suc n) = ap (λ (met : List PathName). after_look texts n met) (none_met texts n)

-- no group is reached where none is named
none_reached : (texts : GroupTexts) (listed : List PathName) → reached texts listed [] ≡ []
unfolding reached
none_reached texts listed = none_met texts (length (nameable texts listed []))

-- what holds or nothing else
or_false : (b : Bool) → (b || false) ≡ b
or_false true = refl
or_false false = refl

user_granted : (texts : GroupTexts) (listed : List PathName) (user other : UserName) → grants texts listed user (User other ∷ []) ≡ bytes_eq other user
unfolding grants
user_granted texts listed user other =
    ap (λ (met : List PathName). (bytes_eq other user || false) || list_any (has_user texts user) met) (none_reached texts listed)
    ∙ or_false (bytes_eq other user || false) ∙ or_false (bytes_eq other user)

-- for each right the one item is the user
all_items : (user : UserName) (right : Right) → items_for right (all_to user) ≡ User user ∷ []
all_items user Read = refl
all_items user Write = refl
all_items user ListRight = refl
all_items user Create = refl
all_items user Delete = refl

-- what a text that gives all to one user decides for another
all_decide : (facts : TreeFacts) (listed : List PathName) (loaded : Loading) (user other : UserName) (right : Right)
    → text_decides facts listed loaded user right (Some (all_to other)) ≡ bytes_eq other user
unfolding text_decides
all_decide facts listed loaded user other right =
    ap (λ (items : List Item). grants (text_of facts loaded) (listed ++ keys_of loaded) user items) (all_items other right)
    ∙ user_granted (text_of facts loaded) (listed ++ keys_of loaded) user other

-- where no text governs, the owner alone has the right
none_decide : (facts : TreeFacts) (listed : List PathName) (loaded : Loading) (user : UserName) (right : Right)
    → text_decides facts listed loaded user right None ≡ bytes_eq user facts.owner
unfolding text_decides
none_decide facts listed loaded user right = refl

-- ---- which text governs

module _ (owner : UserName) (tree : Tree) (flat : IsFlat owner tree) where
  -- nothing stands deeper than a file in a directory of the root
  pub nothing_deep : (path : PathName) → 2 < length path.elements → node_at tree path ≡ None
  nothing_deep path deep = go (node_at tree path) refl
    where
      go : (found : Option Node) → node_at tree path ≡ found → found ≡ None
      go None is = refl
      go (Some node) is = absurd (let short = flat.short path node is in omega (arith, short, deep))

  -- the text of a directory
  abbrev text_in : PathName → Option (List Rule)
  text_in dir = option_map (rules_of owner) (access_node tree dir)

  -- a text or none
  or_none : (text : Option (List Rule)) → option_or text None ≡ text
  or_none None = refl
  or_none (Some rules) = refl

  module _ (plain : owns_snapshots owner ≡ false) (name : Text) where
    -- the text of a directory governs each file in it
    pub file_governed : (file : Text) → governor (facts_of owner tree) (file_path owner name file) ≡ text_in (plot_path owner name)
    unfolding governor facts_of
    file_governed file =
        let deep : 2 < length (access_path (file_path owner name file)).elements = let e : length (access_path (file_path owner name file)).elements ≡ 3 = refl in omega (arith, e) in
        ap (λ (b : Bool). if b then None else first_text text_in (prefixes (file_path owner name file))) plain
        ∙ ap (λ (o : Option Node). option_or (option_map (rules_of owner) o) (option_or (text_in (plot_path owner name)) (option_or (text_in (record { owner = owner; elements = [] })) None)))
        (nothing_deep (access_path (file_path owner name file)) deep)
        ∙ ap (λ (o : Option Node). option_or (text_in (plot_path owner name)) (option_or (option_map (rules_of owner) o) None)) flat.ungoverned
        ∙ or_none (text_in (plot_path owner name))

    -- and the directory itself
    pub plot_governed : governor (facts_of owner tree) (plot_path owner name) ≡ text_in (plot_path owner name)
    unfolding governor facts_of
    plot_governed =
        ap (λ (b : Bool). if b then None else first_text text_in (prefixes (plot_path owner name))) plain
        ∙ ap (λ (o : Option Node). option_or (text_in (plot_path owner name)) (option_or (option_map (rules_of owner) o) None)) flat.ungoverned
        ∙ or_none (text_in (plot_path owner name))

    -- it gives all to the user for whom it is
    plot_text : (user : UserName) → HasPlot owner tree name user → text_in (plot_path owner name) ≡ Some (all_to user)
    plot_text user plot =
        ap (λ (o : Option Node). option_map (rules_of owner) o) plot.stands
        ∙ ap (λ (r : Result (List Rule) TextFault). Some (said r)) plot.rules

-- ---- what the user may do

module _ (owner user : UserName) (stranger : bytes_eq user owner ≡ false) (plain : owns_snapshots owner ≡ false) (tree : Tree) (listed : List PathName) (loaded : Loading) where
  -- on an ordinary path the text that governs decides
  text_decided : (path : PathName) (right : Right) → is_control path ≡ false
      → right_test (facts_of owner tree) listed loaded user right path ≡ text_decides (facts_of owner tree) listed loaded user right (governor (facts_of owner tree) path)
  unfolding right_test without_text facts_of
  text_decided path right ordinary =
      let base : Bool = only_looks right && bytes_eq user (base_of owner) in
      let text : Bool = text_decides (facts_of owner tree) listed loaded user right (governor (facts_of owner tree) path) in
      ap (λ (s : Bool). decided s base (bytes_eq user owner && only_looks right) (is_control path && not (only_looks right)) (bytes_eq user owner) text) plain
      ∙ ap (λ (o : Bool). decided false base (o && only_looks right) (is_control path && not (only_looks right)) (bytes_eq user owner) text) stranger
      ∙ ap (λ (c : Bool). decided false base false (c && not (only_looks right)) (bytes_eq user owner) text) ordinary

  -- so what the text decides is decided
  by_text : (path : PathName) (text : Option (List Rule)) → is_control path ≡ false → governor (facts_of owner tree) path ≡ text → (right : Right)
      → right_test (facts_of owner tree) listed loaded user right path ≡ text_decides (facts_of owner tree) listed loaded user right text
  by_text path text ordinary governed right =
      text_decided path right ordinary ∙ ap (λ (t : Option (List Rule)). text_decides (facts_of owner tree) listed loaded user right t) governed

-- the rights of five tests
abbrev record_rights : Bool → Bool → Bool → Bool → Bool → Rights
record_rights a b c d e = record { read = a; write = b; list = c; create = d; delete = e }

-- five tests with one answer give all rights or none
same_five : (a b c d e v : Bool) → a ≡ v → b ≡ v → c ≡ v → d ≡ v → e ≡ v
    → ◌≡◌ {A = Rights} (record { read = a; write = b; list = c; create = d; delete = e }) (record { read = v; write = v; list = v; create = v; delete = v })
same_five a b c d e v p q r s t =
    ap (λ (x : Bool). record_rights x b c d e) p ∙ ap (λ (x : Bool). record_rights v x c d e) q ∙ ap (λ (x : Bool). record_rights v v x d e) r
    ∙ ap (λ (x : Bool). record_rights v v v x e) s ∙ ap (λ (x : Bool). record_rights v v v v x) t

module _ (look : Look) (stranger : bytes_eq look.user look.owner ≡ false) (plain : owns_snapshots look.owner ≡ false) (flat : IsFlat look.owner look.tree) where
  -- where each right is decided alike, all are held or none
  rights_by : (path : PathName) (value : Bool) → ((right : Right) → right_test (facts_of look.owner look.tree) (group_paths look.tree) look.loaded look.user right path ≡ value)
      → rights look path ≡ record { read = value; write = value; list = value; create = value; delete = value }
  unfolding rights rights_held
  rights_by path value each =
      let facts = facts_of look.owner look.tree in
      let has = λ (right : Right). right_test facts (group_paths look.tree) look.loaded look.user right path in
      same_five (has Read) (has Write) (has ListRight) (has Create) (has Delete) value (each Read) (each Write) (each ListRight) (each Create) (each Delete)

  -- the owner is that of the tree
  facts_owner : (facts_of look.owner look.tree).owner ≡ look.owner
  unfolding facts_of
  facts_owner = refl

  module _ (name : Text) where
    module _ (path : PathName) (ordinary : is_control path ≡ false) (governed : governor (facts_of look.owner look.tree) path ≡ option_map (rules_of look.owner) (access_node look.tree (plot_path look.owner name))) where
      -- what the text of a directory gives to the user
      text_gives : (other : UserName) → HasPlot look.owner look.tree name other → (right : Right)
          → right_test (facts_of look.owner look.tree) (group_paths look.tree) look.loaded look.user right path ≡ bytes_eq other look.user
      text_gives other plot right =
          by_text look.owner look.user stranger plain look.tree (group_paths look.tree) look.loaded path (Some (all_to other)) ordinary (governed ∙ plot_text look.owner look.tree flat plain name other plot) right
          ∙ all_decide (facts_of look.owner look.tree) (group_paths look.tree) look.loaded look.user other right

      -- the user for whom the Access file is has all rights
      pub own_rights : HasPlot look.owner look.tree name look.user → rights look path ≡ all_rights
      own_rights plot = rights_by path true (λ right. text_gives look.user plot right ∙ (bytes_eq-Decides look.user look.user).1 refl)

      -- any other has none
      pub other_rights : (other : UserName) → HasPlot look.owner look.tree name other → bytes_eq other look.user ≡ false → rights look path ≡ no_rights
      other_rights other plot apart = rights_by path false (λ right. text_gives other plot right ∙ apart)

      -- and none but the owner has any where the directory has no Access file
      pub no_access_rights : access_node look.tree (plot_path look.owner name) ≡ None → rights look path ≡ no_rights
      no_access_rights none = rights_by path false (λ right.
          by_text look.owner look.user stranger plain look.tree (group_paths look.tree) look.loaded path None ordinary (governed ∙ ap (λ (o : Option Node). option_map (rules_of look.owner) o) none) right
          ∙ none_decide (facts_of look.owner look.tree) (group_paths look.tree) look.loaded look.user right
          ∙ ap (λ (o : UserName). bytes_eq look.user o) facts_owner ∙ stranger)
