-- Loops that go over a list: what is left gives what all gives.
use Rattle.std.proofs.Common.{◌≡◌, ℕ, suc, ◌+◌, ◌<◌, ◌≤◌, Bool, true, false, ◌||◌, List, [], ◌∷◌, ◌++◌, length, drop, get_or, refl, sym, ap, subst, ◌∙◌, arith, Option, Some, None, slice_get, filter, add-one, append_assoc, append-nil, T}
use Rattle.std.specs.Prelude.{if◌then◌else◌}
use Rattle.std.proofs.Math.Seq.{drop-cons}
use Rattle.std.specs.Cmp.{tied_itself}
use Rattle.std.specs.FinMap.Entries.{is_sorted}
use Rattle.std.specs.List.{AllByRecursion, flat_map, list_any}
use Rattle.std.specs.List.Sorted.{IsStrictlySortedBy}
use Rattle.std.specs.Map.{keys_of}
use Rattle.std.specs.Ordering.{is_eq, ordering_reverse}
use Rattle.std.specs.declared.cmp.Ordering.TheVariants.{Less, Equal, Greater}
use Rattle.std.proofs.lemmas.List.{drop_all}
use Rattle.std.proofs.lemmas.List.Elements.{filter-append}
use Rattle.std.proofs.lemmas.List.Sums.{fold-append}
use Rattle.std.proofs.lemmas.Option.{get_or_from_slice_get, slice_get_within}
use Rattle.up_names.specs.declared.items.Item.{Item}
use Rattle.up_names.specs.declared.items.Item.TheVariants.{User}
use Rattle.up_names.specs.PathNames.{PathName}
use Rattle.up_names.specs.PathOrder.{path_cmp, path_eq}
use Rattle.up_names.specs.PathOrderLaws.{path_cmp_eq, path_cmp_total}
use Rattle.up_rights.specs.declared.Right.TheVariants.{Read}
use Rattle.up_access.specs.declared.Rule.{Rule}
use Rattle.up_policy.specs.Loadings.{Loading}
use Rattle.up_policy.specs.Loadings.{Loading}
use Rattle.up_policy.specs.Members.{groups_in, items_in, text_of}
use Rattle.up_policy.specs.Reached.{is_among, with_path, with_paths}
use Rattle.up_policy.specs.Trees.{GroupTexts, TreeFacts}
use Rattle.up_policy.specs.Verdicts.{items_by, items_for}
use Rattle.up_policy.proofs.MetLemmas.{granted_more}
use Rattle.up_share.specs.Orders.{Keys, item_cmp, with_key, with_keys}
use Rattle.up_share.specs.Readers.{is_plain, lacking, lacks_text, met_groups, readers_by, standing}
use Rattle.up_share.proofs.SetLemmas.{T_is, is_T, sorted_more, strictly}

module _ {S X : Type 0} (run : S → List X → S) (one : S → X → S) (more : (s : S) (x : X) (xs : List X) → run s (x ∷ xs) ≡ run (one s x) xs) where
  -- the next of a list
  step : (old now all : S) (xs : List X) (i : ℕ) (x : X) → i < length xs → x ≡ get_or xs i x → now ≡ one old x → run old (drop i xs) ≡ all → run now (drop (i + 1) xs) ≡ all
  step old now all xs i x within is added before =
      let next : drop i xs ≡ x ∷ drop (i + 1) xs = drop-cons xs i x within ∙ (ap (λ y. y ∷ drop (suc i) xs) (sym is) ∙ ap (λ n. x ∷ drop n xs) (sym (add-one i))) in
      ap (λ s. run s (drop (i + 1) xs)) added ∙ (sym (more old x (drop (i + 1) xs)) ∙ (ap (run old) (sym next) ∙ before))

  pub step_at : (old now all : S) (xs : List X) (i : ℕ) (x : X) → Some x ≡ slice_get xs i → now ≡ one old x → run old (drop i xs) ≡ all → run now (drop (i + 1) xs) ≡ all
  step_at old now all xs i x at added before = step old now all xs i x (slice_get_within xs i x (sym at)) (sym (get_or_from_slice_get xs i x x (sym at))) added before

  -- nothing is left
  pub end : ((s : S) → run s [] ≡ s) → (now all : S) (xs : List X) (i : ℕ) → length xs ≤ i → run now (drop i xs) ≡ all → now ≡ all
  end none now all xs i last before = sym (none now) ∙ (ap (run now) (sym (drop_all i xs last)) ∙ before)

-- ---- the users, the domains and everyone among items

abbrev pub with_plain : Keys Item → List Item → Keys Item
with_plain readers items = with_keys item_cmp readers (filter is_plain items)

abbrev pub with_item : Keys Item → Item → Keys Item
with_item readers item = if is_plain item then with_key item_cmp readers item else readers

plain_more : (readers : Keys Item) (item : Item) (items : List Item) → with_plain readers (item ∷ items) ≡ with_plain (with_item readers item) items
plain_more readers item items = go (is_plain item)
  where
    go : (b : Bool) → with_keys item_cmp readers (if b then item ∷ filter is_plain items else filter is_plain items) ≡ with_plain (if b then with_key item_cmp readers item else readers) items
    go true = refl
    go false = refl

pub plain_step : (old now all : Keys Item) (items : List Item) (i : ℕ) (item : Item) → i < length items → item ≡ get_or items i item → now ≡ with_item old item → with_plain old (drop i items) ≡ all → with_plain now (drop (i + 1) items) ≡ all
plain_step = step with_plain with_item plain_more

pub plain_end : (now all : Keys Item) (items : List Item) (i : ℕ) → length items ≤ i → with_plain now (drop i items) ≡ all → now ≡ all
plain_end = end with_plain with_item plain_more (λ s. refl)

with_two : (readers : Keys Item) (one more : List Item) → with_plain readers (one ++ more) ≡ with_plain (with_plain readers one) more
with_two readers one more = ap (with_keys item_cmp readers) (filter-append is_plain one more) ∙ fold-append (with_key item_cmp) readers (filter is_plain one) (filter is_plain more)

-- those among the items of rules
abbrev pub with_granted : Keys Item → List Rule → Keys Item
with_granted readers rules = with_plain readers (items_for Read rules)

abbrev pub with_rule : Keys Item → Rule → Keys Item
with_rule readers rule = with_plain readers (items_by Read rule)

granted_next : (readers : Keys Item) (rule : Rule) (rules : List Rule) → with_granted readers (rule ∷ rules) ≡ with_granted (with_rule readers rule) rules
granted_next readers rule rules = with_two readers (items_by Read rule) (items_for Read rules)

pub granted_step : (old now all : Keys Item) (rules : List Rule) (i : ℕ) (rule : Rule) → i < length rules → rule ≡ get_or rules i rule → now ≡ with_rule old rule → with_granted old (drop i rules) ≡ all → with_granted now (drop (i + 1) rules) ≡ all
granted_step = step with_granted with_rule granted_next

pub granted_end : (now all : Keys Item) (rules : List Rule) (i : ℕ) → length rules ≤ i → with_granted now (drop i rules) ≡ all → now ≡ all
granted_end = end with_granted with_rule granted_next (λ s. refl)

-- those among the items of the texts of groups
module _ (texts : GroupTexts) where
  abbrev pub with_members : Keys Item → List PathName → Keys Item
  with_members readers groups = with_plain readers (flat_map (items_in texts) groups)

  abbrev pub with_group : Keys Item → PathName → Keys Item
  with_group readers group = with_plain readers (items_in texts group)

  members_next : (readers : Keys Item) (group : PathName) (groups : List PathName) → with_members readers (group ∷ groups) ≡ with_members (with_group readers group) groups
  members_next readers group groups = with_two readers (items_in texts group) (flat_map (items_in texts) groups)

  pub members_step : (old now all : Keys Item) (groups : List PathName) (i : ℕ) (group : PathName) → Some group ≡ slice_get groups i → now ≡ with_group old group → with_members old (drop i groups) ≡ all → with_members now (drop (i + 1) groups) ≡ all
  members_step = step_at with_members with_group members_next

  pub members_end : (now all : Keys Item) (groups : List PathName) (i : ℕ) → length groups ≤ i → with_members now (drop i groups) ≡ all → now ≡ all
  members_end = end with_members with_group members_next (λ s. refl)

-- ---- the groups among the items of rules

abbrev pub with_starts : List PathName → List Rule → List PathName
with_starts met rules = with_paths met (groups_in (items_for Read rules))

abbrev pub with_rule_groups : List PathName → Rule → List PathName
with_rule_groups met rule = with_paths met (groups_in (items_by Read rule))

pub starts_step : (old now all : List PathName) (rules : List Rule) (i : ℕ) (rule : Rule) → i < length rules → rule ≡ get_or rules i rule → now ≡ with_rule_groups old rule → with_starts old (drop i rules) ≡ all → with_starts now (drop (i + 1) rules) ≡ all
starts_step = step with_starts with_rule_groups (λ met rule rules. granted_more met Read rule rules)

pub starts_end : (now all : List PathName) (rules : List Rule) (i : ℕ) → length rules ≤ i → with_starts now (drop i rules) ≡ all → now ≡ all
starts_end = end with_starts with_rule_groups (λ met rule rules. granted_more met Read rule rules) (λ s. refl)

-- ---- the groups that are unread

module _ (test : PathName → Bool) where
  abbrev pub with_those : Keys PathName → List PathName → Keys PathName
  with_those paths groups = with_keys path_cmp paths (filter test groups)

  abbrev pub with_that : Keys PathName → PathName → Keys PathName
  with_that paths group = if test group then with_key path_cmp paths group else paths

  those_more : (paths : Keys PathName) (group : PathName) (groups : List PathName) → with_those paths (group ∷ groups) ≡ with_those (with_that paths group) groups
  those_more paths group groups = go (test group)
    where
      go : (b : Bool) → with_keys path_cmp paths (if b then group ∷ filter test groups else filter test groups) ≡ with_those (if b then with_key path_cmp paths group else paths) groups
      go true = refl
      go false = refl

  pub those_step : (old now all : Keys PathName) (groups : List PathName) (i : ℕ) (group : PathName) → Some group ≡ slice_get groups i → now ≡ with_that old group → with_those old (drop i groups) ≡ all → with_those now (drop (i + 1) groups) ≡ all
  those_step = step_at with_those with_that those_more

  pub those_end : (now all : Keys PathName) (groups : List PathName) (i : ℕ) → length groups ≤ i → with_those now (drop i groups) ≡ all → now ≡ all
  those_end = end with_those with_that those_more (λ s. refl)

-- ---- copies, one after the other

module _ {X : Type 0} where
  abbrev pub joined : List X → List X → List X
  joined copies left = copies ++ left

  abbrev pub pushed : List X → X → List X
  pushed copies x = copies ++ x ∷ []

  joined_more : (copies : List X) (x : X) (left : List X) → joined copies (x ∷ left) ≡ joined (pushed copies x) left
  joined_more copies x left = sym (append_assoc copies (x ∷ []) left)

  pub copies_step : (old now all xs : List X) (i : ℕ) (x : X) → Some x ≡ slice_get xs i → now ≡ pushed old x → joined old (drop i xs) ≡ all → joined now (drop (i + 1) xs) ≡ all
  copies_step old now all xs i x at added before = step_at joined pushed joined_more old now all xs i x at added before

  pub copies_end : (now all xs : List X) (i : ℕ) → length xs ≤ i → joined now (drop i xs) ≡ all → now ≡ all
  copies_end now all xs i last before = end joined pushed joined_more append-nil now all xs i last before

pub names_step : (old now all : List PathName) (paths : List PathName) (i : ℕ) (path : PathName) → Some path ≡ slice_get paths i → now ≡ with_path old path → with_paths old (drop i paths) ≡ all → with_paths now (drop (i + 1) paths) ≡ all
names_step = step_at with_paths with_path (λ s x xs. refl)

pub names_end : (now all : List PathName) (paths : List PathName) (i : ℕ) → length paths ≤ i → with_paths now (drop i paths) ≡ all → now ≡ all
names_end = end with_paths with_path (λ s x xs. refl) (λ s. refl)

-- paths in order are all new
not_before : (path other : PathName) → path_cmp path other ≡ Less → path_eq other path ≡ false
not_before path other h = path_cmp_eq other path ∙ ap is_eq (path_cmp_total.antisymm other path ∙ ap ordering_reverse h)

new_behind : (front : List PathName) (path : PathName) (paths : List PathName) → AllByRecursion (λ other. is_among front other ≡ false) paths → AllByRecursion (λ other. path_cmp path other ≡ Less) paths → AllByRecursion (λ other. is_among (front ++ path ∷ []) other ≡ false) paths
new_behind front path [] fresh below = tt
new_behind front path (other ∷ paths) fresh below = (not_among front fresh.0, new_behind front path paths fresh.1 below.1)
  where
    not_among : (front : List PathName) → is_among front other ≡ false → is_among (front ++ path ∷ []) other ≡ false
    not_among [] h = ap (λ b. b || false) (not_before path other below.0)
    not_among (first ∷ front) h = go (path_eq other first) h (not_among front)
      where
        go : (b : Bool) → (b || is_among front other) ≡ false → (is_among front other ≡ false → is_among (front ++ path ∷ []) other ≡ false) → (b || is_among (front ++ path ∷ []) other) ≡ false
        go true h later = h
        go false h later = later h

all_new : (front paths : List PathName) → AllByRecursion (λ other. is_among front other ≡ false) paths → IsStrictlySortedBy path_cmp paths → with_paths front paths ≡ front ++ paths
unfolding IsStrictlySortedBy
all_new front [] fresh sorted = sym (append-nil front)
all_new front (path ∷ paths) fresh sorted =
    ap (λ b. with_paths (if b then front else front ++ path ∷ []) paths) fresh.0
    ∙ (all_new (front ++ path ∷ []) paths (new_behind front path paths fresh.1 sorted.0) sorted.1
    ∙ append_assoc front (path ∷ []) paths)

none_among : (paths : List PathName) → AllByRecursion (λ other. is_among [] other ≡ false) paths
none_among [] = tt
none_among (path ∷ paths) = (refl, none_among paths)

pub names_are : (paths : Keys PathName) → is_sorted path_cmp paths ≡ true → with_paths [] (keys_of paths) ≡ keys_of paths
names_are paths sorted = all_new [] (keys_of paths) (none_among (keys_of paths)) (strictly path_cmp path_cmp_total paths (is_T (is_sorted path_cmp paths) sorted))

-- the keys that were put are in order
pub put_sorted : (paths : List PathName) (now : Keys PathName) → now ≡ with_keys path_cmp [] paths → is_sorted path_cmp now ≡ true
put_sorted paths now is = ap (is_sorted path_cmp) is ∙ T_is (is_sorted path_cmp (with_keys path_cmp [] paths)) (sorted_more path_cmp path_cmp_total [] paths tt)

-- all who read by rules: the owner, those in the rules, and those in the groups that are met
pub gathered : (tree : TreeFacts) (listed : List PathName) (loaded : Loading) (rules : List Rule) (met : List PathName) (none one two all : Keys Item) →
    none ≡ [] → met ≡ met_groups tree listed loaded rules → one ≡ with_key item_cmp none (User tree.owner) → two ≡ with_granted one rules → all ≡ with_members (text_of tree loaded) two met → keys_of all ≡ readers_by tree listed loaded rules
unfolding readers_by standing
gathered tree listed loaded rules met none one two all nothing met_is owner granted members =
    ap keys_of (members
    ∙ (ap (λ groups. with_members (text_of tree loaded) two groups) met_is
    ∙ (ap (λ readers. with_members (text_of tree loaded) readers (met_groups tree listed loaded rules)) granted
    ∙ (sym (with_two one (items_for Read rules) (flat_map (items_in (text_of tree loaded)) (met_groups tree listed loaded rules)))
    ∙ ap (λ readers. with_plain readers (items_for Read rules ++ flat_map (items_in (text_of tree loaded)) (met_groups tree listed loaded rules))) (owner ∙ ap (λ readers. with_key item_cmp readers (User tree.owner)) nothing)))))

pub gathered_unread : (tree : TreeFacts) (listed : List PathName) (loaded : Loading) (rules : List Rule) (met : List PathName) (old now : Keys PathName) →
    met ≡ met_groups tree listed loaded rules → now ≡ with_those (lacks_text tree loaded) old met → now ≡ with_keys path_cmp old (lacking tree listed loaded rules)
unfolding lacking
gathered_unread tree listed loaded rules met old now met_is unread = unread ∙ ap (with_those (lacks_text tree loaded) old) met_is

-- there are as many keys as entries
pub keys_long : {K V : Type 0} (entries : List (K × V)) → length (keys_of entries) ≡ length entries
keys_long [] = refl
keys_long (entry ∷ entries) = ap suc (keys_long entries)
