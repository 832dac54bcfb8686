-- Rights only grow with what is loaded.
use Rattle.std.proofs.Common.{◌≡◌, ℕ, Bool, true, false, not, ◌&&◌, List, [], ◌∷◌, refl, sym, subst, Option, Some, None, bytes_eq, unwrap_or}
use Rattle.std.specs.Prelude.{Contains, IsTrue, MatchBool, MatchOption, if◌then◌else◌}
use Rattle.std.specs.List.{list_any}
use Rattle.up_names.specs.declared.items.Item.{Item}
use Rattle.up_names.specs.declared.items.Item.TheVariants.{Everyone, Domain, User, Group}
use Rattle.up_names.specs.PathNames.{PathName}
use Rattle.up_rights.specs.declared.Right.{Right}
use Rattle.up_access.specs.declared.Rule.{Rule}
use Rattle.up_policy.specs.declared.load_answer.LoadAnswer.{LoadAnswer}
use Rattle.up_policy.specs.Trees.{TreeFacts, owns_snapshots}
use Rattle.up_policy.specs.Loadings.{loaded_text}
use Rattle.up_policy.specs.Members.{text_of, is_user, groups_in, items_in, Chain}
use Rattle.up_policy.specs.Verdicts.{only_looks, is_control, Means, Grants}
use Rattle.up_policy.specs.Laws.{HasTextsOf, RightsAreMonotone}
use Rattle.up_policy.proofs.PathLists.{no_member}

-- the second texts have each of the first
abbrev HasEach : (less more : PathName → Option (List Item)) → Type 0
HasEach less more = (group : PathName) (items : List Item) → less group ≡ Some items → more group ≡ Some items

module _ (less more : PathName → Option (List Item)) (kept : HasEach less more) where
  -- what holds of the items of a text, and not of no items, stays
  items_kept : (P : List Item → Type 0) → (P [] → ⊥) → (group : PathName) → P (items_in less group) → P (items_in more group)
  items_kept P none group h = from (less group) refl
    where
      from : (found : Option (List Item)) → less group ≡ found → P (items_in more group)
      from None is = absurd (none (subst (λ found. P (unwrap_or found [])) is h))
      from (Some items) is = subst (λ found. P (unwrap_or found [])) (sym (kept group items is)) (subst (λ found. P (unwrap_or found [])) is h)

  chain_kept : (user : List ℕ) (first : PathName) (behind : List PathName) → Chain less user first behind → Chain more user first behind
  chain_kept user first [] h = items_kept (λ items. IsTrue (list_any (is_user user) items)) (λ none. cc) first h
  chain_kept user first (next ∷ behind) h = (items_kept (λ items. Contains (groups_in items) next) (λ none. no_member next none) first h.0, chain_kept user next behind h.1)

  means_kept : (user : List ℕ) (item : Item) → Means less user item → Means more user item
  means_kept user Everyone h = h
  means_kept user (Domain domain) h = h
  means_kept user (User name) h = h
  means_kept user (Group path) h = (h.0, chain_kept user path h.0 h.1)

  grants_kept : (rules : List Rule) (user : List ℕ) (right : Right) → Grants less rules user right → Grants more rules user right
  grants_kept rules user right h = (h.0, h.1, h.2, h.3, (h.4.0, (h.4.1.0, h.4.1.1, h.4.1.2, h.4.1.3, means_kept user h.4.1.1 h.4.1.4)))

-- a text that is found stays where the loaded texts do
texts_kept : (tree : TreeFacts) (less more : List (PathName × LoadAnswer)) → HasTextsOf more less → HasEach (text_of tree less) (text_of tree more)
texts_kept tree less more kept group items h = from (bytes_eq group.owner tree.owner) h
  where
    from : (own : Bool) → (if own then tree.group group else loaded_text less group) ≡ Some items → (if own then tree.group group else loaded_text more group) ≡ Some items
    from true h = h
    from false h = kept group items h

-- case by case
match_kept : (b : Bool) (P Q R : Type 0) → (Q → R) → MatchBool b P Q → MatchBool b P R
match_kept true P Q R f h = h
match_kept false P Q R f h = f h

by_text : (tree : TreeFacts) (less more : PathName → Option (List Item)) → HasEach less more → (user : List ℕ) (right : Right) (text : Option (List Rule)) → MatchOption text (user ≡ tree.owner) (λ rules. Grants less rules user right) → MatchOption text (user ≡ tree.owner) (λ rules. Grants more rules user right)
by_text tree less more kept user right None h = h
by_text tree less more kept user right (Some rules) h = grants_kept less more kept rules user right h

pub rights_are_monotone : RightsAreMonotone
rights_are_monotone tree less more user right path kept =
    match_kept (owns_snapshots tree.owner) _ _ _
    (match_kept (bytes_eq user tree.owner && only_looks right) _ _ _
    (match_kept (is_control path && not (only_looks right)) _ _ _
    (λ h. (h.0, h.1, by_text tree (text_of tree less) (text_of tree more) (texts_kept tree less more kept) user right h.0 h.2))))
