-- What is not needed changes no right.
use Rattle.std.proofs.Common.{◌≡◌, ℕ, zero, suc, ◌<◌, ◌≤◌, Bool, true, false, not, ◌&&◌, cond, List, [], ◌∷◌, ◌++◌, length, refl, sym, ap, subst, ◌∙◌, inl, inr, arith, Option, Some, None, bytes_eq, unwrap_or}
use Rattle.std.specs.Prelude.{Contains, IsTrue, MatchBool, MatchOption, if◌then◌else◌, filter, is_none, slice_get}
use Rattle.std.specs.List.{list_any}
use Rattle.std.specs.Map.{keys_of}
use Rattle.std.specs.Option.{option_and_then}
use Rattle.std.proofs.lemmas.Bool.{false≢true}
use Rattle.up_names.specs.declared.items.Item.{Item}
use Rattle.up_names.specs.declared.items.Item.TheVariants.{Everyone, Domain, User, Group}
use Rattle.up_names.specs.PathNames.{PathName}
use Rattle.up_rights.specs.declared.Right.{Right}
use Rattle.up_access.specs.declared.Rule.{Rule}
use Rattle.up_policy.specs.declared.load_answer.LoadAnswer.{LoadAnswer}
use Rattle.up_policy.specs.Trees.{TreeFacts, owns_snapshots}
use Rattle.up_policy.specs.Loadings.{Loading, text_in, answer_for, loaded_text}
use Rattle.up_policy.specs.Governors.{Governs, governor}
use Rattle.up_policy.specs.Members.{is_user, text_of, groups_in, names_in, Chain}
use Rattle.up_policy.specs.Reached.{reached, groups_named, is_wanted, needed_by, needed}
use Rattle.up_policy.specs.Verdicts.{only_looks, is_control, Means, Grants}
use Rattle.up_policy.specs.Laws.{ListsGroups, HasTextsOf}
use Rattle.up_policy.proofs.PathLists.{no_member, Contains-cons, Contains-flat_map, place_of, with_paths-has}
use Rattle.up_policy.proofs.GovernorLemmas.{governor_is_one}
use Rattle.up_policy.proofs.MonotoneLemmas.{rights_are_monotone}
use Rattle.up_policy.proofs.ReachedLemmas.{Lists, looked_closed, reached_whole, met_reached}
use Rattle.up_policy.proofs.VerdictLemmas.{lists_texts, group_among}
use Rattle.up_log_tree.proofs.Paths.{some_none}
use Rattle.up_answers.specs.Laws.{Extends, RightsAreSettled}

-- none of a list passes
none_pass : (test : PathName → Bool) (xs : List PathName) → filter test xs ≡ [] → (x : PathName) → Contains xs x → test x ≡ false
none_pass test [] h x there = absurd (no_member x there)
none_pass test (y ∷ xs) h x there = go (test y) refl h
  where
    rest : filter test xs ≡ [] → Contains xs x → test x ≡ false
    rest h there = none_pass' xs h there
      where
        none_pass' : (xs : List PathName) → filter test xs ≡ [] → Contains xs x → test x ≡ false
        none_pass' [] h there = absurd (no_member x there)
        none_pass' (z ∷ zs) h there = step (test z) refl h (none_pass' zs)
          where
            step : (b : Bool) → test z ≡ b → cond b (z ∷ filter test zs) (filter test zs) ≡ [] → (filter test zs ≡ [] → Contains zs x → test x ≡ false) → test x ≡ false
            step true e h r = absurd (cc)
            step false e h r = elim (Contains-cons z x zs there) [ inl same ↦ ap test (sym same) ∙ e | inr behind ↦ r h behind ]

    go : (b : Bool) → test y ≡ b → cond b (y ∷ filter test xs) (filter test xs) ≡ [] → test x ≡ false
    go true e h = absurd (cc)
    go false e h = elim (Contains-cons y x xs there) [ inl same ↦ ap test (sym same) ∙ e | inr behind ↦ rest h behind ]

-- a text that was loaded is loaded still
extends_texts : (less more : Loading) → Extends less more → HasTextsOf more less
extends_texts less more extends group items h = go (answer_for less group) refl h
  where
    go : (o : Option LoadAnswer) → answer_for less group ≡ o → option_and_then text_in o ≡ Some items → loaded_text more group ≡ Some items
    go None e h = absurd (some_none items (sym h))
    go (Some answer) e h = ap (option_and_then text_in) (extends group answer e) ∙ h

module _ (tree : TreeFacts) (listed : List PathName) (less more : Loading) (user : List ℕ) (lists : ListsGroups tree listed) (extends : Extends less more) (rules : List Rule) (none : needed_by tree listed less rules ≡ []) where
  texts : PathName → Option (List Item)
  texts = text_of tree less

  found : List PathName
  found = reached (text_of tree less) (listed ++ keys_of less) (groups_named rules)

  whole : Lists (text_of tree less) (listed ++ keys_of less)
  whole = lists_texts tree listed less lists

  -- a reached group has one text
  one_text : (group : PathName) → Contains (reached (text_of tree less) (listed ++ keys_of less) (groups_named rules)) group → text_of tree more group ≡ text_of tree less group
  unfolding needed_by
  one_text group there = go (bytes_eq group.owner tree.owner) refl (answer_for less group) refl (none_pass (is_wanted tree less) (reached (text_of tree less) (listed ++ keys_of less) (groups_named rules)) none group there)
    where
      go : (b : Bool) → bytes_eq group.owner tree.owner ≡ b → (o : Option LoadAnswer) → answer_for less group ≡ o → (not (bytes_eq group.owner tree.owner) && is_none (answer_for less group)) ≡ false → text_of tree more group ≡ text_of tree less group
      go true e o f h = ap (λ b. if b then tree.group group else loaded_text more group) e ∙ sym (ap (λ b. if b then tree.group group else loaded_text less group) e)
      go false e (Some answer) f h = ap (λ a. if bytes_eq group.owner tree.owner then tree.group group else option_and_then text_in a) (extends group answer f ∙ sym f)
      go false e None f h = absurd (false≢true (sym (sym (ap (λ b. not b && is_none (answer_for less group)) e ∙ ap is_none f) ∙ h)))

  -- what a reached group names is reached
  closed : (group next : PathName) → Contains (reached (text_of tree less) (listed ++ keys_of less) (groups_named rules)) group → Contains (names_in (text_of tree less) group) next → Contains (reached (text_of tree less) (listed ++ keys_of less) (groups_named rules)) next
  closed group next there named =
      let is = reached_whole (text_of tree less) (groups_named rules) (listed ++ keys_of less) whole in
      let at = place_of (reached (text_of tree less) (listed ++ keys_of less) (groups_named rules)) group there in
      let within : at.0 < length (reached (text_of tree less) (listed ++ keys_of less) (groups_named rules)) = place_within (reached (text_of tree less) (listed ++ keys_of less) (groups_named rules)) at.0 group at.1 in
      subst (λ met. Contains met next) (sym is.1)
      (looked_closed (text_of tree less) (groups_named rules) is.0 at.0 group next (let low : length (reached (text_of tree less) (listed ++ keys_of less) (groups_named rules)) ≤ is.0 = is.2 in omega (arith, within, low)) (ap (λ met. slice_get met at.0) (sym is.1) ∙ at.1) named)
    where
      place_within : (xs : List PathName) (k : ℕ) (x : PathName) → slice_get xs k ≡ Some x → k < length xs
      place_within [] k x h = absurd (some_none x (sym h))
      place_within (y ∷ xs) zero x h = omega arith
      place_within (y ∷ xs) (suc k) x h = let rest = place_within xs k x h in omega (arith, rest)

  chain_back : (first : PathName) (behind : List PathName) → Contains (reached (text_of tree less) (listed ++ keys_of less) (groups_named rules)) first → Chain (text_of tree more) user first behind → Chain (text_of tree less) user first behind
  chain_back first [] there h = subst (λ (o : Option (List Item)). IsTrue (list_any (is_user user) (unwrap_or o []))) (one_text first there) h
  chain_back first (next ∷ behind) there h =
      let named : Contains (names_in (text_of tree less) first) next = subst (λ (o : Option (List Item)). Contains (groups_in (unwrap_or o [])) next) (one_text first there) h.0 in
      (named, chain_back next behind (closed first next there named) h.1)

  starts_reached : (rule : Rule) (group : PathName) → Contains rules rule → Contains rule.items (Group group) → Contains (reached (text_of tree less) (listed ++ keys_of less) (groups_named rules)) group
  starts_reached rule group among there =
      met_reached (text_of tree less) (groups_named rules) (listed ++ keys_of less) whole 0 group
      (with_paths-has [] (groups_named rules) group (Contains-flat_map (λ (r : Rule). groups_in r.items) rules rule group among (group_among rule.items group there)))

  means_back : (rule : Rule) (item : Item) → Contains rules rule → Contains rule.items item → Means (text_of tree more) user item → Means (text_of tree less) user item
  means_back rule Everyone among there h = h
  means_back rule (Domain domain) among there h = h
  means_back rule (User name) among there h = h
  means_back rule (Group path) among there h = (h.0, chain_back path h.0 (starts_reached rule path among there) h.1)

  grants_back : (right : Right) → Grants (text_of tree more) rules user right → Grants (text_of tree less) rules user right
  grants_back right h = (h.0, h.1, h.2, h.3, (h.4.0, (h.4.1.0, h.4.1.1, h.4.1.2, h.4.1.3, means_back h.1 h.4.1.1 (h.0, h.2, h.3) (h.4.1.0, h.4.1.2, h.4.1.3) h.4.1.4)))

match_back : (b : Bool) (P Q R : Type 0) → (b ≡ false → Q → R) → MatchBool b P Q → MatchBool b P R
match_back true P Q R f h = h
match_back false P Q R f h = f refl h

pub rights_are_settled : RightsAreSettled
unfolding needed
rights_are_settled tree listed less more user right path lists extends none = (
  rights_are_monotone tree less more user right path (extends_texts less more extends),
  λ held.
      match_back (owns_snapshots tree.owner) _ _ _ (λ plain.
      match_back (bytes_eq user tree.owner && only_looks right) _ _ _ (λ other.
      match_back (is_control path && not (only_looks right)) _ _ _ (λ ordinary h. (h.0, h.1, by_text plain h.0 h.1 h.2))))
      held,
)
  where
    governs : (text : Option (List Rule)) → owns_snapshots tree.owner ≡ false → Governs tree.access path text → text ≡ governor tree path
    governs text plain h = (governor_is_one tree path text).0 (subst (λ b. MatchBool b (text ≡ None) (Governs tree.access path text)) (sym plain) h)

    by_text : owns_snapshots tree.owner ≡ false → (text : Option (List Rule)) → Governs tree.access path text → MatchOption text (user ≡ tree.owner) (λ rules. Grants (text_of tree more) rules user right) → MatchOption text (user ≡ tree.owner) (λ rules. Grants (text_of tree less) rules user right)
    by_text plain None g h = h
    by_text plain (Some rules) g h = grants_back tree listed less more user lists extends rules (ap (λ o. elim o as (λ _. List PathName) [ None ↦ [] | Some rules ↦ needed_by tree listed less rules ]) (governs (Some rules) plain g) ∙ none) right h
