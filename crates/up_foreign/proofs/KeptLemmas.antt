-- A search that is kept goes on where more is loaded, and where the log has grown.
use Rattle.std.proofs.Common.{◌≡◌, ℕ, zero, suc, ◌+◌, ◌<◌, ◌≤◌, Bool, true, false, not, cond, ◌&&◌, List, [], ◌∷◌, ◌++◌, length, take, drop, refl, sym, ap, subst, ◌∙◌, inl, inr, arith, Option, Some, None, Result, Ok, Err, slice_get, append-nil, append_assoc, unwrap_or}
use Rattle.std.specs.Prelude.{OnOk, filter, if◌then◌else◌, is_none}
use Rattle.std.specs.Map.{keys_of}
use Rattle.std.specs.Option.{option_and_then}
use Rattle.std.specs.Str.{bytes_eq}
use Rattle.std.proofs.lemmas.Bool.{cases_lt, false≢true}
use Rattle.std.proofs.lemmas.List.{take_all, take-append-drop, take-append-le}
use Rattle.std.proofs.lemmas.List.Elements.{filter-append}
use Rattle.std.proofs.lemmas.Option.{slice_get_within}
use Rattle.up_access.specs.declared.Rule.{Rule}
use Rattle.up_entry.specs.declared.records.Rec.{Rec}
use Rattle.up_foreign.specs.Kept.{GoesOn, HasReached, IsOver, Keeps, named_by, starts}
use Rattle.up_foreign.specs.Laws.{NeededBehind, NeededGoesOn}
use Rattle.up_foreign.specs.declared.kept.KeptSearch.{KeptSearch}
use Rattle.up_lists.proofs.BeginsLemmas.{Begins-self, Begins-trans, get-Begins, length-Begins}
use Rattle.up_lists.specs.Begins.{Begins}
use Rattle.up_log_tree.proofs.Paths.{some_none, some_same}
use Rattle.up_log_tree.specs.Rights.{facts_of}
use Rattle.up_log_tree.specs.Trees.{tree_at, tree_of}
use Rattle.up_names.specs.declared.items.Item.{Item}
use Rattle.up_names.specs.PathNames.{PathName}
use Rattle.up_names.specs.PathOrder.{path_eq}
use Rattle.up_policy.proofs.PathLists.{front_of_with_paths, slice_get-front}
use Rattle.up_policy.proofs.ReachedLemmas.{front_of_reached, look_at, look_past, reached_is}
use Rattle.up_policy.proofs.SearchLemmas.{Added, Looked, added_all, added_met, added_more, looked_more}
use Rattle.up_policy.proofs.VerdictLemmas.{lists_texts}
use Rattle.up_policy.specs.declared.load_answer.LoadAnswer.{LoadAnswer}
use Rattle.up_policy.specs.Governors.{first_text, governor, prefixes}
use Rattle.up_policy.specs.Laws.{ListsGroups}
use Rattle.up_policy.specs.Loadings.{Loading, answer_for, loaded_text, text_in}
use Rattle.up_policy.specs.Members.{groups_in, items_in, names_in, text_of}
use Rattle.up_policy.specs.Reached.{after_look, is_wanted, met_after, needed, needed_by, reached, with_path, with_paths}
use Rattle.up_policy.specs.Trees.{GroupTexts, TreeFacts, owns_snapshots}

-- what holds always holds after a success
pub on_ok : {X E : Type 0} (result : Result X E) (P : Type 0) → P → OnOk result P
on_ok (Ok value) P h = h
on_ok (Err fault) P h = tt

-- ---- more loaded

some_first : (same : Bool) (answer found : LoadAnswer) (less more : Option LoadAnswer) → (less ≡ Some found → more ≡ Some found) → cond same (Some answer) less ≡ Some found → cond same (Some answer) more ≡ Some found
some_first true answer found less more rest h = h
some_first false answer found less more rest h = rest h

answered_more : (loaded more : Loading) (name : PathName) (found : LoadAnswer) → answer_for loaded name ≡ Some found → answer_for (loaded ++ more) name ≡ Some found
answered_more [] more name found h = absurd (some_none found (sym h))
answered_more (pair ∷ loaded) more name found h = some_first (path_eq name pair.0) pair.1 found (answer_for loaded name) (answer_for (loaded ++ more) name) (answered_more loaded more name found) h

-- what has an answer keeps it
answer_stays : (loaded more : Loading) (name : PathName) → is_none (answer_for loaded name) ≡ false → answer_for (loaded ++ more) name ≡ answer_for loaded name
answer_stays loaded more name h = from (answer_for loaded name) refl
  where
    from : (found : Option LoadAnswer) → answer_for loaded name ≡ found → answer_for (loaded ++ more) name ≡ answer_for loaded name
    from None none = absurd (false≢true (sym h ∙ ap (λ (o : Option LoadAnswer). is_none o) none))
    from (Some found) some = answered_more loaded more name found some ∙ sym some

module _ (tree : TreeFacts) (loaded more : Loading) where
  -- a group that has not to be loaded has the same text with more loaded
  text_stays : (group : PathName) → is_wanted tree loaded group ≡ false → text_of tree (loaded ++ more) group ≡ text_of tree loaded group
  text_stays group h = from (bytes_eq group.owner tree.owner) h
    where
      from : (own : Bool) → (not own && is_none (answer_for loaded group)) ≡ false → (if own then tree.group group else loaded_text (loaded ++ more) group) ≡ (if own then tree.group group else loaded_text loaded group)
      from true h = refl
      from false h = ap (λ (found : Option LoadAnswer). option_and_then text_in found) (answer_stays loaded more group h)

  -- and has not to be loaded then
  wanted_stays : (group : PathName) → is_wanted tree loaded group ≡ false → is_wanted tree (loaded ++ more) group ≡ false
  wanted_stays group h = from (bytes_eq group.owner tree.owner) h
    where
      from : (own : Bool) → (not own && is_none (answer_for loaded group)) ≡ false → (not own && is_none (answer_for (loaded ++ more) group)) ≡ false
      from true h = refl
      from false h = ap (λ (found : Option LoadAnswer). is_none found) (answer_stays loaded more group h) ∙ h

-- ---- groups that are met

-- a look keeps what was met
after_front : (texts : GroupTexts) (starts : List PathName) (n : ℕ) → Begins (met_after texts starts n) (met_after texts starts (suc n))
after_front texts starts n = from (slice_get (met_after texts starts n) n) refl
  where
    from : (found : Option PathName) → slice_get (met_after texts starts n) n ≡ found → Begins (met_after texts starts n) (met_after texts starts (suc n))
    from None past = record { rest = []; whole = append-nil (met_after texts starts n) ∙ sym (look_past texts n (met_after texts starts n) past) }
    from (Some group) at =
        let front = front_of_with_paths (met_after texts starts n) (names_in texts group) in
        record { rest = front.0; whole = sym (look_at texts n (met_after texts starts n) group at ∙ front.1) }

stands_next : (texts : GroupTexts) (starts : List PathName) (n i : ℕ) (group : PathName) → slice_get (met_after texts starts n) i ≡ Some group → slice_get (met_after texts starts (suc n)) i ≡ Some group
stands_next texts starts n i group at =
    let front = after_front texts starts n in
    ap (λ all. slice_get all i) (sym front.whole) ∙ slice_get-front (met_after texts starts n) front.rest i group at

-- a look by texts that say the same of the group
look_same : (one two : GroupTexts) (n : ℕ) (met : List PathName) → ((group : PathName) → slice_get met n ≡ Some group → two group ≡ one group) → after_look two n met ≡ after_look one n met
look_same one two n met same = from (slice_get met n) refl
  where
    from : (found : Option PathName) → slice_get met n ≡ found → after_look two n met ≡ after_look one n met
    from None past = look_past two n met past ∙ sym (look_past one n met past)
    from (Some group) at =
        look_at two n met group at
        ∙ (ap (λ (text : Option (List Item)). with_paths met (groups_in (unwrap_or text []))) (same group at) ∙ sym (look_at one n met group at))

same_met : (one two : GroupTexts) (starts : List PathName) (n : ℕ) → ((i : ℕ) (group : PathName) → i < n → slice_get (met_after one starts n) i ≡ Some group → two group ≡ one group) →
    met_after two starts n ≡ met_after one starts n
same_met one two starts zero same = refl
same_met one two starts (suc n) same =
    ap (after_look two n) (same_met one two starts n (λ i group less at. same i group (omega (arith, less)) (stands_next one starts n i group at)))
    ∙ look_same one two n (met_after one starts n) (λ group at. same n group (omega arith) (stands_next one starts n n group at))

-- a search that has come to a place has come there with more loaded too
pub reached_more : (tree : TreeFacts) (loaded more : Loading) (path : PathName) (next : ℕ) (met : List PathName) → HasReached tree loaded path next met → HasReached tree (loaded ++ more) path next met
reached_more tree loaded more path next met h = record {
  met_is = h.met_is ∙ sym (same_met (text_of tree loaded) (text_of tree (loaded ++ more)) (starts tree path) next
      (λ i group less at. text_stays tree loaded more group (h.settled i group less (ap (λ all. slice_get all i) h.met_is ∙ at))));
  settled = λ i group less at. wanted_stays tree loaded more group (h.settled i group less at);
}

-- ---- what is needed

needed_from : (tree : TreeFacts) (listed : List PathName) (loaded : Loading) → ListsGroups tree listed → (text : Option (List Rule)) →
    (elim text as (λ _. List PathName) [ None ↦ [] | Some rules ↦ needed_by tree listed loaded rules ]) ≡ filter (is_wanted tree loaded) (reached (text_of tree loaded) (listed ++ keys_of loaded) (named_by text))
unfolding needed_by
needed_from tree listed loaded lists None = sym (ap (filter (is_wanted tree loaded)) (reached_is (text_of tree loaded) [] (listed ++ keys_of loaded) (lists_texts tree listed loaded lists) 0 (omega arith)))
needed_from tree listed loaded lists (Some rules) = refl

-- what is needed at a path is what has to be loaded of what is reached
needed_is : (tree : TreeFacts) (listed : List PathName) (loaded : Loading) (path : PathName) → ListsGroups tree listed →
    needed tree listed loaded path ≡ filter (is_wanted tree loaded) (reached (text_of tree loaded) (listed ++ keys_of loaded) (starts tree path))
unfolding needed
needed_is tree listed loaded path lists = needed_from tree listed loaded lists (governor tree path)

-- of the first groups none passes
none_passes : (passes : PathName → Bool) (n : ℕ) (met : List PathName) → ((i : ℕ) (group : PathName) → i < n → slice_get met i ≡ Some group → passes group ≡ false) → filter passes (take n met) ≡ []
none_passes passes zero met none = refl
none_passes passes (suc n) [] none = refl
none_passes passes (suc n) (group ∷ met) none =
    ap (λ b. cond b (group ∷ filter passes (take n met)) (filter passes (take n met))) (none zero group (omega arith) refl)
    ∙ none_passes passes n met (λ i other less at. none (suc i) other (omega (arith, less)) at)

-- what is needed with more loaded goes on from what was needed before
pub needed_goes_on : NeededGoesOn
needed_goes_on tree listed loaded more path next met lists h =
    let too = reached_more tree loaded more path next met h in
    let texts = text_of tree (loaded ++ more) in
    let front = front_of_reached texts (starts tree path) (listed ++ keys_of (loaded ++ more)) (lists_texts tree listed (loaded ++ more) lists) next in
    let whole : reached texts (listed ++ keys_of (loaded ++ more)) (starts tree path) ≡ met ++ front.0 = front.1 ∙ ap (λ all. all ++ front.0) (sym too.met_is) in
    let passes = is_wanted tree (loaded ++ more) in
    record {
      reached_too = too;
      behind = front.0;
      whole = whole;
      needed_is = needed_is tree listed (loaded ++ more) path lists
          ∙ (ap (filter passes) (whole ∙ (ap (λ all. all ++ front.0) (sym (take-append-drop next met)) ∙ append_assoc (take next met) (drop next met) front.0))
          ∙ (filter-append passes (take next met) (drop next met ++ front.0) ∙ ap (λ all. all ++ filter passes (drop next met ++ front.0)) (none_passes passes next met too.settled)));
    }

-- ---- a look at the next group

module _ (tree : TreeFacts) (loaded : Loading) where
  -- nothing was looked at yet
  pub goes_self : (n : ℕ) (met : List PathName) → GoesOn tree loaded n met n met
  goes_self n met = record { goes = λ path h. h }

  -- the next has not to be loaded
  next_settled : (n : ℕ) (met now : List PathName) (group : PathName) (names : List PathName) → ((i : ℕ) (other : PathName) → i < n → slice_get met i ≡ Some other → is_wanted tree loaded other ≡ false) →
      Some group ≡ slice_get met n → is_wanted tree loaded group ≡ false → now ≡ with_paths met names →
      (i : ℕ) (other : PathName) → i < n + 1 → slice_get now i ≡ Some other → is_wanted tree loaded other ≡ false
  next_settled n met now group names settled at plain is i other less there =
      let within : n < length met = slice_get_within met n group (sym at) in
      let front = front_of_with_paths met names in
      let begins : Begins met now = record { rest = front.0; whole = sym (is ∙ front.1) } in
      let stood : slice_get met i ≡ Some other = sym (get-Begins begins i (omega (arith, within, less))) ∙ there in
      elim (cases_lt i n) [
        | inl lower ↦ settled i other lower stood
        | inr here ↦
            let same : i ≡ n = omega (arith, here, less) in
            let found : Some group ≡ Some other = at ∙ (ap (slice_get met) (sym same) ∙ stood) in
            subst (λ g. is_wanted tree loaded g ≡ false) (some_same group other found) plain
      ]

  pub goes_next : (from : ℕ) (old : List PathName) (n : ℕ) (met now : List PathName) (group : PathName) (items : List Item) → GoesOn tree loaded from old n met →
      Some group ≡ slice_get met n → is_wanted tree loaded group ≡ false → items ≡ items_in (text_of tree loaded) group → now ≡ with_paths met (groups_in items) → GoesOn tree loaded from old (n + 1) now
  goes_next from old n met now group items before at plain text is = record {
    goes = λ path h.
        let r = before.goes path h in
        record {
          met_is = (looked_more (text_of tree loaded) (starts tree path) n met now group items (record { met_is = r.met_is }) at text is).met_is;
          settled = next_settled n met now group (groups_in items) r.settled at plain is;
        };
  }

  -- From a place on groups were looked at, and those that have to be loaded were added to a list.
  pub record Looking (from : ℕ) (old names : List PathName) (n : ℕ) (met now : List PathName) : Type 0 where
    pub front : Begins old met
    pub looked : (path : PathName) → HasReached tree loaded path from old → Looked (text_of tree loaded) (starts tree path) n met
    pub added : (path : PathName) → HasReached tree loaded path from old → Added (is_wanted tree loaded) names n met now

  pub looking_none : (from : ℕ) (old names : List PathName) → Looking from old names from old names
  looking_none from old names = record {
    front = Begins-self old;
    looked = λ path h. record { met_is = h.met_is };
    added = λ path h. record { now_is = sym (ap (with_paths names) (none_passes (is_wanted tree loaded) from old h.settled)) };
  }

  pub looking_next : (from : ℕ) (old names : List PathName) (n : ℕ) (met now met_then names_then : List PathName) (group : PathName) (items : List Item) → Looking from old names n met now →
      Some group ≡ slice_get met n → names_then ≡ (if is_wanted tree loaded group then with_path now group else now) → items ≡ items_in (text_of tree loaded) group → met_then ≡ with_paths met (groups_in items) →
      Looking from old names (n + 1) met_then names_then
  looking_next from old names n met now met_then names_then group items before at one text more =
      let front = front_of_with_paths met (groups_in items) in
      let behind : Begins met met_then = record { rest = front.0; whole = sym (more ∙ front.1) } in
      record {
        front = Begins-trans before.front behind;
        looked = λ path h. looked_more (text_of tree loaded) (starts tree path) n met met_then group items (before.looked path h) at text more;
        added = λ path h. added_met (is_wanted tree loaded) names n met met_then names_then group (groups_in items)
            (added_more (is_wanted tree loaded) names n met now names_then group (before.added path h) at one) at more;
      }

  -- nothing is left to look at
  pub looking_all : (listed : List PathName) → ListsGroups tree listed → (from : ℕ) (old names : List PathName) (n : ℕ) (met now : List PathName) → Looking from old names n met now → None ≡ slice_get met n →
      (path : PathName) → HasReached tree loaded path from old → now ≡ with_paths names (needed tree listed loaded path)
  looking_all listed lists from old names n met now looking past path h =
      added_all (text_of tree loaded) (starts tree path) (listed ++ keys_of loaded) (lists_texts tree listed loaded lists) (is_wanted tree loaded) names n met now (looking.looked path h) (looking.added path h) past
      ∙ ap (with_paths names) (sym (needed_is tree listed loaded path lists))

-- ---- over a tree

module _ (owner : List ℕ) (loaded : Loading) (path : PathName) where
  governed_by : (tree : TreeFacts) → owns_snapshots tree.owner ≡ false → governor tree path ≡ first_text tree.access (prefixes path)
  unfolding governor
  governed_by tree plain = ap (λ b. if b then None else first_text tree.access (prefixes path)) plain

  plain_facts : (records : List Rec) → owns_snapshots owner ≡ false → owns_snapshots (facts_of owner (tree_of records)).owner ≡ false
  unfolding facts_of
  plain_facts records plain = plain

  -- a search that has just begun
  pub begun : (records : List Rec) (kept : KeptSearch) → owns_snapshots owner ≡ false → kept.records ≡ length records → kept.path ≡ Some path →
      kept.met ≡ with_paths [] (named_by (first_text (facts_of owner (tree_of records)).access (prefixes path))) → kept.next ≡ 0 → IsOver owner records loaded path kept
  begun records kept plain all at met none = record {
    all = all;
    path_is = at;
    reached = record {
      met_is = met
          ∙ (ap (λ (text : Option (List Rule)). with_paths [] (named_by text)) (sym (governed_by (facts_of owner (tree_of records)) (plain_facts records plain)))
          ∙ ap (met_after (text_of (facts_of owner (tree_of records)) loaded) (starts (facts_of owner (tree_of records)) path)) (sym none));
      settled = λ i group less there. absurd (omega (arith, less, none));
    };
  }

  -- one of as many records, at the path
  pub keeps_over : (records : List Rec) (kept : KeptSearch) → Keeps owner records loaded kept → kept.records ≡ length records → kept.path ≡ Some path → IsOver owner records loaded path kept
  keeps_over records kept keeps all at = record {
    all = all;
    path_is = at;
    reached = subst (λ (rs : List Rec). HasReached (facts_of owner (tree_of rs)) loaded path kept.next kept.met) (take_all kept.records records (omega (arith, all))) (keeps.reached path at);
  }

  pub over_keeps : (records : List Rec) (kept : KeptSearch) → IsOver owner records loaded path kept → Keeps owner records loaded kept
  over_keeps records kept over = record {
    within = omega (arith, over.all);
    reached = λ other at.
        let same : path ≡ other = some_same path other (sym over.path_is ∙ at) in
        subst (λ (p : PathName). HasReached (facts_of owner (tree_at records kept.records)) loaded p kept.next kept.met) same
        (subst (λ (rs : List Rec). HasReached (facts_of owner (tree_of rs)) loaded path kept.next kept.met) (sym (take_all kept.records records (omega (arith, over.all)))) over.reached);
  }

-- a search that went on over the same tree
pub over_goes : (owner : List ℕ) (records : List Rec) (loaded : Loading) (path : PathName) (old new : KeptSearch) → IsOver owner records loaded path old → new.records ≡ old.records → new.path ≡ old.path →
    GoesOn (facts_of owner (tree_of records)) loaded old.next old.met new.next new.met → IsOver owner records loaded path new
over_goes owner records loaded path old new over same at goes = record {
  all = same ∙ over.all;
  path_is = at ∙ over.path_is;
  reached = goes.goes path over.reached;
}

-- What is kept stays right where the log has grown.
pub keeps_later : (owner : List ℕ) (old new : List Rec) (loaded : Loading) (kept : KeptSearch) → Begins old new → Keeps owner old loaded kept → Keeps owner new loaded kept
keeps_later owner old new loaded kept begins keeps =
    let grown = length-Begins begins in
    let within = keeps.within in
    let same : take kept.records old ≡ take kept.records new = sym (take-append-le kept.records old begins.rest within) ∙ ap (take kept.records) begins.whole in
    record {
      within = omega (arith, grown, within);
      reached = λ path at. subst (λ (rs : List Rec). HasReached (facts_of owner (tree_of rs)) loaded path kept.next kept.met) same (keeps.reached path at);
    }

-- and where more is loaded
pub keeps_more : (owner : List ℕ) (records : List Rec) (loaded more : Loading) (kept : KeptSearch) → Keeps owner records loaded kept → Keeps owner records (loaded ++ more) kept
keeps_more owner records loaded more kept keeps = record {
  within = keeps.within;
  reached = λ path at. reached_more (facts_of owner (tree_at records kept.records)) loaded more path kept.next kept.met (keeps.reached path at);
}
