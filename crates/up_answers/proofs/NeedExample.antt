-- Two trees that agree for a user, for whom different groups have to be loaded.
use Rattle.std.proofs.Common.{◌≡◌, ℕ, zero, suc, Bool, true, false, cond, not, ◌&&◌, List, [], ◌∷◌, ◌++◌, refl, sym, ap, subst, ◌∙◌, inl, inr, Option, Some, None, codes}
use Rattle.std.specs.Prelude.{if◌then◌else◌, ⊤, pos, slice_get, take}
use Rattle.std.specs.List.{cons_option}
use Rattle.std.specs.Option.{option_map, option_or, option_and_then}
use Rattle.std.specs.Ordering.{eq_by_cmp}
use Rattle.std.specs.Str.{chars, is_utf8}
use lib.Utf8.{encode}
use Rattle.std.proofs.lemmas.Bool.{false≢true, true≢false, false_from_ne_true}
use Rattle.std.proofs.lemmas.Slice.Eq.{bytes_eq-Decides}
use Rattle.up_names.specs.ControlTexts.{control_lines, without_return, words_in}
use Rattle.up_names.specs.ItemLists.{items_in}
use Rattle.up_names.specs.ItemNames.{is_everyone, item_of}
use Rattle.up_names.specs.PathNames.{PathName, cleaned, extended, is_element, path_of, pieces_of}
use Rattle.up_names.specs.PathOrder.{path_cmp}
use Rattle.up_names.specs.TextMeanings.{meaning_of}
use Rattle.up_names.specs.UserNames.{domain_of, is_domain, is_label, is_local_part, is_suffix, user_of, without_final_period}
use Rattle.up_rights.specs.Words.{right_named, rights_of}
use Rattle.up_rights.specs.declared.Right.{Right}
use Rattle.up_rights.specs.declared.Right.TheVariants.{Read, Write, List as ListRight, Create, Delete}
use Rattle.up_access.specs.AccessTexts.{access_of, rule_of, rules_in}
use Rattle.up_access.specs.declared.Rule.{Rule}
use Rattle.up_group.specs.GroupTexts.{group_of}
use Rattle.up_bytes.specs.Num.{num}
use Rattle.up_entry.specs.FixedForm.{HasFixedForm, has_fixed_form}
use Rattle.up_entry.specs.Spelling as spelling
use Rattle.up_entry.specs.declared.entries.Entry.{Entry}
use Rattle.up_entry.specs.declared.entries.Kind.{Kind}
use Rattle.up_entry.specs.declared.entries.Kind.TheVariants.{File, Directory}
use Rattle.up_entry.specs.declared.records.Rec.{Rec}
use Rattle.up_entry.specs.declared.records.Rec.TheVariants as rec
use Rattle.up_entry.proofs.FixedFormLemmas.{form_is_rules}
use Rattle.up_policy.specs.declared.load_answer.LoadAnswer.TheVariants.{Missing}
use Rattle.up_policy.specs.Governors.{first_text, governor, prefixes}
use Rattle.up_policy.specs.Loadings.{Loading}
use Rattle.up_policy.specs.Reached.{needed, needed_by, reached}
use Rattle.up_policy.specs.Verdicts.{grants, is_control, only_looks, right_test, rights_held, text_decides, without_text}
use Rattle.up_policy.proofs.PathLists.{Contains-cons, no_member}
use Rattle.up_log_tree.specs.declared.node.Node.{Node}
use Rattle.up_log_tree.specs.Fits.{Fits}
use Rattle.up_log_tree.specs.Logs.{Log, bytes_of}
use Rattle.up_log_tree.specs.Rights.{facts_of, group_paths, rules_of}
use Rattle.up_log_tree.specs.Trees.{after_record, is_parent, made_of, node_at, tree_of}
use Rattle.up_log_tree.proofs.Paths.{some_none}
use Rattle.up_list.specs.declared.asking.ReadRequest.TheVariants.{Lookup}
use Rattle.up_list.specs.Looks.{has_some, look_after, look_now, rights, shown}
use Rattle.up_answers.specs.Agreement.{Agree, SeesTheSame}
use Rattle.up_answers.specs.Events.{Change, change_at, event_at, event_of, events_to}
use Rattle.up_answers.specs.Laws.{IsWhole, NeedsMayDiffer}
use Rattle.up_answers.specs.Needs.{needs_asked, owner_places, places}
use Rattle.up_answers.specs.Views.{sight, view}
use Rattle.up_answers.proofs.RightLemmas.{from_any, held_is}

-- all that rights compute with
unfoldable computed : ⊤
unfolding access_of rules_in rule_of rights_of right_named control_lines without_return words_in items_in item_of is_everyone user_of domain_of without_final_period is_local_part is_suffix is_domain is_label meaning_of path_of pieces_of is_element cleaned is_utf8 chars encode group_of governor reached grants text_decides without_text right_test rights_held node_at after_record tree_of is_parent made_of facts_of group_paths rights
computed = tt

abbrev ann : List ℕ
ann = codes "ann@a.example"

abbrev bob : List ℕ
bob = codes "bob@b.example"

abbrev at : List (List ℕ) → PathName
at elements = record { owner = ann; elements = elements }

-- an entry of ann's
abbrev entry : PathName → Kind → ℕ → Entry
entry name kind sequence = record { signed_name = name; packing = 1; time = pos 100; blocks = []; packdata = []; link = None; writer = ann; name = name; attr = record { kind = kind; incomplete = false }; sequence = sequence }

abbrev log_of : List Rec → Log
log_of records = record { owner = ann; limits = record { records = 1048576; device = 1073741824; largest = 131072 }; records = records }

-- the root's Access file names a group of dan's: g in the one tree, h in the other
abbrev text : Bool → List ℕ
text c = if c then codes "r:dan@d.example/Group/g" else codes "r:dan@d.example/Group/h"

abbrev records : Bool → List Rec
records c = rec.Put (entry (at []) Directory 1) [] ∷ rec.Put (entry (at (codes "Access" ∷ [])) File 2) (text c) ∷ []

abbrev log : Bool → Log
log c = log_of (records c)

-- g was asked for, and is missing
abbrev loaded : Loading
loaded = (record { owner = codes "dan@d.example"; elements = codes "Group" ∷ codes "g" ∷ [] }, Missing) ∷ []

needs_nothing : needs_asked (log true) loaded bob (Lookup (at [])) ≡ []
unfolding computed needs_asked places owner_places needed needed_by
needs_nothing = refl

needs_another : needs_asked (log false) loaded bob (Lookup (at [])) ≡ record { owner = codes "dan@d.example"; elements = codes "Group" ∷ codes "h" ∷ [] } ∷ []
unfolding computed needs_asked places owner_places needed needed_by
needs_another = refl

-- ---- bob has no right anywhere

abbrev decides : Bool → Right → Option (List Rule) → Bool
decides c r found = text_decides (facts_of ann (tree_of (records c))) (group_paths (tree_of (records c))) loaded bob r found

nobody : (c : Bool) (r : Right) → decides c r None ≡ false
unfolding text_decides facts_of
nobody c r = refl

by_access : (c b d : Bool) (r : Right) → decides c r (option_map (λ (node : Node). rules_of ann node) (cond b (Some (record { entry = entry (at []) Directory 1; text = [] })) (cond d (Some (record { entry = entry (at (codes "Access" ∷ [])) File 2; text = text c })) None))) ≡ false
unfolding computed
by_access true true d r = refl
by_access false true d r = refl
by_access c false false r = refl
by_access true false true Read = refl
by_access true false true Write = refl
by_access true false true ListRight = refl
by_access true false true Create = refl
by_access true false true Delete = refl
by_access false false true Read = refl
by_access false false true Write = refl
by_access false false true ListRight = refl
by_access false false true Create = refl
by_access false false true Delete = refl

abbrev access : Bool → PathName → Option (List Rule)
access c dir = (facts_of ann (tree_of (records c))).access dir

by_directory : (c : Bool) (r : Right) (dir : PathName) → decides c r (access c dir) ≡ false
unfolding computed
by_directory c r dir = by_access c (eq_by_cmp path_cmp (extended dir (codes "Access")) (at [])) (eq_by_cmp path_cmp (extended dir (codes "Access")) (at (codes "Access" ∷ []))) r

by_governor : (c : Bool) (r : Right) (dirs : List PathName) → decides c r (first_text (access c) dirs) ≡ false
by_governor c r [] = nobody c r
by_governor c r (dir ∷ dirs) = go (access c dir) (by_directory c r dir) (by_governor c r dirs)
  where
    go : (o : Option (List Rule)) → decides c r o ≡ false → decides c r (first_text (access c) dirs) ≡ false → decides c r (option_or o (first_text (access c) dirs)) ≡ false
    go None h rest = rest
    go (Some rules) h rest = h

no_right : (c : Bool) (r : Right) (path : PathName) → right_test (facts_of ann (tree_of (records c))) (group_paths (tree_of (records c))) loaded bob r path ≡ false
unfolding right_test without_text governor facts_of
no_right c r path = go (is_control path && not (only_looks r)) (text_decides (facts_of ann (tree_of (records c))) (group_paths (tree_of (records c))) loaded bob r (first_text (access c) (prefixes path))) (by_governor c r (prefixes path))
  where
    go : (changes text : Bool) → text ≡ false → elim (if changes then Some false else None) as (λ _. Bool) [ Some answer ↦ answer | None ↦ text ] ≡ false
    go true text h = refl
    go false text h = h

no_rights_on : (c : Bool) (path : PathName) → has_some (look_now (log c) loaded bob) path ≡ false
unfolding rights
no_rights_on c path = false_from_ne_true (has_some (look_now (log c) loaded bob) path) (λ some.
    let held = from_any (rights (look_now (log c) loaded bob) path) some in
    false≢true (sym (no_right c held.0 path) ∙ (sym (held_is (facts_of ann (tree_of (records c))) (group_paths (tree_of (records c))) loaded bob path held.0) ∙ held.1)))

nothing_seen : (c : Bool) (path : PathName) → view (look_now (log c) loaded bob) path ≡ None
unfolding view
nothing_seen c path = ap (λ b. if b then Some (sight (look_now (log c) loaded bob) path) else None) (no_rights_on c path)

no_events : (c : Bool) (n : ℕ) → events_to (log c) loaded bob n ≡ []
unfolding events_to event_at event_of
no_events c zero = refl
no_events c (suc n) = ap (λ es. es ++ cons_option (event_at (log c) loaded bob n) []) (no_events c n) ∙ ap (λ e. cons_option e []) (none (change_at (log c).records n))
  where
    none : (o : Option Change) → option_and_then (event_of (look_now (log c) loaded bob) (look_after (suc n) (log c) loaded bob) n) o ≡ None
    none None = refl
    none (Some change) = ap (λ b. if b && has_some (look_after (suc n) (log c) loaded bob) change.entry.name then Some (record { position = suc n; delete = change.delete; entry = shown (look_now (log c) loaded bob) change.entry }) else None) (no_rights_on c change.entry.name)

same_size : bytes_of (records true) ≡ bytes_of (records false)
unfolding spelling.entry spelling.block num
same_size = refl

-- the records fit
form_of : (c : Bool) → HasFixedForm (entry (at []) Directory 1) × HasFixedForm (entry (at (codes "Access" ∷ [])) File 2)
unfolding has_fixed_form
form_of c = ((form_is_rules (entry (at []) Directory 1)).0 refl, (form_is_rules (entry (at (codes "Access" ∷ [])) File 2)).0 refl)

root_fits' : (c : Bool) → Fits ann [] (rec.Put (entry (at []) Directory 1) [])
unfolding computed
root_fits' c = record {
  form = (form_of c).0;
  sequence = refl;
  place = refl;
  replaces = tt;
  parses = refl;
}

access_fits : (c : Bool) → Fits ann (rec.Put (entry (at []) Directory 1) [] ∷ []) (rec.Put (entry (at (codes "Access" ∷ [])) File 2) (text c))
unfolding computed
access_fits true = record {
  form = (form_of true).1;
  sequence = refl;
  place = (record { entry = entry (at []) Directory 1; text = [] }, refl, refl);
  replaces = tt;
  parses = (_, refl);
}
access_fits false = record {
  form = (form_of false).1;
  sequence = refl;
  place = (record { entry = entry (at []) Directory 1; text = [] }, refl, refl);
  replaces = tt;
  parses = (_, refl);
}

is_log : (c : Bool) → IsWhole (log c)
is_log c = record { plain = refl; fitting = record { each = each } }
  where
    same : {X : Type 0} (x y : X) → Some x ≡ Some y → x ≡ y
    same x y h = cc

    each : (n : ℕ) (r : Rec) → slice_get (records c) n ≡ Some r → Fits ann (take n (records c)) r
    each zero r h = subst (Fits ann []) (same _ r h) (root_fits' c)
    each (suc zero) r h = subst (Fits ann (rec.Put (entry (at []) Directory 1) [] ∷ [])) (same _ r h) (access_fits c)
    each (suc (suc n)) r h = absurd (some_none r (sym h))

agree : Agree bob (loaded ∷ []) (log true) (log false)
agree = record {
  owner = refl;
  limits = refl;
  length = refl;
  bytes = same_size;
  for_owner = λ own. absurd (true≢false (sym ((bytes_eq-Decides bob ann).1 own)));
  for_others = λ other l among. elim (Contains-cons loaded l [] among) [
    | inl is ↦ subst (λ x. SeesTheSame bob x (log true) (log false)) is (record {
      views = λ path owned. nothing_seen true path ∙ sym (nothing_seen false path);
      events = no_events true 2 ∙ sym (no_events false 2);
    })
    | inr none ↦ absurd (no_member l none)
  ];
}

pub needs_may_differ : NeedsMayDiffer
needs_may_differ = (bob, loaded, Lookup (at []), log true, log false, is_log true, is_log false, agree, needs_nothing, λ none. absurd (let e : record { owner = codes "dan@d.example"; elements = codes "Group" ∷ codes "h" ∷ [] } ∷ [] ≡ [] = sym needs_another ∙ none in cc))
