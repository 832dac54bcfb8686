-- A literal element of a pattern is met at one name alone.
use Rattle.std.proofs.Common.{◌≡◌, ℕ, zero, suc, ◌-◌, ◌<◌, Bool, true, false, List, [], ◌∷◌, ◌++◌, length, take, refl, sym, ap, ◌∙◌, arith, Option, Some, None, bytes_eq}
use Rattle.std.specs.Prelude.{filter, if◌then◌else◌, slice_index_or}
use Rattle.std.specs.List.{AllByRecursion}
use Rattle.std.specs.Option.{option_and_then, option_to_list}
use Rattle.up_names.specs.PathNames.{PathName, cut, extended, parent_of}
use Rattle.std.specs.Option.{option_map}
use Rattle.up_log_tree.specs.declared.node.Node.{Node}
use Rattle.up_log_tree.specs.Trees.{node_at}
use Rattle.up_names.specs.PathOrder.{path_eq}
use Rattle.up_entry.specs.declared.entries.Entry.{Entry}
use Rattle.std.specs.Str.{chars}
use Rattle.up_pattern.specs.declared.terms.Term.{Term}
use Rattle.up_pattern.specs.Matching.{matches}
use Rattle.up_pattern.specs.Elements.{literal_of}
use Rattle.up_pattern.specs.Patterns.{PatternName, literal_at}
use Rattle.up_list.specs.Entries.{entry_at, entry_of, entries_in}
use Rattle.up_list.specs.Looks.{Look}
use Rattle.up_list.specs.Places.{IsIn}
use Rattle.up_list.specs.Rooted.{IsRooted}
use Rattle.up_list.specs.Globs.{is_literal, matches_name}
use Rattle.up_list.specs.Looks.{rights}
use Rattle.up_list.specs.Walking.{element_at, is_match, met_in, name_at}
use Rattle.up_list.proofs.PatternLemmas.{here, literal_here}
use Rattle.std.specs.Prelude.{is_some, ◌||◌}
use Rattle.up_list.proofs.BelowLemmas.{parent_is}
use Rattle.std.proofs.lemmas.Slice.Eq.{bytes_eq-Decides}
use Rattle.up_log_tree.specs.Trees.{last_element}
use Rattle.up_log_tree.proofs.Paths.{last_extended, parent_extended, parent_passes, path_other, path_same}
use Rattle.up_list.proofs.MeetLemmas.{size_in}
use Rattle.up_list.proofs.ChildLemmas.{all_in, all_weaker, one_entry}
use Rattle.up_list.proofs.PickLemmas.{filter_alike}

-- ---- an item in a directory is the directory's path and a name

push_take : {X : Type 0} (xs : List X) (i : ℕ) (d : X) → length xs ≡ suc i → xs ≡ take i xs ++ slice_index_or xs i d ∷ []
push_take [] i d h = absurd (let z : ⊥ = omega arith in z)
push_take (x ∷ []) zero d h = refl
push_take (x ∷ y ∷ xs) zero d h = absurd (let z : ⊥ = omega arith in z)
push_take (x ∷ xs) (suc i) d h = ap (λ ys. x ∷ ys) (push_take xs i d (omega arith))

pub in_extended : (at : ℕ) (dir : PathName) (entry : Entry) → parent_of entry.name ≡ Some dir → length dir.elements ≡ at → length entry.name.elements ≡ suc at → entry.name ≡ extended dir (name_at at entry)
in_extended at dir entry parent size longer =
    let is = parent_is entry.name dir parent in
    ap (λ elements. record { owner = entry.name.owner; elements = elements }) (push_take entry.name.elements at [] longer)
    ∙ ap (λ (p : PathName). extended p (name_at at entry)) (ap (λ n. cut n entry.name) (let e : at ≡ length entry.name.elements - 1 = omega arith in e) ∙ is.1)

-- two names in a directory make one path exactly where they are one
pub same_end : (dir : PathName) (a b : List ℕ) → path_eq (extended dir a) (extended dir b) ≡ bytes_eq b a
same_end dir a b = go (path_eq (extended dir a) (extended dir b)) (bytes_eq b a) refl refl
  where
    name : (x : List ℕ) → last_element (extended dir x) ≡ x
    name x = last_extended dir x

    go : (c d : Bool) → path_eq (extended dir a) (extended dir b) ≡ c → bytes_eq b a ≡ d → path_eq (extended dir a) (extended dir b) ≡ bytes_eq b a
    go true d e f = e ∙ sym ((bytes_eq-Decides b a).1 (sym (name b) ∙ (ap last_element (sym (path_same (extended dir a) (extended dir b) e)) ∙ name a)))
    go false true e f = absurd (path_other (extended dir a) (extended dir b) e (ap (extended dir) (sym ((bytes_eq-Decides b a).0 f))))
    go false false e f = e ∙ sym f

-- ---- the items that are met

pub literal_match : (terms : List Term) (text name : List ℕ) → literal_of terms ≡ Some text → matches_name terms name ≡ bytes_eq name text
literal_match terms text name h = ap (λ o. elim o as (λ _. Bool) [ Some t ↦ bytes_eq name t | None ↦ matches terms (chars name) ]) h

pub literal_met : (look : Look) (pattern : PatternName) (at : ℕ) (dir : PathName) (text : List ℕ) → IsRooted look.owner look.tree → length dir.elements ≡ at → at < length pattern.elements → literal_at pattern at ≡ Some text →
    filter (is_match pattern at) (entries_in look.tree dir) ≡ option_to_list (entry_at look.tree (extended dir text))
literal_met look pattern at dir text rooted size h literal =
    filter_alike (is_match pattern at) (λ (e : Entry). path_eq (extended dir text) e.name) (entries_in look.tree dir)
    (all_weaker (IsIn look at dir) (λ (e : Entry). is_match pattern at e ≡ path_eq (extended dir text) e.name) (λ e is. test e is) (entries_in look.tree dir) (all_in look at dir rooted size))
    ∙ (one_entry look.owner look.tree rooted dir (extended dir text)
    ∙ ap (λ b. if b then option_to_list (entry_at look.tree (extended dir text)) else []) (parent_passes dir (extended dir text) (parent_extended dir text)))
  where
    named : (e : Entry) → IsIn look at dir e → e.name ≡ extended dir (name_at at e)
    named e is = in_extended at dir e is.parent is.size (size_in look at dir e is)

    by_text : (name : List ℕ) → matches_name (element_at pattern at) name ≡ bytes_eq name text
    by_text name = literal_match (element_at pattern at) text name (sym (ap (option_and_then literal_of) (here pattern.elements at [] h)) ∙ literal)

    test : (e : Entry) → IsIn look at dir e → is_match pattern at e ≡ path_eq (extended dir text) e.name
    test e is = by_text (name_at at e) ∙ sym (ap (path_eq (extended dir text)) (named e is) ∙ same_end dir text (name_at at e))

literal_text : (pattern : PatternName) (at : ℕ) (o : Option (List ℕ)) → at < length pattern.elements → literal_at pattern at ≡ o → is_literal (element_at pattern at) ≡ is_some o
literal_text pattern at o h e = sym (literal_here pattern at h) ∙ ap is_some e

met_if : (look : Look) (pattern : PatternName) (at : ℕ) (dir : PathName) (b c : Bool) → is_literal (element_at pattern at) ≡ b → (rights look dir).list ≡ c →
    met_in look pattern at dir ≡ (if b || c then filter (is_match pattern at) (entries_in look.tree dir) else [])
met_if look pattern at dir b c e f =
    ap (λ x. if x || (rights look dir).list then filter (is_match pattern at) (entries_in look.tree dir) else []) e
    ∙ ap (λ y. if b || y then filter (is_match pattern at) (entries_in look.tree dir) else []) f

-- by a literal element: the item of its text
pub met_literal : (look : Look) (pattern : PatternName) (at : ℕ) (dir : PathName) (text : List ℕ) → IsRooted look.owner look.tree → length dir.elements ≡ at → at < length pattern.elements →
    literal_at pattern at ≡ Some text → met_in look pattern at dir ≡ option_to_list (entry_at look.tree (extended dir text))
met_literal look pattern at dir text rooted size h literal =
    met_if look pattern at dir true (rights look dir).list (literal_text pattern at (Some text) h literal) refl ∙ literal_met look pattern at dir text rooted size h literal

-- by another: all whose names match, or nothing without list
pub met_listed : (look : Look) (pattern : PatternName) (at : ℕ) (dir : PathName) → at < length pattern.elements → literal_at pattern at ≡ None → (rights look dir).list ≡ true →
    met_in look pattern at dir ≡ filter (is_match pattern at) (entries_in look.tree dir)
met_listed look pattern at dir h literal list = met_if look pattern at dir false true (literal_text pattern at None h literal) list

pub met_unlisted : (look : Look) (pattern : PatternName) (at : ℕ) (dir : PathName) → at < length pattern.elements → literal_at pattern at ≡ None → (rights look dir).list ≡ false → met_in look pattern at dir ≡ []
met_unlisted look pattern at dir h literal list = met_if look pattern at dir false false (literal_text pattern at None h literal) list

-- the item of a name stands in the directory
pub named_in : (look : Look) (at : ℕ) (dir : PathName) (text : List ℕ) → IsRooted look.owner look.tree → length dir.elements ≡ at → AllByRecursion (IsIn look at dir) (option_to_list (entry_at look.tree (extended dir text)))
named_in look at dir text rooted size = go (node_at look.tree (extended dir text)) refl
  where
    go : (o : Option Node) → node_at look.tree (extended dir text) ≡ o → AllByRecursion (IsIn look at dir) (option_to_list (option_map entry_of o))
    go None e = tt
    go (Some node) e =
        let name : node.entry.name ≡ extended dir text = rooted.named (extended dir text) node e in
        (record { stands = ap (entry_at look.tree) name ∙ ap (option_map entry_of) e; parent = ap parent_of name ∙ parent_extended dir text; size = size }, tt)
