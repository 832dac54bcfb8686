use Rattle.std.proofs.Common.{◌≡◌, ◌+◌, ℕ, List, Option, Some, get_or, ap, sym, subst, ◌∙◌, arith}
use Rattle.std.specs.Prelude.{slice_get}
use Rattle.std.specs.List.{filter}
use Rattle.std.specs.Option.{option_copied}
use Rattle.up_names.specs.PathNames.{PathName, cut, extended}
use Rattle.up_mem_tree.specs.Kept.{paths_of}
use Rattle.up_mem_tree.specs.Slots.{AreLinked, AreSiblings, IsFoundAs, IsIdOf, known, known_all, path_in}
use Rattle.up_log_tree.specs.Trees.{is_parent}
use Rattle.up_mem_tree.specs.declared.slots.Slot.{Slot}
use Rattle.up_log_tree.proofs.Paths.{cut_more, some_same}
use Rattle.up_mem_tree.proofs.SlotLemmas.{known-named, known_read, slot_within}
use Rattle.up_mem_tree.proofs.Walks.{found_id, named_siblings, path_there}
use Rattle.up_mem_tree.proofs.kept.Kept.step.Goals as goal

stepped : (owner : List ℕ) (paths : List PathName) (slots : List Slot) (id n : ℕ) (path : PathName) (element : List ℕ) (slot : Slot) (place : ℕ) (found : Option ℕ) → AreLinked owner paths (known_all slots)
    → path_in (known_all slots) id ≡ Some (cut n path) → slice_get path.elements n ≡ Some element → slot ≡ get_or slots id slot
    → ((dir : PathName) (keys : List PathName) → AreSiblings (known_all slots) dir slot.named.items keys → IsFoundAs (extended dir element) slot.named.items keys place found)
    → IsIdOf paths (known_all slots) (cut (n + 1) path) found
stepped owner paths slots id n path element slot place found linked at next is sought =
    let all = known_all slots in
    let there : slice_get all id ≡ Some (known slot) = known_read slots id slot (slot_within slots id (cut n path) at) is in
    let same : (known slot).path ≡ cut n path = some_same (known slot).path (cut n path) (sym (path_there all id (known slot) there) ∙ at) in
    let keys = filter (is_parent (known slot).path) paths in
    let siblings : AreSiblings all (known slot).path slot.named.items keys = subst (λ ids. AreSiblings all (known slot).path ids keys) (known-named slot) (named_siblings owner paths all linked id (known slot) there) in
    let as_found : IsFoundAs (extended (known slot).path element) (known slot).named keys place found = subst (λ ids. IsFoundAs (extended (known slot).path element) ids keys place found) (sym (known-named slot)) (sought (known slot).path keys siblings) in
    subst (λ p. IsIdOf paths all p found) (ap (λ d. extended d element) same ∙ sym (cut_more n path element next)) (found_id owner paths all linked id (known slot) element place found there as_found)

pub index-requires : goal.index-requires
index-requires c = let lt = slot_within c.args.self.now.slots.items c.args.id _ c.requires.at in omega (arith, lt, c.as_slice.ensures.value, c.as_slice.ensures.len)

pub returns : goal.returns
returns c =
    stepped c.args.self.now.owner (paths_of c.args.self.now) c.args.self.now.slots.items c.args.id c.args.n c.args.path.now c.in-Some.element.now c.index.result.now c.find_among.result.0 c.find_among.result.1 c.requires.stands.linked
    c.requires.at (sym c.element.ensures ∙ ap option_copied c.in-Some.is) c.index.ensures
    (subst (λ slots. (dir : PathName) (keys : List PathName) → AreSiblings (known_all slots) dir c.index.result.now.named.items keys → IsFoundAs (extended dir c.in-Some.element.now) c.index.result.now.named.items keys c.find_among.result.0 c.find_among.result.1) c.as_slice.ensures.value c.find_among.ensures)
