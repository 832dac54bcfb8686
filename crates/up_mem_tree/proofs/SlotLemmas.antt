-- The slots by their numbers.
use Rattle.std.proofs.Common.{◌≡◌, ◌<◌, ℕ, zero, suc, List, [], ◌∷◌, ◌++◌, length, get_or, Option, Some, None, refl, sym, ap, ◌∙◌, arith}
use Rattle.std.proofs.Math.ListN.{set}
use Rattle.std.specs.Prelude.{slice_get}
use Rattle.std.specs.Option.{option_map}
use Rattle.std.proofs.lemmas.List.{length-map, map-append}
use Rattle.std.proofs.lemmas.Option.{get_or_from_slice_get, slice_get-get_or, slice_get-map}
use Rattle.up_names.specs.PathNames.{PathName}
use Rattle.up_mem_tree.specs.Slots.{Known, known, known_all, path_in}
use Rattle.up_mem_tree.specs.declared.slots.Slot.{Slot}
use Rattle.up_mem_tree.specs.Edits.{changed_at}
use Rattle.up_mem_tree.specs.Steps.{fresh_slot}
use Rattle.up_log_tree.proofs.Paths.{some_none, some_same}
use Rattle.up_mem_tree.proofs.Walks.{id_within}

pub known_at : (slots : List Slot) (id : ℕ) → slice_get (known_all slots) id ≡ option_map known (slice_get slots id)
known_at slots id = slice_get-map known slots id

-- the path of a slot that was read
pub path_of_slot : (slots : List Slot) (id : ℕ) → path_in (known_all slots) id ≡ option_map (λ (slot : Slot). slot.path) (slice_get slots id)
unfolding path_in known
path_of_slot slots id = ap (option_map (λ (slot : Known). slot.path)) (known_at slots id) ∙ go (slice_get slots id)
  where
    go : (o : Option Slot) → option_map (λ (slot : Known). slot.path) (option_map known o) ≡ option_map (λ (slot : Slot). slot.path) o
    go None = refl
    go (Some slot) = refl

pub slot_within : (slots : List Slot) (id : ℕ) (path : PathName) → path_in (known_all slots) id ≡ Some path → id < length slots
slot_within slots id path is = let lt : id < length (known_all slots) = id_within (known_all slots) id path is in omega (arith, lt, length-map slots known)

-- a slot that was read by its number
pub known_read : (slots : List Slot) (id : ℕ) (slot : Slot) → id < length slots → slot ≡ get_or slots id slot → slice_get (known_all slots) id ≡ Some (known slot)
known_read slots id slot lt is = known_at slots id ∙ ap (option_map known) (slice_get-get_or slots id slot lt ∙ ap Some (sym is))

pub known-path : (slot : Slot) → (known slot).path ≡ slot.path
unfolding known
known-path slot = refl

pub known-named : (slot : Slot) → (known slot).named ≡ slot.named.items
unfolding known
known-named slot = refl

pub known-parent : (slot : Slot) → (known slot).parent ≡ slot.parent
unfolding known
known-parent slot = refl

-- ---- changes

pub changed_set : (slots : List Slot) (id : ℕ) (old new : Slot) (change : Known → Known) → slice_get slots id ≡ Some old → known new ≡ change (known old) → known_all (set slots id new) ≡ changed_at id change (known_all slots)
changed_set [] id old new change there is = refl
changed_set (slot ∷ slots) zero old new change there is = ap (λ k. k ∷ known_all slots) (is ∙ ap (λ s. change (known s)) (sym (some_same slot old there)))
changed_set (slot ∷ slots) (suc id) old new change there is = ap (λ ks. known slot ∷ ks) (changed_set slots id old new change there is)

pub read_there : (slots : List Slot) (id : ℕ) (other slot : Slot) → slice_get slots id ≡ Some other → slot ≡ get_or slots id slot → other ≡ slot
read_there slots id other slot there is = sym (get_or_from_slice_get slots id other slot there) ∙ sym is

pub known-push : (slots : List Slot) (slot : Slot) → known_all (slots ++ slot ∷ []) ≡ known_all slots ++ known slot ∷ []
known-push slots slot = map-append known slots (slot ∷ [])

pub get-set : {X : Type 0} (xs : List X) (i j : ℕ) (x : X) → (i ≡ j → ⊥) → slice_get (set xs i x) j ≡ slice_get xs j
get-set [] i j x other = refl
get-set (y ∷ xs) zero zero x other = absurd (other refl)
get-set (y ∷ xs) zero (suc j) x other = refl
get-set (y ∷ xs) (suc i) zero x other = refl
get-set (y ∷ xs) (suc i) (suc j) x other = get-set xs i j x (λ same. other (ap suc same))

-- ---- what is known of slots that differ in room alone

pub known_alike : (a b : Slot) → a.path ≡ b.path → a.last ≡ b.last → a.parent ≡ b.parent → a.named.items ≡ b.named.items → a.children.items ≡ b.children.items
    → a.access.items ≡ b.access.items → a.group.items ≡ b.group.items → known a ≡ known b
unfolding known
known_alike a b path last parent named children access group = cc

pub known_fresh : (slot : Slot) (path : PathName) (parent : Option ℕ) → slot.path ≡ path → slot.last ≡ 0 → slot.parent ≡ parent → slot.named.items ≡ [] → slot.children.items ≡ []
    → slot.access.items ≡ [] → slot.group.items ≡ [] → known slot ≡ fresh_slot path parent
unfolding known
known_fresh slot path parent is_path last is_parent named children access group = cc

pub set_alike : (slots : List Slot) (id : ℕ) (old new : Slot) → slice_get slots id ≡ Some old → known new ≡ known old → known_all (set slots id new) ≡ known_all slots
set_alike [] id old new there is = refl
set_alike (slot ∷ slots) zero old new there is = ap (λ k. k ∷ known_all slots) (is ∙ ap known (sym (some_same slot old there)))
set_alike (slot ∷ slots) (suc id) old new there is = ap (λ ks. known slot ∷ ks) (set_alike slots id old new there is)

pub get_set : {X : Type 0} (xs : List X) (i : ℕ) (old new : X) → slice_get xs i ≡ Some old → slice_get (set xs i new) i ≡ Some new
get_set [] i old new there = absurd (some_none old (sym there))
get_set (x ∷ xs) zero old new there = refl
get_set (x ∷ xs) (suc i) old new there = get_set xs i old new there

pub read_at : (slots : List Slot) (id : ℕ) (slot : Slot) → id < length slots → slot ≡ get_or slots id slot → slice_get slots id ≡ Some slot
read_at slots id slot within read = slice_get-get_or slots id slot within ∙ ap Some (sym read)
