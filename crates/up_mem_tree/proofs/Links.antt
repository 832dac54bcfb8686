-- How the slots stay linked while some of them change.
use Rattle.std.proofs.Common.{◌≡◌, ℕ, zero, suc, ◌<◌, List, [], ◌∷◌, ◌++◌, length, map, refl, sym, ap, ◌∙◌, ◌⊎◌, inl, inr, arith, Option, Some, None}
use Rattle.std.specs.Prelude.{slice_get}
use Rattle.std.specs.List.{filter, insert, remove}
use Rattle.std.specs.Option.{option_map}
use Rattle.std.proofs.lemmas.Bool.{cases_lt}
use Rattle.std.proofs.lemmas.Option.{slice_get_within}
use Rattle.up_names.specs.PathNames.{PathName, parent_of}
use Rattle.up_mem_tree.specs.declared.edits.Edit.{Edit}
use Rattle.up_mem_tree.specs.declared.edits.Edit.TheVariants.{Same, Added, Removed}
use Rattle.up_mem_tree.specs.Edits.{changed_at, edited}
use Rattle.up_mem_tree.specs.Slots.{AreLinked, Known, path_in}
use Rattle.up_mem_tree.specs.Steps.{IsEditTo}
use Rattle.up_log_tree.specs.Trees.{is_parent}
use Rattle.up_log_tree.proofs.Paths.{some_none, some_same}

-- ---- lists with one slot changed

pub length-changed : (i : ℕ) (change : Known → Known) (slots : List Known) → length (changed_at i change slots) ≡ length slots
length-changed i change [] = refl
length-changed zero change (slot ∷ slots) = refl
length-changed (suc i) change (slot ∷ slots) = ap suc (length-changed i change slots)

-- the slot that changed, and any other
pub get-changed : (i : ℕ) (change : Known → Known) (slots : List Known) (slot : Known) → slice_get slots i ≡ Some slot → slice_get (changed_at i change slots) i ≡ Some (change slot)
get-changed i change [] slot is = absurd (some_none slot (sym is))
get-changed zero change (first ∷ slots) slot is = ap (λ s. Some (change s)) (some_same first slot is)
get-changed (suc i) change (first ∷ slots) slot is = get-changed i change slots slot is

pub get-other : (i j : ℕ) (change : Known → Known) (slots : List Known) → (i ≡ j → ⊥) → slice_get (changed_at i change slots) j ≡ slice_get slots j
get-other i j change [] other = refl
get-other zero zero change (slot ∷ slots) other = absurd (other refl)
get-other zero (suc j) change (slot ∷ slots) other = refl
get-other (suc i) zero change (slot ∷ slots) other = refl
get-other (suc i) (suc j) change (slot ∷ slots) other = get-other i j change slots (λ same. other (ap suc same))

pub changed-twice : (i : ℕ) (f g : Known → Known) (slots : List Known) → changed_at i g (changed_at i f slots) ≡ changed_at i (λ slot. g (f slot)) slots
changed-twice i f g [] = refl
changed-twice zero f g (slot ∷ slots) = refl
changed-twice (suc i) f g (slot ∷ slots) = ap (λ l. slot ∷ l) (changed-twice i f g slots)

pub changed-front : (i : ℕ) (f : Known → Known) (slots more : List Known) → i < length slots → changed_at i f (slots ++ more) ≡ changed_at i f slots ++ more
changed-front i f [] more lt = absurd (omega (arith, lt))
changed-front zero f (slot ∷ slots) more lt = refl
changed-front (suc i) f (slot ∷ slots) more lt = ap (λ l. slot ∷ l) (changed-front i f slots more (omega (arith, lt)))

pub changed-last : (f : Known → Known) (slots : List Known) (slot : Known) → changed_at (length slots) f (slots ++ slot ∷ []) ≡ slots ++ f slot ∷ []
changed-last f [] slot = refl
changed-last f (first ∷ slots) slot = ap (λ l. first ∷ l) (changed-last f slots slot)

-- ---- paths of slots

pub path-changed : (i : ℕ) (change : Known → Known) (slots : List Known) → ((slot : Known) → (change slot).path ≡ slot.path) → (j : ℕ) → path_in (changed_at i change slots) j ≡ path_in slots j
unfolding path_in
path-changed i change [] keeps j = refl
path-changed zero change (slot ∷ slots) keeps zero = ap Some (keeps slot)
path-changed zero change (slot ∷ slots) keeps (suc j) = refl
path-changed (suc i) change (slot ∷ slots) keeps zero = refl
path-changed (suc i) change (slot ∷ slots) keeps (suc j) = path-changed i change slots keeps j

pub path-front : (slots : List Known) (slot : Known) (j : ℕ) (path : PathName) → path_in slots j ≡ Some path → path_in (slots ++ slot ∷ []) j ≡ Some path
unfolding path_in
path-front [] slot j path is = absurd (some_none path (sym is))
path-front (first ∷ slots) slot zero path is = is
path-front (first ∷ slots) slot (suc j) path is = path-front slots slot j path is

pub path-last : (slots : List Known) (slot : Known) → path_in (slots ++ slot ∷ []) (length slots) ≡ Some slot.path
unfolding path_in
path-last [] slot = refl
path-last (first ∷ slots) slot = path-last slots slot

-- a slot with one more behind
pub get-front : (slots : List Known) (last : Known) (j : ℕ) (slot : Known) → slice_get (slots ++ last ∷ []) j ≡ Some slot → (slice_get slots j ≡ Some slot) ⊎ ((j ≡ length slots) × (last ≡ slot))
get-front [] last zero slot is = inr (refl, some_same last slot is)
get-front [] last (suc j) slot is = absurd (some_none slot (sym is))
get-front (first ∷ slots) last zero slot is = inl is
get-front (first ∷ slots) last (suc j) slot is = elim (get-front slots last j slot is) [ inl there ↦ inl there | inr end ↦ inr (ap suc end.0, end.1) ]

-- ---- siblings by other slots

pub paths_kept : (P Q : ℕ → Option PathName) (ids : List ℕ) (paths : List PathName) → ((i : ℕ) (path : PathName) → P i ≡ Some path → Q i ≡ Some path) → map P ids ≡ map Some paths → map Q ids ≡ map Some paths
paths_kept P Q [] [] keeps same = refl
paths_kept P Q [] (path ∷ paths) keeps same = absurd (cc)
paths_kept P Q (id ∷ ids) [] keeps same = absurd (cc)
paths_kept P Q (id ∷ ids) (path ∷ paths) keeps same =
    let first : P id ≡ Some path = cc in
    let rest : map P ids ≡ map Some paths = cc in
    ap (λ o. o ∷ map Q ids) (keeps id path first) ∙ ap (λ l. Some path ∷ l) (paths_kept P Q ids paths keeps rest)

map-insert : {X Y : Type 0} (f : X → Y) (xs : List X) (n : ℕ) (x : X) → map f (insert xs n x) ≡ insert (map f xs) n (f x)
map-insert f [] zero x = refl
map-insert f [] (suc n) x = refl
map-insert f (y ∷ xs) zero x = refl
map-insert f (y ∷ xs) (suc n) x = ap (λ l. f y ∷ l) (map-insert f xs n x)

map-remove : {X Y : Type 0} (f : X → Y) (xs : List X) (n : ℕ) → map f (remove xs n) ≡ remove (map f xs) n
map-remove f [] zero = refl
map-remove f [] (suc n) = refl
map-remove f (y ∷ xs) zero = refl
map-remove f (y ∷ xs) (suc n) = ap (λ l. f y ∷ l) (map-remove f xs n)

-- an edit of siblings is one of their paths
pub edit_paths : (Q : ℕ → Option PathName) (edit : Edit) (id : ℕ) (path : PathName) (ids : List ℕ) (paths target : List PathName) → map Q ids ≡ map Some paths → Q id ≡ Some path → IsEditTo edit id path paths target
    → map Q (edited edit ids) ≡ map Some target
edit_paths Q Same id path ids paths target same at is = same ∙ ap (map Some) (sym is)
edit_paths Q (Added place added) id path ids paths target same at is =
    map-insert Q ids place added ∙ ap (λ l. insert l place (Q added)) same ∙ ap (λ i. insert (map Some paths) place (Q i)) is.0 ∙ ap (insert (map Some paths) place) at
    ∙ sym (map-insert Some paths place path) ∙ ap (map Some) (sym is.2)
edit_paths Q (Removed place) id path ids paths target same at is =
    map-remove Q ids place ∙ ap (λ l. remove l place) same ∙ sym (map-remove Some paths place) ∙ ap (map Some) (sym is.1)

-- ---- links

-- the change keeps what links the slot
pub record KeepsLinks (change : Known → Known) : Type 0 where
  pub path : (slot : Known) → (change slot).path ≡ slot.path
  pub parent : (slot : Known) → (change slot).parent ≡ slot.parent
  pub named : (slot : Known) → (change slot).named ≡ slot.named

module _ (owner : List ℕ) (paths : List PathName) (slots : List Known) (linked : AreLinked owner paths slots) where
  -- a changed list has, at each number, the old slot or the changed one
  pub record WasAt (i : ℕ) (change : Known → Known) (j : ℕ) (slot : Known) : Type 0 where
    pub was : Known
    pub there : slice_get slots j ≡ Some was
    pub is : ((i ≡ j) × (change was ≡ slot)) ⊎ ((i ≡ j → ⊥) × (was ≡ slot))

  pub was_at : (i : ℕ) (change : Known → Known) (j : ℕ) (slot : Known) → slice_get (changed_at i change slots) j ≡ Some slot → WasAt i change j slot
  was_at i change j slot is = elim (cases_lt i j) [
    | inl lt ↦ other (λ same. absurd (omega (arith, lt, same)))
    | inr ge ↦ elim (cases_lt j i) [
      | inl lt ↦ other (λ same. absurd (omega (arith, lt, same)))
      | inr le ↦ here (let e : i ≡ j = omega (arith, ge, le) in e)
    ]
  ]
    where
      other : (i ≡ j → ⊥) → WasAt i change j slot
      other apart = record { was = slot; there = sym (get-other i j change slots apart) ∙ is; is = inr (apart, refl) }

      here : i ≡ j → WasAt i change j slot
      here same = go (slice_get slots j) refl
        where
          go : (o : Option Known) → slice_get slots j ≡ o → WasAt i change j slot
          go None none = absurd (let lt = slice_get_within (changed_at i change slots) j slot is in none_within slots j (omega (arith, lt, length-changed i change slots)) none)
            where
              none_within : (slots : List Known) (j : ℕ) → j < length slots → slice_get slots j ≡ None → ⊥
              none_within [] j lt none = absurd (omega (arith, lt))
              none_within (s ∷ slots) zero lt none = some_none s none
              none_within (s ∷ slots) (suc j) lt none = none_within slots j (omega (arith, lt)) none
          go (Some was) there = record {
            was = was;
            there = there;
            is = inl (same, some_same (change was) slot (sym (ap (λ k. slice_get (changed_at i change slots) k) (sym same) ∙ get-changed i change slots was (ap (slice_get slots) same ∙ there)) ∙ is));
          }

  pub linked_changed : (i : ℕ) (change : Known → Known) → KeepsLinks change → AreLinked owner paths (changed_at i change slots)
  linked_changed i change keeps = record {
    rising = linked.rising;
    alone = λ a b path p q. linked.alone a b path (sym (at a) ∙ p) (sym (at b) ∙ q);
    all = λ path named. let found = linked.all path named in (found.0, at found.0 ∙ found.1);
    only = λ j path is. linked.only j path (sym (at j) ∙ is);
    root = λ path is. linked.root path (sym (at 0) ∙ is);
    parents = λ j slot is. let was = was_at i change j slot is in old_parent j slot was.was (linked.parents j was.was was.there) (same_parent slot was.was was.is) (same_path slot was.was was.is);
    named = λ j slot is. let was = was_at i change j slot is in
        ap (map (path_in (changed_at i change slots))) (same_named slot was.was was.is)
        ∙ paths_kept (path_in slots) (path_in (changed_at i change slots)) was.was.named (filter (is_parent was.was.path) paths) (λ k path there. at k ∙ there) (linked.named j was.was was.there)
        ∙ ap (λ p. map Some (filter (is_parent p) paths)) (sym (same_path slot was.was was.is));
    closed = linked.closed;
  }
    where
      at : (j : ℕ) → path_in (changed_at i change slots) j ≡ path_in slots j
      at j = path-changed i change slots keeps.path j

      same_path : {A B : Type 0} (slot was : Known) → (A × (change was ≡ slot)) ⊎ (B × (was ≡ slot)) → slot.path ≡ was.path
      same_path slot was (inl here) = ap (λ (s : Known). s.path) (sym here.1) ∙ keeps.path was
      same_path slot was (inr other) = ap (λ (s : Known). s.path) (sym other.1)

      same_parent : {A B : Type 0} (slot was : Known) → (A × (change was ≡ slot)) ⊎ (B × (was ≡ slot)) → slot.parent ≡ was.parent
      same_parent slot was (inl here) = ap (λ (s : Known). s.parent) (sym here.1) ∙ keeps.parent was
      same_parent slot was (inr other) = ap (λ (s : Known). s.parent) (sym other.1)

      same_named : {A B : Type 0} (slot was : Known) → (A × (change was ≡ slot)) ⊎ (B × (was ≡ slot)) → slot.named ≡ was.named
      same_named slot was (inl here) = ap (λ (s : Known). s.named) (sym here.1) ∙ keeps.named was
      same_named slot was (inr other) = ap (λ (s : Known). s.named) (sym other.1)

      old_parent : (j : ℕ) (slot was : Known) → option_map (path_in slots) was.parent ≡ option_map Some (parent_of was.path) → slot.parent ≡ was.parent → slot.path ≡ was.path
          → option_map (path_in (changed_at i change slots)) slot.parent ≡ option_map Some (parent_of slot.path)
      old_parent j slot was h same_p same_q = ap (option_map (path_in (changed_at i change slots))) same_p ∙ go was.parent ∙ h ∙ ap (λ p. option_map Some (parent_of p)) (sym same_q)
        where
          go : (o : Option ℕ) → option_map (path_in (changed_at i change slots)) o ≡ option_map (path_in slots) o
          go None = refl
          go (Some k) = ap Some (at k)
