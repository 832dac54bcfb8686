-- What is met, one item after the other.
use Rattle.std.proofs.Common.{◌≡◌, ℕ, zero, suc, ◌+◌, ◌-◌, ◌<◌, ◌≤◌, Bool, true, false, not, ◌&&◌, ◌||◌, List, [], ◌∷◌, ◌++◌, length, map, take, refl, sym, ap, subst, ◌∙◌, arith, Option, Some, None}
use Rattle.std.proofs.lemmas.List.{append_assoc, append-nil, map-append}
use Rattle.std.proofs.lemmas.List.Elements.{filter-append, filter_map-append}
use Rattle.std.specs.Prelude.{if◌then◌else◌, filter, slice_index_or, ◌==◌, Result, Ok, Err, IsErr, OnOk}
use Rattle.std.specs.List.{AllByRecursion, cons_option, filter_map, flat_map}
use Rattle.std.proofs.lemmas.Grind.{flat_map-append}
use Rattle.std.specs.Option.{option_to_list}
use Rattle.std.proofs.lemmas.Bool.{false≢true}
use Rattle.up_names.specs.PathNames.{PathName}
use Rattle.up_rights.specs.RightSets.{Rights}
use Rattle.up_entry.specs.declared.entries.Entry.{Entry}
use Rattle.up_entry.specs.declared.entries.Kind.{Kind}
use Rattle.up_entry.specs.declared.entries.Kind.TheVariants.{File, Directory, Link}
use Rattle.up_entry.specs.Rules.{is_directory}
use Rattle.up_pattern.specs.Patterns.{PatternName}
use Rattle.up_log_tree.specs.Trees.{is_link}
use Rattle.up_list.specs.Deciding.{IsDecided}
use Rattle.up_list.specs.Looks.{Look, rights}
use Rattle.up_list.specs.Places.{ArePlaces, IsIn, IsNextLevel, IsPlace, Meets, path_in}
use Rattle.up_list.proofs.BelowLemmas.{parent_is}
use Rattle.up_list.specs.Walking.{further, goes_on, has_row, met_from, met_in, row_held, row_met, walked}
use Rattle.up_list.specs.declared.decided.Decided.{Decided}
use Rattle.up_list.specs.declared.walk.Place.{Place}
use Rattle.up_list.specs.declared.walk.Walk.{Walk}

all_append : {X : Type 0} (P : X → Type 0) (xs ys : List X) → AllByRecursion P xs → AllByRecursion P ys → AllByRecursion P (xs ++ ys)
all_append P [] ys h k = k
all_append P (x ∷ xs) ys h k = (h.0, all_append P xs ys h.1 k)

-- what one item makes
one_made : {X Y : Type 0} (f : X → Option Y) (x : X) → filter_map f (x ∷ []) ≡ option_to_list (f x)
one_made f x = go (f x)
  where
    go : {Y : Type 0} (o : Option Y) → cons_option o [] ≡ option_to_list o
    go None = refl
    go (Some y) = refl

further_if : (pattern : PatternName) (at : ℕ) (entry : Entry) (b : Bool) → goes_on pattern at entry ≡ b → further pattern at (entry ∷ []) ≡ (if b then entry.name ∷ [] else [])
further_if pattern at entry b h = ap (λ c. map (λ (e : Entry). e.name) (if c then entry ∷ [] else [])) h ∙ go b
  where
    go : (b : Bool) → map (λ (e : Entry). e.name) (if b then entry ∷ [] else []) ≡ (if b then entry.name ∷ [] else [])
    go true = refl
    go false = refl

-- what has a row is not walked into
no_further : (kind : Kind) (last : Bool) → (last || is_link kind) ≡ true → (is_directory kind && not last) ≡ false
no_further File last h = refl
no_further Directory true h = refl
no_further Directory false h = absurd (false≢true h)
no_further Link last h = refl

-- what is walked into has no row
no_row : (kind : Kind) (last : Bool) → (is_directory kind && not last) ≡ true → (last || is_link kind) ≡ false
no_row File last h = absurd (false≢true h)
no_row Directory true h = absurd (false≢true h)
no_row Directory false h = refl
no_row Link last h = absurd (false≢true h)

module _ (look : Look) (pattern : PatternName) (at : ℕ) (old new : Walk) (entry : Entry) where
  row_is : (b : Bool) → has_row pattern at entry ≡ b → row_met look pattern at entry ≡ (if b then row_held pattern at (rights look entry.name) entry else None)
  row_is b h = ap (λ c. if c then row_held pattern at (rights look entry.name) entry else None) h

  -- an item with a row
  pub meets_row : (held : Rights) → has_row pattern at entry ≡ true → held ≡ rights look entry.name →
      new.rows.items ≡ old.rows.items ++ option_to_list (row_held pattern at held entry) → new.places.items ≡ old.places.items → Meets look pattern at old new (entry ∷ [])
  meets_row held row same rows places = record {
    rows = rows ∙ ap (λ ys. old.rows.items ++ ys) (ap (λ h. option_to_list (row_held pattern at h entry)) same ∙ sym (one_made (row_met look pattern at) entry ∙ ap option_to_list (row_is true row)));
    paths = ap (map path_in) places ∙ sym (ap (λ ys. map path_in old.places.items ++ ys) (further_if pattern at entry false (no_further entry.attr.kind (suc at == length pattern.elements) row)) ∙ append-nil (map path_in old.places.items));
    places = λ are. subst (ArePlaces look (suc at)) (sym places) are;
  }

  -- a directory that is walked into
  pub meets_dir : (decided : Decided) → goes_on pattern at entry ≡ true → entry.name.owner ≡ look.owner → length entry.name.elements ≡ suc at → IsDecided look entry.name decided →
      new.rows.items ≡ old.rows.items → new.places.items ≡ old.places.items ++ record { path = entry.name; decided = decided } ∷ [] → Meets look pattern at old new (entry ∷ [])
  meets_dir decided on owned size is rows places = record {
    rows = rows ∙ sym (ap (λ ys. old.rows.items ++ ys) (one_made (row_met look pattern at) entry ∙ ap option_to_list (row_is false (no_row entry.attr.kind (suc at == length pattern.elements) on))) ∙ append-nil old.rows.items);
    paths = ap (map path_in) places ∙ (map-append path_in old.places.items (record { path = entry.name; decided = decided } ∷ [])
        ∙ ap (λ ys. map path_in old.places.items ++ ys) (sym (further_if pattern at entry true on)));
    places = λ are. subst (ArePlaces look (suc at)) (sym places)
        (all_append (IsPlace look (suc at)) old.places.items (record { path = entry.name; decided = decided } ∷ []) are (record { owned = owned; size = size; decided = is }, tt));
  }

  -- any other item
  pub meets_nothing : has_row pattern at entry ≡ false → goes_on pattern at entry ≡ false → Meets look pattern at old old (entry ∷ [])
  meets_nothing row on = record {
    rows = sym (ap (λ ys. old.rows.items ++ ys) (one_made (row_met look pattern at) entry ∙ ap option_to_list (row_is false row)) ∙ append-nil old.rows.items);
    paths = sym (ap (λ ys. map path_in old.places.items ++ ys) (further_if pattern at entry false on) ∙ append-nil (map path_in old.places.items));
    places = λ are. are;
  }

-- ---- one list of items after another

pub meets_no_item : (look : Look) (pattern : PatternName) (at : ℕ) (walk : Walk) → Meets look pattern at walk walk []
meets_no_item look pattern at walk = record { rows = sym (append-nil walk.rows.items); paths = sym (append-nil (map path_in walk.places.items)); places = λ are. are }

pub meets_more : (look : Look) (pattern : PatternName) (at : ℕ) (a b c : Walk) (xs ys : List Entry) → Meets look pattern at a b xs → Meets look pattern at b c ys → Meets look pattern at a c (xs ++ ys)
meets_more look pattern at a b c xs ys one two = record {
  rows = two.rows ∙ (ap (λ rs. rs ++ filter_map (row_met look pattern at) ys) one.rows ∙ (append_assoc a.rows.items (filter_map (row_met look pattern at) xs) (filter_map (row_met look pattern at) ys) ∙ ap (λ rs. a.rows.items ++ rs) (sym (filter_map-append (row_met look pattern at) xs ys))));
  paths = two.paths ∙ (ap (λ ps. ps ++ further pattern at ys) one.paths ∙ (append_assoc (map path_in a.places.items) (further pattern at xs) (further pattern at ys) ∙ ap (λ ps. map path_in a.places.items ++ ps)
      (sym (ap (map (λ (e : Entry). e.name)) (filter-append (goes_on pattern at) xs ys) ∙ map-append (λ (e : Entry). e.name) (filter (goes_on pattern at) xs) (filter (goes_on pattern at) ys)))));
  places = λ are. two.places (one.places are);
}

-- ---- one item after the other

take_suc : {X : Type 0} (xs : List X) (i : ℕ) (x : X) → i < length xs → x ≡ slice_index_or xs i x → take (suc i) xs ≡ take i xs ++ x ∷ []
take_suc [] i x h is = absurd (let z : ⊥ = omega arith in z)
take_suc (y ∷ xs) zero x h is = ap (λ z. z ∷ []) (sym is)
take_suc (y ∷ xs) (suc i) x h is = ap (λ zs. y ∷ zs) (take_suc xs i x (omega arith) is)

take_next : {X : Type 0} (xs : List X) (i : ℕ) (x : X) → i < length xs → x ≡ slice_index_or xs i x → take (i + 1) xs ≡ take i xs ++ x ∷ []
take_next xs i x h is = ap (λ n. take n xs) (let e : i + 1 ≡ suc i = omega arith in e) ∙ take_suc xs i x h is

length_map : {X Y : Type 0} (f : X → Y) (xs : List X) → length (map f xs) ≡ length xs
length_map f [] = refl
length_map f (x ∷ xs) = ap suc (length_map f xs)

take_whole : {X : Type 0} (i : ℕ) (xs : List X) → length xs ≤ i → take i xs ≡ xs
take_whole zero [] h = refl
take_whole zero (x ∷ xs) h = absurd (let z : ⊥ = omega arith in z)
take_whole (suc i) [] h = refl
take_whole (suc i) (x ∷ xs) h = ap (λ ys. x ∷ ys) (take_whole i xs (omega arith))

-- all items were met
pub meets_whole : {X : Type 0} (look : Look) (pattern : PatternName) (at : ℕ) (a b : Walk) (f : X → Entry) (p : Entry → Bool) (xs : List X) (i : ℕ) → length xs ≤ i →
    Meets look pattern at a b (filter p (map f (take i xs))) → Meets look pattern at a b (filter p (map f xs))
meets_whole look pattern at a b f p xs i h met = subst (λ ys. Meets look pattern at a b (filter p (map f ys))) (take_whole i xs h) met

all_at : {X : Type 0} (P : X → Type 0) (xs : List X) (i : ℕ) (x : X) → i < length xs → x ≡ slice_index_or xs i x → AllByRecursion P xs → P x
all_at P [] i x h is all = absurd (let z : ⊥ = omega arith in z)
all_at P (y ∷ xs) zero x h is all = subst P (sym is) all.0
all_at P (y ∷ xs) (suc i) x h is all = all_at P xs i x (omega arith) is all.1

map_at : {X Y : Type 0} (f : X → Y) (xs : List X) (i : ℕ) (x : X) → i < length xs → x ≡ slice_index_or xs i x → f x ≡ slice_index_or (map f xs) i (f x)
map_at f [] i x h is = absurd (let z : ⊥ = omega arith in z)
map_at f (y ∷ xs) zero x h is = ap f is
map_at f (y ∷ xs) (suc i) x h is = map_at f xs i x (omega arith) is

-- each of a list's images passes, so that of an item does
pub image_at : {X Y : Type 0} (f : X → Y) (P : Y → Type 0) (xs : List X) (i : ℕ) (x : X) → i < length xs → x ≡ slice_index_or xs i x → AllByRecursion P (map f xs) → P (f x)
image_at f P xs i x h is all = all_at P (map f xs) i (f x) (subst (λ n. i < n) (sym (length_map f xs)) h) (map_at f xs i x h is) all

-- what is met of the first items and of the next is what is met of one more
pub meets_next : {X : Type 0} (look : Look) (pattern : PatternName) (at : ℕ) (a b c : Walk) (f : X → Entry) (p : Entry → Bool) (xs : List X) (i : ℕ) (x : X) → i < length xs → x ≡ slice_index_or xs i x →
    Meets look pattern at a b (filter p (map f (take i xs))) → Meets look pattern at b c (filter p (f x ∷ [])) → Meets look pattern at a c (filter p (map f (take (i + 1) xs)))
meets_next look pattern at a b c f p xs i x h is one two =
    subst (Meets look pattern at a c) (sym (ap (λ ys. filter p (map f ys)) (take_next xs i x h is) ∙ (ap (filter p) (map-append f (take i xs) (x ∷ [])) ∙ filter-append p (map f (take i xs)) (f x ∷ []))))
    (meets_more look pattern at a b c (filter p (map f (take i xs))) (filter p (f x ∷ [])) one two)

-- ---- one directory after the other

joined_next : {X : Type 0} {Y Z : Type 0} (f : X → Y) (h : Y → List Z) (xs : List X) (i : ℕ) (x : X) → i < length xs → x ≡ slice_index_or xs i x →
    flat_map h (map f (take (i + 1) xs)) ≡ flat_map h (map f (take i xs)) ++ h (f x)
joined_next f h xs i x low is =
    ap (λ ys. flat_map h (map f ys)) (take_next xs i x low is)
    ∙ (ap (flat_map h) (map-append f (take i xs) (x ∷ []))
    ∙ (flat_map-append h (map f (take i xs)) (f x ∷ []) ∙ ap (λ ys. flat_map h (map f (take i xs)) ++ ys) (append-nil (h (f x)))))

-- what is met from the first directories and in the next is what is met from one more
pub level_next : (look : Look) (pattern : PatternName) (at : ℕ) (a b c : Walk) (places : List Place) (i : ℕ) (place : Place) → i < length places → place ≡ slice_index_or places i place →
    Meets look pattern at a b (met_from look pattern at (map path_in (take i places))) → Meets look pattern at b c (met_in look pattern at place.path) →
    Meets look pattern at a c (met_from look pattern at (map path_in (take (i + 1) places)))
level_next look pattern at a b c places i place low is one two =
    subst (Meets look pattern at a c) (sym (joined_next path_in (met_in look pattern at) places i place low is))
    (meets_more look pattern at a b c (met_from look pattern at (map path_in (take i places))) (met_in look pattern at place.path) one two)

-- one level more is found
pub level_found : (look : Look) (pattern : PatternName) (at k : ℕ) (old new : Walk) → at < k → IsNextLevel look pattern at old new →
    new.rows.items ++ walked look pattern (k - (at + 1)) (at + 1) (map path_in new.places.items) ≡ old.rows.items ++ walked look pattern (k - at) at (map path_in old.places.items)
level_found look pattern at k old new low next =
    let met = met_from look pattern at (map path_in old.places.items) in
    let more : k - at ≡ suc (k - (at + 1)) = omega arith in
    let up : at + 1 ≡ suc at = omega arith in
    ap (λ rs. rs ++ walked look pattern (k - (at + 1)) (at + 1) (map path_in new.places.items)) next.rows
    ∙ (append_assoc old.rows.items (filter_map (row_met look pattern at) met) (walked look pattern (k - (at + 1)) (at + 1) (map path_in new.places.items))
    ∙ ap (λ rs. old.rows.items ++ rs)
    (ap (λ ps. filter_map (row_met look pattern at) met ++ walked look pattern (k - (at + 1)) (at + 1) ps) next.paths
    ∙ (ap (λ n. filter_map (row_met look pattern at) met ++ walked look pattern (k - (at + 1)) n (further pattern at met)) up
    ∙ ap (λ n. walked look pattern n at (map path_in old.places.items)) (sym more))))

-- ---- results

pub on_ok : {T E P Q : Type 0} (r : Result T E) → OnOk r P → (P → Q) → OnOk r Q
on_ok (Ok x) p f = f p
on_ok (Err e) p f = tt

pub on_both : {T E P Q R : Type 0} (r : Result T E) → OnOk r P → OnOk r Q → (P → Q → R) → OnOk r R
on_both (Ok x) p q f = f p q
on_both (Err e) p q f = tt

pub on_err : {T E : Type 0} (P : Type 0) (r : Result T E) → IsErr r → OnOk r P
on_err P (Ok x) h = absurd (false≢true h)
on_err P (Err e) h = tt

-- ---- an item in a directory

length_take : {X : Type 0} (n : ℕ) (xs : List X) → n ≤ length xs → length (take n xs) ≡ n
length_take zero xs h = refl
length_take (suc n) [] h = absurd (let z : ⊥ = omega arith in z)
length_take (suc n) (x ∷ xs) h = ap suc (length_take n xs (omega arith))

-- it has one element more
pub size_in : (look : Look) (at : ℕ) (dir : PathName) (entry : Entry) → IsIn look at dir entry → length entry.name.elements ≡ suc at
size_in look at dir entry stands =
    let is = parent_is entry.name dir stands.parent in
    let front : length (take (length entry.name.elements - 1) entry.name.elements) ≡ length dir.elements = ap (λ (p : PathName). length p.elements) is.1 in
    let some : 0 < length entry.name.elements = is.0 in
    let whole = length_take (length entry.name.elements - 1) entry.name.elements (omega arith) in
    let size = stands.size in
    omega arith
