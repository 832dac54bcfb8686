-- Lists of paths without repeats, to which others are added.
use Rattle.std.proofs.Common.{◌≡◌, ℕ, zero, suc, ◌+◌, ◌<◌, true, false, List, [], ◌∷◌, ◌++◌, sym, ap, subst, ◌∙◌, ◌⊎◌, inl, inr, arith, append_assoc, append-nil, Some, slice_get}
use Rattle.std.specs.Prelude.{Contains}
use Rattle.std.specs.List.{flat_map, IsDistinct}
use Rattle.std.proofs.lemmas.Bool.{cases_Bool}
use Rattle.std.proofs.lemmas.List.Elements.{Contains-append_left, Contains-append_right, Contains-append_cases, Contains-push, Contains-push_cases}
use Rattle.std.proofs.lemmas.Map.Keys.{IsDistinct-push}
use Rattle.std.proofs.lemmas.Map.Views.{Contains-from_any, list_any-from_Contains}
use Rattle.std.proofs.lemmas.Option.{slice_get-get_or, slice_get_within, get_or_from_slice_get}
use Rattle.up_names.specs.PathNames.{PathName}
use Rattle.up_names.specs.PathOrder.{path_eq}
use Rattle.up_names.specs.PathOrderLaws.{path_eq-Decides, path_eq_equivalence}
use Rattle.up_policy.specs.Reached.{is_among, with_path, with_paths}

pub no_member : {X : Type 0} (x : X) → Contains [] x → ⊥
no_member x h = let k : h.0 < 0 = h.1 in absurd (omega arith)

pub Contains-cons : {X : Type 0} (y x : X) (xs : List X) → Contains (y ∷ xs) x → (y ≡ x) ⊎ Contains xs x
Contains-cons y x xs h = elim (Contains-append_cases (y ∷ []) xs x h) [
  | inl here ↦ elim (Contains-push_cases [] y x here) [ inl none ↦ absurd (no_member x none) | inr same ↦ inl same ]
  | inr there ↦ inr there
]

pub Contains-head : {X : Type 0} (x : X) (xs : List X) → Contains (x ∷ xs) x
Contains-head x xs = Contains-append_left (x ∷ []) xs x (Contains-push [] x)

pub Contains-behind : {X : Type 0} (y x : X) (xs : List X) → Contains xs x → Contains (y ∷ xs) x
Contains-behind y x xs h = Contains-append_right (y ∷ []) xs x h

-- an element stands at a place, and what stands at a place is an element
pub place_of : {X : Type 0} (xs : List X) (x : X) → Contains xs x → (k : ℕ) × (slice_get xs k ≡ Some x)
place_of xs x h = (h.0, slice_get-get_or xs h.0 x h.1 ∙ ap Some h.2)

pub Contains-at : {X : Type 0} (xs : List X) (k : ℕ) (x : X) → slice_get xs k ≡ Some x → Contains xs x
Contains-at xs k x h = (k, slice_get_within xs k x h, get_or_from_slice_get xs k x x h)

-- what stands in the first part of a list stands there in the whole
pub slice_get-front : {X : Type 0} (xs ys : List X) (k : ℕ) (x : X) → slice_get xs k ≡ Some x → slice_get (xs ++ ys) k ≡ Some x
slice_get-front [] ys k x h = absurd (cc)
slice_get-front (z ∷ xs) ys zero x h = h
slice_get-front (z ∷ xs) ys (suc k) x h = slice_get-front xs ys k x h

-- an element of a list of one of the listed is in all of them together
pub Contains-flat_map : {X Y : Type 0} (f : X → List Y) (xs : List X) (x : X) (y : Y) → Contains xs x → Contains (f x) y → Contains (flat_map f xs) y
Contains-flat_map f [] x y h k = absurd (no_member x h)
Contains-flat_map f (z ∷ xs) x y h k = elim (Contains-cons z x xs h) [
  | inl same ↦ Contains-append_left (f z) (flat_map f xs) y (subst (λ w. Contains (f w) y) (sym same) k)
  | inr there ↦ Contains-append_right (f z) (flat_map f xs) y (Contains-flat_map f xs x y there k)
]

pub among_from_Contains : (paths : List PathName) (path : PathName) → Contains paths path → is_among paths path ≡ true
among_from_Contains paths path h = list_any-from_Contains path_eq_equivalence path paths h

pub Contains-from_among : (paths : List PathName) (path : PathName) → is_among paths path ≡ true → Contains paths path
Contains-from_among paths path h = Contains-from_any (λ x y. (path_eq-Decides x y).0) path paths h

-- with one path more
with_path-old : (paths : List PathName) (path : PathName) → is_among paths path ≡ true → with_path paths path ≡ paths
with_path-old paths path h = rw h

with_path-new : (paths : List PathName) (path : PathName) → is_among paths path ≡ false → with_path paths path ≡ paths ++ path ∷ []
with_path-new paths path h = rw h

pub front_of_with_path : (paths : List PathName) (path : PathName) → (behind : List PathName) × (with_path paths path ≡ paths ++ behind)
front_of_with_path paths path = elim (cases_Bool (is_among paths path)) [
  | inl old ↦ ([], with_path-old paths path old ∙ sym (append-nil paths))
  | inr new ↦ (path ∷ [], with_path-new paths path new)
]

with_path-has : (paths : List PathName) (path : PathName) → Contains (with_path paths path) path
with_path-has paths path = elim (cases_Bool (is_among paths path)) [
  | inl old ↦ subst (λ all. Contains all path) (sym (with_path-old paths path old)) (Contains-from_among paths path old)
  | inr new ↦ subst (λ all. Contains all path) (sym (with_path-new paths path new)) (Contains-push paths path)
]

with_path-cases : (paths : List PathName) (path q : PathName) → Contains (with_path paths path) q → Contains paths q ⊎ (path ≡ q)
with_path-cases paths path q h = elim (cases_Bool (is_among paths path)) [
  | inl old ↦ inl (subst (λ all. Contains all q) (with_path-old paths path old) h)
  | inr new ↦ Contains-push_cases paths path q (subst (λ all. Contains all q) (with_path-new paths path new) h)
]

with_path-distinct : (paths : List PathName) (path : PathName) → IsDistinct path_eq paths → IsDistinct path_eq (with_path paths path)
with_path-distinct paths path h = elim (cases_Bool (is_among paths path)) [
  | inl old ↦ subst (IsDistinct path_eq) (sym (with_path-old paths path old)) h
  | inr new ↦ subst (IsDistinct path_eq) (sym (with_path-new paths path new)) (IsDistinct-push path_eq_equivalence paths path h new)
]

-- with more
pub front_of_with_paths : (paths more : List PathName) → (behind : List PathName) × (with_paths paths more ≡ paths ++ behind)
front_of_with_paths paths [] = ([], sym (append-nil paths))
front_of_with_paths paths (path ∷ more) =
    let one = front_of_with_path paths path in
    let rest = front_of_with_paths (with_path paths path) more in
    (one.0 ++ rest.0, rest.1 ∙ (ap (λ all. all ++ rest.0) one.1 ∙ append_assoc paths one.0 rest.0))

pub with_paths-keeps : (paths more : List PathName) (q : PathName) → Contains paths q → Contains (with_paths paths more) q
with_paths-keeps paths more q h =
    let front = front_of_with_paths paths more in
    subst (λ all. Contains all q) (sym front.1) (Contains-append_left paths front.0 q h)

pub with_paths-has : (paths more : List PathName) (q : PathName) → Contains more q → Contains (with_paths paths more) q
with_paths-has paths [] q h = absurd (no_member q h)
with_paths-has paths (path ∷ more) q h = elim (Contains-cons path q more h) [
  | inl same ↦ with_paths-keeps (with_path paths path) more q (subst (Contains (with_path paths path)) same (with_path-has paths path))
  | inr there ↦ with_paths-has (with_path paths path) more q there
]

pub with_paths-cases : (paths more : List PathName) (q : PathName) → Contains (with_paths paths more) q → Contains paths q ⊎ Contains more q
with_paths-cases paths [] q h = inl h
with_paths-cases paths (path ∷ more) q h = elim (with_paths-cases (with_path paths path) more q h) [
  | inl old ↦ elim (with_path-cases paths path q old) [ inl kept ↦ inl kept | inr same ↦ inr (subst (Contains (path ∷ more)) same (Contains-head path more)) ]
  | inr new ↦ inr (Contains-behind path q more new)
]

pub with_paths-distinct : (paths more : List PathName) → IsDistinct path_eq paths → IsDistinct path_eq (with_paths paths more)
with_paths-distinct paths [] h = h
with_paths-distinct paths (path ∷ more) h = with_paths-distinct (with_path paths path) more (with_path-distinct paths path h)
