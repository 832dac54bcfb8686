-- Paths, their parents, and their order among siblings.
use Rattle.std.proofs.Common.{◌≡◌, ℕ, zero, suc, ◌+◌, ◌-◌, ◌≤◌, Bool, true, false, List, [], ◌∷◌, ◌++◌, length, take, refl, sym, ap, subst, ◌∙◌, arith, Option, Some, None}
use Rattle.std.specs.Prelude.{slice_get, nat_lt, if◌then◌else◌, unwrap_or}
use Rattle.std.specs.List.{join_with_byte}
use Rattle.std.specs.Cmp.{nat_cmp_total, tied_itself}
use Rattle.std.specs.Cmp.Lexicographic.{slice_cmp}
use Rattle.std.specs.Ordering.{nat_cmp, ordering_then}
use Rattle.std.specs.declared.cmp.Ordering.{Ordering}
use Rattle.std.specs.declared.cmp.Ordering.TheVariants.{Less, Equal, Greater}
use Rattle.std.proofs.Math.Seq.{take-length}
use Rattle.std.proofs.lemmas.Bool.{lt-ltb, false≢true}
use Rattle.std.proofs.lemmas.Cmp.{nat_list_cmp_total}
use Rattle.std.proofs.lemmas.List.{take-take, length-take-le, length-append, take-append-le}
use Rattle.up_names.specs.PathNames.{PathName, cut, extended, parent_of}
use Rattle.up_names.specs.PathOrder.{parts_cmp, path_eq, path_cmp}
use Rattle.up_names.specs.PathOrderLaws.{path_eq-Decides}
use Rattle.up_log_tree.specs.Trees.{is_parent, last_element}

pub some_none : {X : Type 0} (x : X) → Some x ≡ None → ⊥
some_none x h = absurd (cc)

pub some_same : {X : Type 0} (x y : X) → Some x ≡ Some y → x ≡ y
some_same x y h = cc

-- ---- equality

pub path_eq_itself : (p : PathName) → path_eq p p ≡ true
path_eq_itself p = (path_eq-Decides p p).1 refl

pub path_same : (p q : PathName) → path_eq p q ≡ true → p ≡ q
path_same p q h = (path_eq-Decides p q).0 h

pub path_other : (p q : PathName) → path_eq p q ≡ false → p ≡ q → ⊥
path_other p q h same = false≢true (sym h ∙ (path_eq-Decides p q).1 same)

pub path_apart : (p q : PathName) → (p ≡ q → ⊥) → path_eq p q ≡ false
path_apart p q other = go (path_eq p q) refl
  where
    go : (b : Bool) → path_eq p q ≡ b → path_eq p q ≡ false
    go true is = absurd (other (path_same p q is))
    go false is = is

pub path_eq_turned : (p q : PathName) → path_eq p q ≡ path_eq q p
path_eq_turned p q = go (path_eq p q) refl
  where
    go : (b : Bool) → path_eq p q ≡ b → path_eq p q ≡ path_eq q p
    go true is = is ∙ sym (subst (λ r. path_eq r p ≡ true) (path_same p q is) (path_eq_itself p))
    go false is = is ∙ sym (path_apart q p (λ same. path_other p q is (sym same)))

-- ---- cuts and parents

pub parent_is : (path : PathName) (n : ℕ) → length path.elements ≡ suc n → parent_of path ≡ Some (cut n path)
parent_is path n is =
    ap (λ l. if nat_lt 0 l then Some (cut (l - 1) path) else None) is
    ∙ (ap (λ b. if b then Some (cut (suc n - 1) path) else None) (lt-ltb 0 (suc n) (omega arith))
    ∙ ap (λ k. Some (cut k path)) (let e : suc n - 1 ≡ n = omega arith in e))

pub parent_none : (path : PathName) → length path.elements ≡ 0 → parent_of path ≡ None
parent_none path is = ap (λ l. if nat_lt 0 l then Some (cut (l - 1) path) else None) is

pub cut_cut : (m n : ℕ) (path : PathName) → m ≤ n → cut m (cut n path) ≡ cut m path
cut_cut m n path h = ap (λ elements. record { owner = path.owner; elements = elements }) (take-take m n path.elements h)

pub cut_whole : (path : PathName) → cut (length path.elements) path ≡ path
cut_whole path = ap (λ elements. record { owner = path.owner; elements = elements }) (take-length path.elements)

pub length_cut : (n : ℕ) (path : PathName) → n ≤ length path.elements → length (cut n path).elements ≡ n
length_cut n path h = length-take-le n path.elements h

take_next : {X : Type 0} (n : ℕ) (xs : List X) (x : X) → slice_get xs n ≡ Some x → take (suc n) xs ≡ take n xs ++ x ∷ []
take_next n [] x h = absurd (some_none x (sym h))
take_next zero (y ∷ xs) x h = ap (λ z. z ∷ []) (some_same y x h)
take_next (suc n) (y ∷ xs) x h = ap (λ zs. y ∷ zs) (take_next n xs x h)

-- a cut with one element more
pub cut_next : (n : ℕ) (path : PathName) (element : List ℕ) → slice_get path.elements n ≡ Some element → cut (suc n) path ≡ extended (cut n path) element
cut_next n path element h = ap (λ elements. record { owner = path.owner; elements = elements }) (take_next n path.elements element h)

pub cut_more : (n : ℕ) (path : PathName) (element : List ℕ) → slice_get path.elements n ≡ Some element → cut (n + 1) path ≡ extended (cut n path) element
cut_more n path element h = ap (λ k. cut k path) (let e : n + 1 ≡ suc n = omega arith in e) ∙ cut_next n path element h

pub length-extended : (dir : PathName) (element : List ℕ) → length (extended dir element).elements ≡ suc (length dir.elements)
length-extended dir element = let e : length (dir.elements ++ element ∷ []) ≡ length dir.elements + 1 = length-append dir.elements (element ∷ []) in omega (arith, e)

pub cut_extended : (dir : PathName) (element : List ℕ) → cut (length dir.elements) (extended dir element) ≡ dir
cut_extended dir element =
    ap (λ elements. record { owner = dir.owner; elements = elements }) (take-append-le (length dir.elements) dir.elements (element ∷ []) (omega arith) ∙ take-length dir.elements)

pub parent_extended : (dir : PathName) (element : List ℕ) → parent_of (extended dir element) ≡ Some dir
parent_extended dir element = parent_is (extended dir element) (length dir.elements) (length-extended dir element) ∙ ap Some (cut_extended dir element)

last_of : {X : Type 0} (xs : List X) (x : X) → slice_get (xs ++ x ∷ []) (length xs) ≡ Some x
last_of [] x = refl
last_of (y ∷ xs) x = last_of xs x

pub last_extended : (dir : PathName) (element : List ℕ) → last_element (extended dir element) ≡ element
last_extended dir element =
    ap (λ n. unwrap_or (slice_get (dir.elements ++ element ∷ []) (n - 1)) []) (length-extended dir element)
    ∙ ap (λ n. unwrap_or (slice_get (dir.elements ++ element ∷ []) n) []) (let e : suc (length dir.elements) - 1 ≡ length dir.elements = omega arith in e)
    ∙ ap (λ o. unwrap_or o []) (last_of dir.elements element)

there : {X : Type 0} (xs : List X) (n : ℕ) → length xs ≡ suc n → (x : X) × (slice_get xs n ≡ Some x)
there [] n is = absurd (omega (arith, is))
there (x ∷ xs) zero is = (x, refl)
there (x ∷ xs) (suc n) is = there xs n (omega (arith, is))

-- a path that has a parent is its parent with its last element
pub extended_last : (path dir : PathName) → parent_of path ≡ Some dir → path ≡ extended dir (last_element path)
extended_last path dir is = by_length (length path.elements) refl
  where
    by_length : (n : ℕ) → length path.elements ≡ n → path ≡ extended dir (last_element path)
    by_length zero none = absurd (some_none dir (sym is ∙ parent_none path none))
    by_length (suc n) len =
        let last = there path.elements n len in
        let above : cut n path ≡ dir = some_same (cut n path) dir (sym (parent_is path n len) ∙ is) in
        let named : last_element path ≡ last.0 =
        ap (λ k. unwrap_or (slice_get path.elements (k - 1)) []) len
        ∙ ap (λ k. unwrap_or (slice_get path.elements k) []) (let e : suc n - 1 ≡ n = omega arith in e)
        ∙ ap (λ o. unwrap_or o []) last.1 in
        sym (cut_whole path) ∙ ap (λ k. cut k path) len ∙ cut_next n path last.0 last.1
        ∙ ap (λ d. extended d last.0) above ∙ ap (extended dir) (sym named)

-- ---- the test of a parent

pub is_parent-some : (dir path parent : PathName) → parent_of path ≡ Some parent → is_parent dir path ≡ path_eq parent dir
unfolding is_parent
is_parent-some dir path parent is = ap (λ o. elim o as (λ _. Bool) [ None ↦ false | Some p ↦ path_eq p dir ]) is

pub is_parent-none : (dir path : PathName) → parent_of path ≡ None → is_parent dir path ≡ false
unfolding is_parent
is_parent-none dir path is = ap (λ o. elim o as (λ _. Bool) [ None ↦ false | Some p ↦ path_eq p dir ]) is

pub is_parent_of : (dir path : PathName) → is_parent dir path ≡ true → parent_of path ≡ Some dir
is_parent_of dir path h = go (parent_of path) refl
  where
    go : (o : Option PathName) → parent_of path ≡ o → parent_of path ≡ Some dir
    go None is = absurd (false≢true (sym (is_parent-none dir path is) ∙ h))
    go (Some parent) is = is ∙ ap Some (path_same parent dir (sym (is_parent-some dir path parent is) ∙ h))

pub parent_passes : (dir path : PathName) → parent_of path ≡ Some dir → is_parent dir path ≡ true
parent_passes dir path is = is_parent-some dir path dir is ∙ path_eq_itself dir

pub parent_fails : (dir path : PathName) → (parent_of path ≡ Some dir → ⊥) → is_parent dir path ≡ false
parent_fails dir path other = go (is_parent dir path) refl
  where
    go : (b : Bool) → is_parent dir path ≡ b → is_parent dir path ≡ false
    go true is = absurd (other (is_parent_of dir path is))
    go false is = is

-- ---- order among siblings

same_front : (front x y : List ℕ) → slice_cmp nat_cmp (front ++ x) (front ++ y) ≡ slice_cmp nat_cmp x y
same_front [] x y = refl
same_front (b ∷ front) x y = ap (λ o. ordering_then o (slice_cmp nat_cmp (front ++ x) (front ++ y))) (nat_tied b) ∙ same_front front x y
  where
    nat_tied : (b : ℕ) → nat_cmp b b ≡ Equal
    nat_tied b = tied_itself nat_cmp_total b

same_lists : (front : List (List ℕ)) (x y : List (List ℕ)) → slice_cmp (slice_cmp nat_cmp) (front ++ x) (front ++ y) ≡ slice_cmp (slice_cmp nat_cmp) x y
same_lists [] x y = refl
same_lists (e ∷ front) x y = ap (λ o. ordering_then o (slice_cmp (slice_cmp nat_cmp) (front ++ x) (front ++ y))) (tied_itself nat_list_cmp_total e) ∙ same_lists front x y

joined_cmp : (front : List (List ℕ)) (a b : List ℕ) → slice_cmp nat_cmp (join_with_byte 47 (front ++ a ∷ [])) (join_with_byte 47 (front ++ b ∷ [])) ≡ slice_cmp nat_cmp a b
joined_cmp [] a b = refl
joined_cmp (e ∷ []) a b = same_front e (47 ∷ a) (47 ∷ b) ∙ same_front (47 ∷ []) a b
joined_cmp (e ∷ f ∷ front) a b =
    same_front e (47 ∷ join_with_byte 47 ((f ∷ front) ++ a ∷ [])) (47 ∷ join_with_byte 47 ((f ∷ front) ++ b ∷ []))
    ∙ same_front (47 ∷ []) (join_with_byte 47 ((f ∷ front) ++ a ∷ [])) (join_with_byte 47 ((f ∷ front) ++ b ∷ []))
    ∙ joined_cmp (f ∷ front) a b

then_same : (o : Ordering) → ordering_then o o ≡ o
then_same Less = refl
then_same Equal = refl
then_same Greater = refl

then_equal : (o : Ordering) → ordering_then o Equal ≡ o
then_equal Less = refl
then_equal Equal = refl
then_equal Greater = refl

-- siblings are in the order of their last elements
pub sibling_cmp : (dir : PathName) (a b : List ℕ) → path_cmp (extended dir a) (extended dir b) ≡ slice_cmp nat_cmp a b
sibling_cmp dir a b =
    ap (λ o. ordering_then o (parts_cmp (extended dir a) (extended dir b)))
    (same_front dir.owner (47 ∷ join_with_byte 47 (dir.elements ++ a ∷ [])) (47 ∷ join_with_byte 47 (dir.elements ++ b ∷ []))
    ∙ same_front (47 ∷ []) (join_with_byte 47 (dir.elements ++ a ∷ [])) (join_with_byte 47 (dir.elements ++ b ∷ []))
    ∙ joined_cmp dir.elements a b)
    ∙ ap (λ o. ordering_then (slice_cmp nat_cmp a b) (ordering_then o (slice_cmp (slice_cmp nat_cmp) (dir.elements ++ a ∷ []) (dir.elements ++ b ∷ [])))) (tied_itself nat_list_cmp_total dir.owner)
    ∙ ap (ordering_then (slice_cmp nat_cmp a b)) (same_lists dir.elements (a ∷ []) (b ∷ []) ∙ then_equal (slice_cmp nat_cmp a b))
    ∙ then_same (slice_cmp nat_cmp a b)
