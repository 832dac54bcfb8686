-- Lists cut at the first element that passes a test, and lists split at each.
use Rattle.std.proofs.Common.{◌≡◌, ℕ, suc, ◌+◌, ◌<◌, Bool, true, false, cond, not, ◌||◌, List, [], ◌∷◌, ◌++◌, length, take, drop, refl, sym, ap, subst, ◌∙◌, arith, count_by, one-add, Some, None}
use Rattle.std.specs.List.{list_all, list_any, before_first, after_first, slice_split, position_or_len, onto_first}
use Rattle.std.proofs.lemmas.Bool.{and_parts, and_from, or_from, or_parts, or_left, or_right, not_from_false, not-true, false≢true, ltb-true}
use Rattle.std.proofs.lemmas.List.{length-take, length-drop}
use Rattle.std.proofs.lemmas.Option.{cond_some, none-some}
use Rattle.std.proofs.lemmas.List.Sums.{sum_by-cons}
use Rattle.up_names.proofs.CutLemmas.{list_any-placed}

-- where each passes f, none passes q
pub none_of_all : (f q : ℕ → Bool) → ((b : ℕ) → q b ≡ true → f b ≡ false) → (xs : List ℕ) → list_all f xs ≡ true → list_any q xs ≡ false
none_of_all f q apart [] all = refl
none_of_all f q apart (x ∷ xs) all =
    let parts = and_parts (f x) (list_all f xs) all in
    or_from (q x) (list_any q xs)
    (elim (q x) as (λ b. q x ≡ b → b ≡ false) [ true ↦ λ e. absurd (false≢true (sym (apart x e) ∙ parts.0)) | false ↦ λ _. refl ] refl)
    (none_of_all f q apart xs parts.1)

pub list_all_weaker : (f g : List ℕ → Bool) → ((x : List ℕ) → f x ≡ true → g x ≡ true) → (xs : List (List ℕ)) → list_all f xs ≡ true → list_all g xs ≡ true
list_all_weaker f g weaker [] all = refl
list_all_weaker f g weaker (x ∷ xs) all =
    let both = and_parts (f x) (list_all f xs) all in and_from (g x) (list_all g xs) (weaker x both.0) (list_all_weaker f g weaker xs both.1)

-- where one passes, the first of them has a place
pub place_found : (p : ℕ → Bool) (xs : List ℕ) → 0 < count_by p xs → position_or_len p xs < length xs
place_found p [] h = absurd (omega arith)
place_found p (x ∷ xs) h =
    let count = sum_by-cons (λ x. cond (p x) 1 0) x xs in
    elim (p x) as (λ b. p x ≡ b → cond (not b) (1 + position_or_len p xs) 0 < suc (length xs)) [
      | true ↦ λ _. omega arith
      | false ↦ λ e.
          let counted : count_by p (x ∷ xs) ≡ 0 + count_by p xs = count ∙ ap (λ b. cond b 1 0 + count_by p xs) e in
          let rest = place_found p xs (omega arith) in
          omega arith
    ] refl

module _ (p : ℕ → Bool) where
  pub before_first-yes : (x : ℕ) (xs : List ℕ) → p x ≡ true → before_first p (x ∷ xs) ≡ []
  before_first-yes x xs e = subst (λ b. take (cond (not b) (1 + position_or_len p xs) 0) (x ∷ xs) ≡ []) (sym e) refl

  pub before_first-no : (x : ℕ) (xs : List ℕ) → p x ≡ false → before_first p (x ∷ xs) ≡ x ∷ before_first p xs
  before_first-no x xs e =
      subst (λ b. take (cond (not b) (1 + position_or_len p xs) 0) (x ∷ xs) ≡ x ∷ before_first p xs) (sym e)
      (ap (λ n. take n (x ∷ xs)) (one-add (position_or_len p xs)))

  pub after_first-yes : (x : ℕ) (xs : List ℕ) → p x ≡ true → after_first p (x ∷ xs) ≡ xs
  after_first-yes x xs e = subst (λ b. drop (cond (not b) (1 + position_or_len p xs) 0 + 1) (x ∷ xs) ≡ xs) (sym e) refl

  pub after_first-no : (x : ℕ) (xs : List ℕ) → p x ≡ false → after_first p (x ∷ xs) ≡ after_first p xs
  after_first-no x xs e =
      subst (λ b. drop (cond (not b) (1 + position_or_len p xs) 0 + 1) (x ∷ xs) ≡ after_first p xs) (sym e)
      (ap (λ n. drop n (x ∷ xs)) (let n : (1 + position_or_len p xs) + 1 ≡ suc (position_or_len p xs + 1) = omega arith in n))

  -- no element before the one that passes p does
  pub before_first-at : (front : List ℕ) (x : ℕ) (rest : List ℕ) → list_any p front ≡ false → p x ≡ true → before_first p (front ++ x ∷ rest) ≡ front
  before_first-at [] x rest none e = before_first-yes x rest e
  before_first-at (y ∷ front) x rest none e =
      let parts = or_parts (p y) (list_any p front) none in
      before_first-no y (front ++ x ∷ rest) parts.0 ∙ ap (λ xs. y ∷ xs) (before_first-at front x rest parts.1 e)

  pub after_first-at : (front : List ℕ) (x : ℕ) (rest : List ℕ) → list_any p front ≡ false → p x ≡ true → after_first p (front ++ x ∷ rest) ≡ rest
  after_first-at [] x rest none e = after_first-yes x rest e
  after_first-at (y ∷ front) x rest none e =
      let parts = or_parts (p y) (list_any p front) none in
      after_first-no y (front ++ x ∷ rest) parts.0 ∙ after_first-at front x rest parts.1 e

  -- none passes: all stands before, and nothing behind
  pub before_first-none : (xs : List ℕ) → list_any p xs ≡ false → before_first p xs ≡ xs
  before_first-none [] none = refl
  before_first-none (x ∷ xs) none =
      let parts = or_parts (p x) (list_any p xs) none in
      before_first-no x xs parts.0 ∙ ap (λ ys. x ∷ ys) (before_first-none xs parts.1)

  pub list_any-at : (front : List ℕ) (x : ℕ) (rest : List ℕ) → p x ≡ true → list_any p (front ++ x ∷ rest) ≡ true
  list_any-at [] x rest e = or_left (p x) (list_any p rest) e
  list_any-at (y ∷ front) x rest e = or_right (p y) _ (list_any-at front x rest e)

  module _ (q : ℕ → Bool) (apart : (b : ℕ) → p b ≡ true → q b ≡ false) where
    -- the parts before and after the first that passes p have none, nor does what passes p: so the whole has none
    pub none_of_parts : (xs : List ℕ) → list_any q (before_first p xs) ≡ false → (list_any p xs ≡ true → list_any q (after_first p xs) ≡ false) → list_any q xs ≡ false
    none_of_parts [] before after = refl
    none_of_parts (x ∷ xs) before after = elim (p x) as (λ b. p x ≡ b → (b || list_any p xs ≡ true → list_any q (after_first p (x ∷ xs)) ≡ false) → list_any q (x ∷ xs) ≡ false) [
      | true ↦ λ e after. or_from (q x) (list_any q xs) (apart x e) (ap (list_any q) (sym (after_first-yes x xs e)) ∙ after refl)
      | false ↦ λ e after.
          let first = or_parts (q x) (list_any q (before_first p xs)) (ap (list_any q) (sym (before_first-no x xs e)) ∙ before) in
          or_from (q x) (list_any q xs) first.0 (none_of_parts xs first.1 (λ h. ap (list_any q) (sym (after_first-no x xs e)) ∙ after h))
    ] refl after

    none_of_onto : (x : ℕ) (parts : List (List ℕ)) → list_all (λ part. not (list_any q part)) (onto_first x parts) ≡ true → (q x ≡ false) × (list_all (λ part. not (list_any q part)) parts ≡ true)
    none_of_onto x [] all = ((or_parts (q x) false (not-true _ (and_parts _ true all).0)).0, refl)
    none_of_onto x (part ∷ parts) all =
        let both = and_parts (not (q x || list_any q part)) (list_all (λ part. not (list_any q part)) parts) all in
        let first = or_parts (q x) (list_any q part) (not-true _ both.0) in
        (first.0, and_from _ _ (not_from_false _ first.1) both.1)

    -- no part of a split has one, nor is a border one: so the whole has none
    pub none_of_split : (xs : List ℕ) → list_all (λ part. not (list_any q part)) (slice_split p xs) ≡ true → list_any q xs ≡ false
    none_of_split [] all = refl
    none_of_split (x ∷ xs) all = elim (p x) as (λ b. p x ≡ b → list_all (λ part. not (list_any q part)) (cond b ([] ∷ slice_split p xs) (onto_first x (slice_split p xs))) ≡ true → list_any q (x ∷ xs) ≡ false) [
      | true ↦ λ e all. or_from (q x) (list_any q xs) (apart x e) (none_of_split xs all)
      | false ↦ λ e all. let both = none_of_onto x (slice_split p xs) all in or_from (q x) (list_any q xs) both.0 (none_of_split xs both.1)
    ] refl all

-- what stands before and behind the first that passes, and that one, are all
pub length-parts : (p : ℕ → Bool) (xs behind : List ℕ) → cond (list_any p xs) (Some (after_first p xs)) None ≡ Some behind → length (before_first p xs) + 1 + length behind ≡ length xs
length-parts p xs behind found =
    let both = cond_some (list_any p xs) (after_first p xs) behind found in
    let place = ltb-true (position_or_len p xs) (length xs) (sym (list_any-placed p xs) ∙ both.0) in
    omega (arith, ap length both.1, length-take (position_or_len p xs) xs, length-drop (position_or_len p xs + 1) xs)

-- nothing stands behind: none passes
pub none_behind : (p : ℕ → Bool) (xs : List ℕ) → cond (list_any p xs) (Some (after_first p xs)) None ≡ None → list_any p xs ≡ false
none_behind p xs none =
    elim (list_any p xs) as (λ b. cond b (Some (after_first p xs)) None ≡ None → b ≡ false) [
      | true ↦ λ none. absurd (none-some (after_first p xs) (sym none))
      | false ↦ λ _. refl
    ] none
