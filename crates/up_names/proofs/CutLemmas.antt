-- A list cut at its first element that passes a test.
use Rattle.std.proofs.Common.{eqb, get_or, one-add, ◌++◌, ◌&&◌, ◌||◌, length-take, length-drop, ◌≡◌, ◌∙◌, ℕ, ◌+◌, ◌-◌, ◌<◌, Bool, true, false, not, cond, ltb, List, [], ◌∷◌, length, take, drop, refl, ap, sym, Some, None, arith}
use Rattle.std.proofs.lemmas.Grind.{common_steps}
use Rattle.std.proofs.lemmas.Bool.Decides.{nat_tests}
use Rattle.std.proofs.Math.ListN.{drop_of_length-le}
use Rattle.std.proofs.Math.Seq.{take-length, take-append_seam, drop-append-add}
use Rattle.std.proofs.lemmas.Bool.{eqb-true, false≢true, or_from, or_parts, ltb-true, and_from, and_parts, or_left, or_right}
use Rattle.std.proofs.lemmas.Slice.{between_to_end}
use Rattle.std.proofs.lemmas.List.{take-append-drop}
use Rattle.std.proofs.lemmas.List.Folds.{list_any-append}
use Rattle.std.proofs.lemmas.List.Splits.{slice_split_first}
use Rattle.std.proofs.lemmas.List.Sums.{split_at_first, passes_at_first}
use Rattle.std.specs.List.{list_all, slice_split, onto_first, count_by, list_any, before_first, after_first, position_or_len, position}

pub list_any-placed : {X : Type 0} (p : X → Bool) (xs : List X) → list_any p xs ≡ ltb (position_or_len p xs) (length xs)
list_any-placed p [] = refl
list_any-placed p (x ∷ xs) = let h = list_any-placed p xs in grind (arith, common_steps, h)

pub position_or_len-none : {X : Type 0} (p : X → Bool) (xs : List X) → list_any p xs ≡ false → position_or_len p xs ≡ length xs
position_or_len-none p [] e = refl
position_or_len-none p (x ∷ xs) e = let h = position_or_len-none p xs in grind (arith, common_steps, h)

-- what a search for the place gives
pub place_is : (n m i : ℕ) → Some i ≡ cond (ltb n m) (Some n) None → (i ≡ n) × (ltb n m ≡ true)
place_is n m i e = at (ltb n m) refl e
  where
    at : (b : Bool) → ltb n m ≡ b → Some i ≡ cond b (Some n) None → (i ≡ n) × (ltb n m ≡ true)
    at true t e' = (cc, t)
    at false t e' = absurd (cc)

pub no_place : (n m : ℕ) → None ≡ cond (ltb n m) (Some n) None → ltb n m ≡ false
no_place n m e = at (ltb n m) refl e
  where
    at : (b : Bool) → ltb n m ≡ b → None ≡ cond b (Some n) None → ltb n m ≡ false
    at true t e' = absurd (cc)
    at false t e' = t

-- it tells both parts
pub found_before : {X : Type 0} (p : X → Bool) (xs : List X) (i : ℕ) → Some i ≡ position p xs → take i xs ≡ before_first p xs
found_before p xs i e = ap (λ k. take k xs) (place_is _ _ i e).0

pub found_behind : {X : Type 0} (p : X → Bool) (xs : List X) (i : ℕ) → Some i ≡ position p xs → Some (take (length xs - (i + 1)) (drop (i + 1) xs)) ≡ cond (list_any p xs) (Some (after_first p xs)) None
found_behind p xs i e =
    let found = place_is (position_or_len p xs) (length xs) i e in
    let any : list_any p xs ≡ true = list_any-placed p xs ∙ found.1 in
    let all : take (length xs - (i + 1)) (drop (i + 1) xs) ≡ drop (i + 1) xs = between_to_end xs (i + 1) (length xs) (omega arith) in
    rw any (ap Some (all ∙ ap (λ k. drop (k + 1) xs) found.0))

pub none_behind : {X : Type 0} (p : X → Bool) (xs : List X) → None ≡ position p xs → None ≡ cond (list_any p xs) (Some (after_first p xs)) None
none_behind p xs e =
    let any : list_any p xs ≡ false = list_any-placed p xs ∙ no_place _ _ e in
    rw any refl

pub none_before : {X : Type 0} (p : X → Bool) (xs : List X) → None ≡ position p xs → xs ≡ before_first p xs
none_before p xs e =
    let len = position_or_len-none p xs (list_any-placed p xs ∙ no_place _ _ e) in
    rw len (sym (take-length xs))

pub nothing_behind : {X : Type 0} (p : X → Bool) (xs : List X) → position_or_len p xs ≡ length xs → None ≡ cond (list_any p xs) (Some (after_first p xs)) None
nothing_behind p xs e =
    let any : list_any p xs ≡ false = list_any-placed p xs ∙ grind (arith, nat_tests, e) in
    rw any refl

-- what stands behind, told by a cut
pub something_behind : {X : Type 0} (p : X → Bool) (xs ys : List X) → Some ys ≡ cond (list_any p xs) (Some (after_first p xs)) None → ys ≡ after_first p xs
something_behind {X} p xs ys e = at (list_any p xs) e
  where
    at : (b : Bool) → Some ys ≡ cond b (Some (after_first p xs)) None → ys ≡ after_first p xs
    at true e = cc
    at false e = absurd (cc)

pub empty_behind : {X : Type 0} (p : X → Bool) (xs : List X) → None ≡ cond (list_any p xs) (Some (after_first p xs)) None → [] ≡ after_first p xs
empty_behind {X} p xs e = at (list_any p xs) refl e
  where
    at : (b : Bool) → list_any p xs ≡ b → None ≡ cond b (Some (after_first p xs)) None → [] ≡ after_first p xs
    at true _ e = absurd (cc)
    at false none e = sym (drop_of_length-le xs (let h = position_or_len-none p xs none in omega arith))

pub ruleset behind = (something_behind, empty_behind)

pub ruleset cuts = (found_before, found_behind, none_before, none_behind)

pub before_first-none : {X : Type 0} (p : X → Bool) (xs : List X) → list_any p (before_first p xs) ≡ false
before_first-none p [] = refl
before_first-none {X} p (x ∷ xs) = at (p x) refl (before_first-none p xs)
  where
    at : (b : Bool) → p x ≡ b → list_any p (before_first p xs) ≡ false → list_any p (take (cond (not b) (1 + position_or_len p xs) 0) (x ∷ xs)) ≡ false
    at true e rest = refl
    at false e rest = rw (one-add, e) rest

-- a list joined at an element that passes is cut there again, if none before it passes
pub position_or_len-joined : {X : Type 0} (p : X → Bool) (xs : List X) (y : X) (ys : List X) → list_any p xs ≡ false → p y ≡ true → position_or_len p (xs ++ y ∷ ys) ≡ length xs
position_or_len-joined p [] y ys none marked = rw marked refl
position_or_len-joined p (x ∷ xs) y ys none marked =
    let parts = or_parts (p x) (list_any p xs) none in
    rw (parts.0, position_or_len-joined p xs y ys parts.1 marked) (omega arith)

pub before_first-joined : {X : Type 0} (p : X → Bool) (xs : List X) (y : X) (ys : List X) → list_any p xs ≡ false → p y ≡ true → before_first p (xs ++ y ∷ ys) ≡ xs
before_first-joined p xs y ys none marked = rw (position_or_len-joined p xs y ys none marked) (take-append_seam xs (y ∷ ys))

pub after_first-joined : {X : Type 0} (p : X → Bool) (xs : List X) (y : X) (ys : List X) → list_any p xs ≡ false → p y ≡ true → after_first p (xs ++ y ∷ ys) ≡ ys
after_first-joined p xs y ys none marked = rw (position_or_len-joined p xs y ys none marked) (drop-append-add xs (y ∷ ys) 1)

pub list_any-counted : {X : Type 0} (p : X → Bool) (xs : List X) → list_any p xs ≡ false → count_by p xs ≡ 0
list_any-counted p [] none = refl
list_any-counted p (x ∷ xs) none =
    let parts = or_parts (p x) (list_any p xs) none in
    rw (parts.0, list_any-counted p xs parts.1) refl

-- what stands before the first and behind it, and one between
pub length-cut : {X : Type 0} (p : X → Bool) (xs : List X) → list_any p xs ≡ true → length (before_first p xs) + 1 + length (after_first p xs) ≡ length xs
length-cut p xs any =
    let placed : position_or_len p xs < length xs = ltb-true _ _ (sym (list_any-placed p xs) ∙ any) in
    omega (arith, length-take (position_or_len p xs) xs, length-drop (position_or_len p xs + 1) xs)

-- where nothing passes the front is all, and nothing stands behind
pub before_first-all : {X : Type 0} (p : X → Bool) (xs : List X) → list_any p xs ≡ false → before_first p xs ≡ xs
before_first-all p xs none = rw (position_or_len-none p xs none) (take-length xs)

pub list_all-parts : {X : Type 0} (p q : X → Bool) (xs : List X) → list_all (list_all q) (slice_split p xs) ≡ true → list_all (λ x. q x || p x) xs ≡ true
list_all-parts p q [] all = refl
list_all-parts {X} p q (x ∷ xs) all = at (p x) (slice_split p xs) (list_all-parts p q xs) all
  where
    at : (b : Bool) (parts : List (List X)) → (list_all (list_all q) parts ≡ true → list_all (λ y. q y || p y) xs ≡ true) → list_all (list_all q) (cond b ([] ∷ parts) (onto_first x parts)) ≡ true → ((q x || b) && list_all (λ y. q y || p y) xs) ≡ true
    at true parts rest all = and_from _ _ (or_right (q x) true refl) (rest all)
    at false [] rest all = and_from _ _ (or_left (q x) false (let h = and_parts (q x && true) true all in (and_parts (q x) true h.0).0)) (rest refl)
    at false (part ∷ parts) rest all =
        let h = and_parts (list_all q (x ∷ part)) (list_all (list_all q) parts) all in
        let k = and_parts (q x) (list_all q part) h.0 in
        and_from _ _ (or_left (q x) false k.0) (rest (and_from _ _ k.1 h.1))

pub list_all-weaker : {X : Type 0} (p q : X → Bool) → ((x : X) → p x ≡ true → q x ≡ true) → (xs : List X) → list_all p xs ≡ true → list_all q xs ≡ true
list_all-weaker p q weaker [] all = refl
list_all-weaker p q weaker (x ∷ xs) all = let h = and_parts (p x) (list_all p xs) all in and_from _ _ (weaker x h.0) (list_all-weaker p q weaker xs h.1)

pub list_any-excluded : {X : Type 0} (p q : X → Bool) → ((x : X) → p x ≡ true → q x ≡ false) → (xs : List X) → list_all p xs ≡ true → list_any q xs ≡ false
list_any-excluded p q excluded [] all = refl
list_any-excluded p q excluded (x ∷ xs) all = let h = and_parts (p x) (list_all p xs) all in or_from _ _ (excluded x h.0) (list_any-excluded p q excluded xs h.1)

pub list_any-take : {X : Type 0} (p : X → Bool) (n : ℕ) (xs : List X) → list_any p xs ≡ false → list_any p (take n xs) ≡ false
list_any-take p n xs none =
    let h : (list_any p (take n xs) || list_any p (drop n xs)) ≡ false = sym (list_any-append p (take n xs) (drop n xs)) ∙ ap (list_any p) (take-append-drop n xs) ∙ none in
    (or_parts _ _ h).0

-- a list without such an element is one part
pub slice_split-whole : {X : Type 0} (p : X → Bool) (xs : List X) → list_any p xs ≡ false → slice_split p xs ≡ xs ∷ []
slice_split-whole p [] none = refl
slice_split-whole p (x ∷ xs) none =
    let h = or_parts (p x) (list_any p xs) none in
    rw (h.0, slice_split-whole p xs h.1) refl

-- the first part ends at the first such element
pub slice_split-cut : {X : Type 0} (p : X → Bool) (xs : List X) → list_any p xs ≡ true → slice_split p xs ≡ before_first p xs ∷ slice_split p (after_first p xs)
slice_split-cut p [] any = absurd (false≢true any)
slice_split-cut p (x ∷ xs) any = slice_split_first p (x ∷ xs) x (ltb-true (position_or_len p (x ∷ xs)) (length (x ∷ xs)) (sym (list_any-placed p (x ∷ xs)) ∙ any))

-- a list is what stands before the first such byte, that byte, and what stands behind it
pub cut-joined : (c : ℕ) (xs : List ℕ) → list_any (λ b. eqb b c) xs ≡ true → xs ≡ before_first (λ b. eqb b c) xs ++ c ∷ after_first (λ b. eqb b c) xs
cut-joined c xs any =
    let n = position_or_len (λ b. eqb b c) xs in
    let placed : n < length xs = ltb-true n (length xs) (sym (list_any-placed (λ b. eqb b c) xs) ∙ any) in
    let is : get_or xs n 0 ≡ c = eqb-true (get_or xs n 0) c (passes_at_first (λ b. eqb b c) xs 0 placed) in
    split_at_first (λ b. eqb b c) xs 0 placed ∙ ap (λ b. before_first (λ b. eqb b c) xs ++ b ∷ after_first (λ b. eqb b c) xs) is
