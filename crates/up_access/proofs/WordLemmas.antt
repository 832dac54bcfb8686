-- Words that are joined by gaps are the words of the line.
use Rattle.std.proofs.Common.{◌≡◌, ◌∙◌, ℕ, Bool, true, false, cond, not, ◌&&◌, ◌||◌, List, [], ◌∷◌, ◌++◌, filter, map, ap, refl, append_assoc}
use Rattle.std.proofs.lemmas.Bool.{and_parts, and_from, or_from, or_right, cond-true}
use Rattle.std.proofs.lemmas.List.{append-nil}
use Rattle.std.proofs.lemmas.List.Folds.{list_any-append}
use Rattle.std.specs.List.{flat_map, join_by, list_all, list_any, after_first, slice_split, onto_first, AllByRecursion}
use Rattle.std.specs.Str.{bytes_eq}
use Rattle.up_names.specs.ControlTexts.{is_gap, words_in}
use Rattle.up_names.proofs.CutLemmas.{before_first-joined, after_first-joined, slice_split-cut, slice_split-whole}

-- a list joined at an element that passes is cut there again
pub split-joined : {X : Type 0} (p : X → Bool) (xs : List X) (y : X) (ys : List X) → list_any p xs ≡ false → p y ≡ true → slice_split p (xs ++ y ∷ ys) ≡ xs ∷ slice_split p ys
split-joined p xs y ys none marked =
    let any : list_any p (xs ++ y ∷ ys) ≡ true = list_any-append p xs (y ∷ ys) ∙ or_right (list_any p xs) (p y || list_any p ys) (ap (λ b. b || list_any p ys) marked) in
    slice_split-cut p (xs ++ y ∷ ys) any
    ∙ ap (λ front. front ∷ slice_split p (after_first p (xs ++ y ∷ ys))) (before_first-joined p xs y ys none marked)
    ∙ ap (λ rest. xs ∷ slice_split p rest) (after_first-joined p xs y ys none marked)

-- the parts have what the whole has, and none of the cuts
pub split-parts : (q p : ℕ → Bool) (xs : List ℕ) → list_all q xs ≡ true → list_all (list_all (λ b. q b && not (p b))) (slice_split p xs) ≡ true
split-parts q p [] all = refl
split-parts q p (x ∷ xs) all =
    let parts = and_parts (q x) (list_all q xs) all in
    at (p x) refl (slice_split p xs) parts.0 (split-parts q p xs parts.1)
  where
    at : (b : Bool) → p x ≡ b → (rest : List (List ℕ)) → q x ≡ true → list_all (list_all (λ b. q b && not (p b))) rest ≡ true → list_all (list_all (λ b. q b && not (p b))) (cond b ([] ∷ rest) (onto_first x rest)) ≡ true
    at true is rest first each = each
    at false is [] first each = and_from _ _ (and_from _ _ (and_from _ _ first (ap not is)) refl) refl
    at false is (part ∷ rest) first each =
        let h = and_parts (list_all (λ b. q b && not (p b)) part) (list_all (list_all (λ b. q b && not (p b))) rest) each in
        and_from _ _ (and_from _ _ (and_from _ _ first (ap not is)) h.0) h.1

-- a word: it is not empty, and has no comma and blank
pub record IsWord (word : List ℕ) : Type 0 where
  pub has_no_gap : list_any is_gap word ≡ false
  pub not_empty : bytes_eq word [] ≡ false

words_in-nil : words_in [] ≡ []
unfolding words_in
words_in-nil = refl

words_in-gap : (gap : ℕ) (line : List ℕ) → is_gap gap ≡ true → words_in (gap ∷ line) ≡ words_in line
unfolding words_in
words_in-gap gap line gapped = rw gapped refl

pub words_in-gaps : (gaps line : List ℕ) → list_all is_gap gaps ≡ true → words_in (gaps ++ line) ≡ words_in line
words_in-gaps [] line all = refl
words_in-gaps (gap ∷ gaps) line all =
    let parts = and_parts (is_gap gap) (list_all is_gap gaps) all in
    words_in-gap gap (gaps ++ line) parts.0 ∙ words_in-gaps gaps line parts.1

words_in-first : (word : List ℕ) (gap : ℕ) (line : List ℕ) → IsWord word → is_gap gap ≡ true → words_in (word ++ gap ∷ line) ≡ word ∷ words_in line
unfolding words_in
words_in-first word gap line is gapped =
    ap (filter (λ run. not (bytes_eq run []))) (split-joined is_gap word gap line is.has_no_gap gapped)
    ∙ cond-true (not (bytes_eq word [])) (word ∷ words_in line) (words_in line) (ap not is.not_empty)

words_in-last : (word : List ℕ) → IsWord word → words_in word ≡ word ∷ []
unfolding words_in
words_in-last word is =
    ap (filter (λ run. not (bytes_eq run []))) (slice_split-whole is_gap word is.has_no_gap)
    ∙ cond-true (not (bytes_eq word [])) (word ∷ []) [] (ap not is.not_empty)

words_in-further : {X : Type 0} (f : X → List ℕ) (gap : ℕ) (gaps : List ℕ) → is_gap gap ≡ true → list_all is_gap gaps ≡ true → (x : X) (xs : List X) → AllByRecursion (λ x. IsWord (f x)) (x ∷ xs) → words_in (f x ++ flat_map (λ y. (gap ∷ gaps) ++ f y) xs) ≡ map f (x ∷ xs)
words_in-further f gap gaps gapped all x [] words = ap words_in (append-nil (f x)) ∙ words_in-last (f x) words.0
words_in-further f gap gaps gapped all x (y ∷ ys) words =
    words_in-first (f x) gap ((gaps ++ f y) ++ flat_map (λ z. (gap ∷ gaps) ++ f z) ys) words.0 gapped
    ∙ ap (λ line. f x ∷ words_in line) (append_assoc gaps (f y) (flat_map (λ z. (gap ∷ gaps) ++ f z) ys))
    ∙ ap (λ more. f x ∷ more) (words_in-gaps gaps (f y ++ flat_map (λ z. (gap ∷ gaps) ++ f z) ys) all ∙ words_in-further f gap gaps gapped all y ys words.1)

-- words that are joined by gaps
pub words_in-joined : {X : Type 0} (f : X → List ℕ) (gap : ℕ) (gaps : List ℕ) → is_gap gap ≡ true → list_all is_gap gaps ≡ true → (xs : List X) → AllByRecursion (λ x. IsWord (f x)) xs → words_in (join_by f (gap ∷ gaps) xs) ≡ map f xs
words_in-joined f gap gaps gapped all [] words = words_in-nil
words_in-joined f gap gaps gapped all (x ∷ xs) words = words_in-further f gap gaps gapped all x xs words

none_further : {X : Type 0} (p : ℕ → Bool) (f : X → List ℕ) (sep : List ℕ) (xs : List X) → list_any p sep ≡ false → AllByRecursion (λ x. list_any p (f x) ≡ false) xs → list_any p (flat_map (λ y. sep ++ f y) xs) ≡ false
none_further p f sep [] none each = refl
none_further p f sep (x ∷ xs) none each =
    list_any-append p (sep ++ f x) (flat_map (λ y. sep ++ f y) xs)
    ∙ or_from _ _ (list_any-append p sep (f x) ∙ or_from _ _ none each.0) (none_further p f sep xs none each.1)

-- what stands in no piece, and not between them, stands nowhere
pub none_joined : {X : Type 0} (p : ℕ → Bool) (f : X → List ℕ) (sep : List ℕ) (xs : List X) → list_any p sep ≡ false → AllByRecursion (λ x. list_any p (f x) ≡ false) xs → list_any p (join_by f sep xs) ≡ false
none_joined p f sep [] none each = refl
none_joined p f sep (x ∷ xs) none each =
    list_any-append p (f x) (flat_map (λ y. sep ++ f y) xs) ∙ or_from _ _ each.0 (none_further p f sep xs none each.1)

pub each_of : {X : Type 0} (P : X → Type 0) → ((x : X) → P x) → (xs : List X) → AllByRecursion P xs
each_of P every [] = tt
each_of P every (x ∷ xs) = (every x, each_of P every xs)

pub each_weaker : {X : Type 0} (P Q : X → Type 0) → ((x : X) → P x → Q x) → (xs : List X) → AllByRecursion P xs → AllByRecursion Q xs
each_weaker P Q weaker [] each = tt
each_weaker P Q weaker (x ∷ xs) each = (weaker x each.0, each_weaker P Q weaker xs each.1)
