-- A domain with its upper case lowered.
use Rattle.std.proofs.Common.{◌≡◌, ◌∙◌, ℕ, ◌-◌, ◌<◌, Bool, true, false, not, ◌&&◌, ◌||◌, cond, leb, eqb, List, [], ◌∷◌, length, take, drop, map, reverse, refl, ap, arith}
use mathlib.Core.List.{reverse_aux}
use Rattle.std.proofs.Math.Path.{fun_ext}
use Rattle.std.proofs.lemmas.Bool.Decides.{nat_tests}
use Rattle.std.proofs.lemmas.List.{drop-map, take-map, length-map, length-drop}
use Rattle.std.proofs.lemmas.List.Splits.{length-slice_split}
use Rattle.std.proofs.lemmas.List.Folds.{list_all-map}
use Rattle.std.proofs.lemmas.List.Sums.{suffix_len-le-length}
use Rattle.std.specs.List.{list_any, list_all, after_last, suffix_len, prefix_len, slice_split, onto_first, starts_with, ends_with}
use Rattle.std.specs.Char.{to_ascii_lowercase}
use Rattle.std.specs.Str.{str_to_ascii_lowercase}
use lib.Pointwise.{pointwise}
use Rattle.up_names.specs.UserNames.{is_label, is_domain, is_label_byte, is_period, has_bytes}

-- a mark is no letter, so that lowering makes and loses none
pub period-lowercase : (c : ℕ) → eqb (to_ascii_lowercase c) 46 ≡ eqb c 46
period-lowercase c = grind (arith, nat_tests)

same_periods : (λ b. is_period (to_ascii_lowercase b)) ≡ is_period
same_periods = fun_ext period-lowercase

hyphen-lowercase : (c : ℕ) → eqb 45 (to_ascii_lowercase c) ≡ eqb 45 c
hyphen-lowercase c = grind (arith, nat_tests)

one_hyphen : (xs : List ℕ) → pointwise eqb (45 ∷ []) (map to_ascii_lowercase xs) ≡ pointwise eqb (45 ∷ []) xs
one_hyphen [] = refl
one_hyphen (x ∷ []) = rw (hyphen-lowercase x) refl
one_hyphen (x ∷ y ∷ xs) = rw (hyphen-lowercase x) refl

begins-lowercase : (label : List ℕ) → starts_with eqb (map to_ascii_lowercase label) (45 ∷ []) ≡ starts_with eqb label (45 ∷ [])
begins-lowercase label = rw take-map (one_hyphen (take 1 label))

ends-lowercase : (label : List ℕ) → ends_with eqb (map to_ascii_lowercase label) (45 ∷ []) ≡ ends_with eqb label (45 ∷ [])
ends-lowercase label = rw (drop-map, length-map) (one_hyphen (drop (length label - 1) label))

-- the test of a label before it is lowered
pub lowered_label-is : (label : List ℕ) → is_label (str_to_ascii_lowercase label) ≡ (has_bytes 1 63 (λ b. is_label_byte (to_ascii_lowercase b)) label && not (starts_with eqb label (45 ∷ [])) && not (ends_with eqb label (45 ∷ [])))
unfolding is_label
lowered_label-is label = rw (begins-lowercase label, ends-lowercase label, length-map label to_ascii_lowercase, list_all-map is_label_byte to_ascii_lowercase label) refl

onto_first-map : {X Y : Type 0} (f : X → Y) (x : X) (parts : List (List X)) → onto_first (f x) (map (map f) parts) ≡ map (map f) (onto_first x parts)
onto_first-map f x [] = refl
onto_first-map f x (part ∷ parts) = refl

pub slice_split-map : {X Y : Type 0} (f : X → Y) (p : Y → Bool) (xs : List X) → slice_split p (map f xs) ≡ map (map f) (slice_split (λ x. p (f x)) xs)
slice_split-map f p [] = refl
slice_split-map {X} {Y} f p (x ∷ xs) = rw (slice_split-map f p xs) (at (p (f x)))
  where
    parts : List (List X)
    parts = slice_split (λ x. p (f x)) xs

    at : (b : Bool) → cond b ([] ∷ map (map f) parts) (onto_first (f x) (map (map f) parts)) ≡ map (map f) (cond b ([] ∷ parts) (onto_first x parts))
    at true = refl
    at false = onto_first-map f x parts

pub prefix_len-map : {X Y : Type 0} (f : X → Y) (p : Y → Bool) (xs : List X) → prefix_len p (map f xs) ≡ prefix_len (λ x. p (f x)) xs
prefix_len-map f p [] = refl
prefix_len-map f p (x ∷ xs) = rw (prefix_len-map f p xs) refl

reverse_aux-map : {X Y : Type 0} (f : X → Y) (xs ys : List X) → reverse_aux (map f xs) (map f ys) ≡ map f (reverse_aux xs ys)
reverse_aux-map f [] ys = refl
reverse_aux-map f (x ∷ xs) ys = reverse_aux-map f xs (x ∷ ys)

pub suffix_len-map : {X Y : Type 0} (f : X → Y) (p : Y → Bool) (xs : List X) → suffix_len p (map f xs) ≡ suffix_len (λ x. p (f x)) xs
suffix_len-map f p xs = ap (prefix_len p) (reverse_aux-map f xs []) ∙ prefix_len-map f p (reverse xs)

length-onto_first : {X : Type 0} (x : X) (parts : List (List X)) → 0 < length parts → length (onto_first x parts) ≡ length parts
length-onto_first x [] h = absurd (omega arith)
length-onto_first x (part ∷ parts) h = refl

length-split : {X : Type 0} (p : X → Bool) (xs : List X) → 0 < length (slice_split p xs)
length-split p xs = omega (arith, length-slice_split p xs)

pub several_parts : {X : Type 0} (p : X → Bool) (xs : List X) → leb 2 (length (slice_split p xs)) ≡ list_any p xs
several_parts p [] = refl
several_parts {X} p (x ∷ xs) = at (p x) (several_parts p xs)
  where
    at : (b : Bool) → leb 2 (length (slice_split p xs)) ≡ list_any p xs → leb 2 (length (cond b ([] ∷ slice_split p xs) (onto_first x (slice_split p xs)))) ≡ b || list_any p xs
    at true rest = let h = length-split p xs in grind (arith, nat_tests, h)
    at false rest = rw (length-onto_first x (slice_split p xs) (length-split p xs)) rest

pub length-after_last : {X : Type 0} (p : X → Bool) (xs : List X) → length (after_last p xs) ≡ suffix_len (λ x. not (p x)) xs
length-after_last p xs = rw length-drop (let h = suffix_len-le-length (λ x. not (p x)) xs in omega arith)

-- the test of a domain before it is lowered
pub lowered_domain-is : (text : List ℕ) → is_domain (str_to_ascii_lowercase text) ≡ (list_any is_period text && list_all (λ label. is_label (str_to_ascii_lowercase label)) (slice_split is_period text) && leb 2 (suffix_len (λ b. not (is_period b)) text))
unfolding is_domain
lowered_domain-is text =
    let parts : slice_split is_period (map to_ascii_lowercase text) ≡ map (map to_ascii_lowercase) (slice_split is_period text) = slice_split-map to_ascii_lowercase is_period text ∙ ap (λ p. map (map to_ascii_lowercase) (slice_split p text)) same_periods in
    let last : length (after_last is_period (map to_ascii_lowercase text)) ≡ suffix_len (λ b. not (is_period b)) text = length-after_last is_period (map to_ascii_lowercase text) ∙ suffix_len-map to_ascii_lowercase (λ b. not (is_period b)) text ∙ ap (λ p. suffix_len (λ (b : ℕ). not (p b)) text) same_periods in
    rw (parts, last, length-map (slice_split is_period text) (map to_ascii_lowercase), several_parts is_period text, list_all-map is_label (map to_ascii_lowercase) (slice_split is_period text)) refl

pub ruleset lowered_domain = (lowered_domain-is)

pub ruleset lowered_label = (lowered_label-is)
