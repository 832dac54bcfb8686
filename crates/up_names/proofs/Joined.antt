-- Elements joined by slashes: where they stand in the text, and that a cut gives them back.
use Rattle.std.proofs.Common.{◌≡◌, ℕ, zero, suc, ◌+◌, ◌<◌, Bool, true, false, not, List, [], ◌∷◌, ◌++◌, length, take, get_or, refl, sym, ap, ◌∙◌, arith}
use Rattle.std.specs.List.{list_all, list_any, slice_split, join_with_byte, All}
use Rattle.std.proofs.lemmas.Bool.{and_parts, or_parts, not-true}
use Rattle.std.proofs.lemmas.List.{length-append, append_assoc, append-nil}
use Rattle.std.proofs.lemmas.List.Elements.{All-cons, All-nil}
use Rattle.std.proofs.lemmas.List.Splits.{slice_split_none, slice_split_at}
use Rattle.up_names.specs.PathNames.{is_slash}
use Rattle.up_names.specs.PathParts.{elements_behind, ends_from}

abbrev pub joined_text : List (List ℕ) → List ℕ
joined_text elements = join_with_byte 47 elements

-- what a name of a path is, as far as its place in a text goes: it has a byte, and no slash
abbrev pub stands_alone : List ℕ → Bool
stands_alone [] = false
stands_alone (b ∷ bs) = not (list_any is_slash (b ∷ bs))

no_slash_each : (xs : List ℕ) → list_any is_slash xs ≡ false → All (λ b. is_slash b ≡ false) xs
no_slash_each [] none = All-nil _
no_slash_each (x ∷ xs) none = let parts = or_parts (is_slash x) (list_any is_slash xs) none in All-cons (λ b. is_slash b ≡ false) x xs parts.0 (no_slash_each xs parts.1)

alone_no_slash : (e : List ℕ) → stands_alone e ≡ true → list_any is_slash e ≡ false
alone_no_slash [] h = refl
alone_no_slash (b ∷ bs) h = not-true _ h

-- at least one element
pub split-joined : (e : List ℕ) (es : List (List ℕ)) → list_all stands_alone (e ∷ es) ≡ true → slice_split is_slash (joined_text (e ∷ es)) ≡ e ∷ es
split-joined e [] all = slice_split_none is_slash e (no_slash_each e (alone_no_slash e (and_parts (stands_alone e) true all).0))
split-joined e (f ∷ es) all =
    let both = and_parts (stands_alone e) (list_all stands_alone (f ∷ es)) all in
    slice_split_at is_slash e 47 (joined_text (f ∷ es)) (no_slash_each e (alone_no_slash e both.0)) refl
    ∙ ap (λ rest. e ∷ rest) (split-joined f es both.1)

-- the text is cut into the elements again
pub elements_behind-joined : (es : List (List ℕ)) → list_all stands_alone es ≡ true → elements_behind (joined_text es) ≡ es
elements_behind-joined [] all = refl
elements_behind-joined ([] ∷ []) all = cc
elements_behind-joined ([] ∷ f ∷ es) all = cc
elements_behind-joined ((b ∷ bs) ∷ []) all = split-joined (b ∷ bs) [] all
elements_behind-joined ((b ∷ bs) ∷ f ∷ es) all = split-joined (b ∷ bs) (f ∷ es) all

pub length-joined : (e f : List ℕ) (es : List (List ℕ)) → length (joined_text (e ∷ f ∷ es)) ≡ length e + 1 + length (joined_text (f ∷ es))
length-joined e f es = omega (arith, length-append e (47 ∷ joined_text (f ∷ es)))

-- the text of the first n elements is a front of the text
pub joined-front : (n : ℕ) (es : List (List ℕ)) → (rest : List ℕ) × (joined_text es ≡ joined_text (take n es) ++ rest)
joined-front zero es = (joined_text es, refl)
joined-front (suc n) [] = ([], refl)
joined-front (suc n) (e ∷ []) = elim n as (λ n. (rest : List ℕ) × (e ≡ joined_text (e ∷ take n []) ++ rest)) [ zero ↦ ([], sym (append-nil e)) | suc _ ↦ ([], sym (append-nil e)) ]
joined-front (suc zero) (e ∷ f ∷ es) = (47 ∷ joined_text (f ∷ es), refl)
joined-front (suc (suc n)) (e ∷ f ∷ es) =
    let behind = joined-front (suc n) (f ∷ es) in
    (behind.0, ap (λ text. e ++ 47 ∷ text) behind.1 ∙ sym (append_assoc e (47 ∷ joined_text (f ∷ take n es)) behind.0))

-- the n-th element, from 0, ends where the text of the first n + 1 elements does
pub ends_from-at : (place n : ℕ) (es : List (List ℕ)) → n < length es → get_or (ends_from place es) n 0 ≡ place + length (joined_text (take (suc n) es))
ends_from-at place n [] h = absurd (omega arith)
ends_from-at place zero (e ∷ es) h = refl
ends_from-at place (suc n) (e ∷ []) h = absurd (omega arith)
ends_from-at place (suc n) (e ∷ f ∷ es) h =
    ends_from-at (place + length e + 1) n (f ∷ es) (omega arith) ∙ omega (arith, length-joined e f (take n es))

pub length-ends_from : (place : ℕ) (es : List (List ℕ)) → length (ends_from place es) ≡ length es
length-ends_from place [] = refl
length-ends_from place (e ∷ es) = ap suc (length-ends_from (place + length e + 1) es)

pub ends_from-take : (place n : ℕ) (es : List (List ℕ)) → take n (ends_from place es) ≡ ends_from place (take n es)
ends_from-take place zero es = refl
ends_from-take place (suc n) [] = refl
ends_from-take place (suc n) (e ∷ es) = ap (λ rest. (place + length e) ∷ rest) (ends_from-take (place + length e + 1) n es)

-- one more element at the end
pub joined-push : (e : List ℕ) (es : List (List ℕ)) (last : List ℕ) → joined_text ((e ∷ es) ++ last ∷ []) ≡ joined_text (e ∷ es) ++ 47 ∷ last
joined-push e [] last = refl
joined-push e (f ∷ es) last =
    ap (λ text. e ++ 47 ∷ text) (joined-push f es last) ∙ sym (append_assoc e (47 ∷ joined_text (f ∷ es)) (47 ∷ last))

pub ends_from-push : (place : ℕ) (es : List (List ℕ)) (last : List ℕ) → ends_from place (es ++ last ∷ []) ≡ ends_from place es ++ (place + length (joined_text (es ++ last ∷ []))) ∷ []
ends_from-push place [] last = refl
ends_from-push place (e ∷ []) last =
    ap (λ n. (place + length e) ∷ n ∷ []) (omega (arith, length-joined e last []))
ends_from-push place (e ∷ f ∷ es) last =
    ap (λ rest. (place + length e) ∷ rest) (
    ends_from-push (place + length e + 1) (f ∷ es) last
    ∙ ap (λ n. ends_from (place + length e + 1) (f ∷ es) ++ n ∷ []) (omega (arith, length-joined e f (es ++ last ∷ []))))
