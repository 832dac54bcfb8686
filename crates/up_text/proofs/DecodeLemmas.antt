-- What the bytes of a word stand for, taken off the front one by one.
use Rattle.std.proofs.Common.{◌≡◌, ◌&&◌, ℕ, ◌+◌, ◌*◌, Bool, true, false, List, [], ◌∷◌, ◌++◌, length, map, Option, None, Some, option_map, if◌then◌else◌, append_assoc, append-nil, refl, ◌∙◌, ap, subst, arith}
use Rattle.std.specs.Char.{digit_value, is_digit}
use Rattle.std.specs.List.{slice_split, onto_first}
use Rattle.std.proofs.lemmas.Bool.{eqb-true}
use Rattle.std.proofs.lemmas.List.Splits.{slice_split-cons_no, slice_split-cons_yes}
use Rattle.up_text.specs.Words.{is_percent, pair_byte, after_percent, all_joined, pieces_text, decoded_bytes}

-- a byte before a text before texts
onto-texts : (b : ℕ) (part : List ℕ) (texts : Option (List ℕ)) → option_map (λ more. (b ∷ part) ++ more) texts ≡ option_map (λ text. b ∷ text) (option_map (λ more. part ++ more) texts)
onto-texts b part None = refl
onto-texts b part (Some texts) = refl

-- no text before texts
pub same-texts : (texts : Option (List ℕ)) → option_map (λ (more : List ℕ). [] ++ more) texts ≡ texts
same-texts None = refl
same-texts (Some texts) = refl

-- what the pieces behind a `%` stand for
abbrev behind : List (List ℕ) → Option (List ℕ)
behind pieces = all_joined (map after_percent pieces)

pieces-onto : (b : ℕ) (pieces : List (List ℕ)) → pieces_text (onto_first b pieces) ≡ option_map (λ text. b ∷ text) (pieces_text pieces)
pieces-onto b [] = refl
pieces-onto b (part ∷ parts) = onto-texts b part (behind parts)

pub decoded-nil : decoded_bytes [] ≡ Some []
unfolding decoded_bytes
decoded-nil = refl

-- a byte other than `%` stands for itself
pub decoded-plain : (b : ℕ) (bytes : List ℕ) → is_percent b ≡ false → decoded_bytes (b ∷ bytes) ≡ option_map (λ text. b ∷ text) (decoded_bytes bytes)
unfolding decoded_bytes
decoded-plain b bytes plain =
    ap pieces_text (slice_split-cons_no is_percent b bytes plain) ∙ pieces-onto b (slice_split is_percent bytes)

decoded-percent : (bytes : List ℕ) → decoded_bytes (37 ∷ bytes) ≡ behind (slice_split is_percent bytes)
unfolding decoded_bytes
decoded-percent bytes = same-texts (behind (slice_split is_percent bytes))

-- a `%` at the end, and one with a single byte behind it, stand for nothing
pub decoded-no_pair : decoded_bytes (37 ∷ []) ≡ None
decoded-no_pair = decoded-percent []

one-behind : (high : ℕ) (test : Bool) → is_percent high ≡ test → behind (slice_split is_percent (high ∷ [])) ≡ None
one-behind high true is = ap behind (slice_split-cons_yes is_percent high [] is)
one-behind high false is = ap behind (slice_split-cons_no is_percent high [] is)

pub decoded-half_pair : (high : ℕ) → decoded_bytes (37 ∷ high ∷ []) ≡ None
decoded-half_pair high = decoded-percent (high ∷ []) ∙ one-behind high (is_percent high) refl

-- two digits behind a `%` stand for their byte
pair-pieces : (high low byte : ℕ) (pieces : List (List ℕ)) → pair_byte high low ≡ Some byte → behind (onto_first high (onto_first low pieces)) ≡ option_map (λ text. byte ∷ text) (pieces_text pieces)
pair-pieces high low byte [] pair = ap (λ found. all_joined (option_map (λ b. b ∷ []) found ∷ [])) pair
pair-pieces high low byte (part ∷ parts) pair =
    ap (λ found. all_joined (option_map (λ b. b ∷ part) found ∷ map after_percent parts)) pair ∙ onto-texts byte part (behind parts)

no_pair-pieces : (high low : ℕ) (pieces : List (List ℕ)) → pair_byte high low ≡ None → behind (onto_first high (onto_first low pieces)) ≡ None
no_pair-pieces high low [] pair = ap (λ found. all_joined (option_map (λ b. b ∷ []) found ∷ [])) pair
no_pair-pieces high low (part ∷ parts) pair =
    ap (λ found. all_joined (option_map (λ b. b ∷ part) found ∷ map after_percent parts)) pair

-- `%` is no digit
high-digit : (high low byte : ℕ) (test : Bool) → is_percent high ≡ test → pair_byte high low ≡ Some byte → test ≡ false
high-digit high low byte true is pair =
    let at : pair_byte 37 low ≡ Some byte = subst (λ h. pair_byte h low ≡ Some byte) (eqb-true high 37 is) pair in
    cc
high-digit high low byte false is pair = refl

no-low : (high : ℕ) → pair_byte high 37 ≡ None
no-low high =
    elim (is_digit high 16) as (λ test. (if test && is_digit 37 16 then Some (16 * digit_value high + digit_value 37) else None) ≡ None) [ true ↦ refl | false ↦ refl ]

low-digit : (high low byte : ℕ) (test : Bool) → is_percent low ≡ test → pair_byte high low ≡ Some byte → test ≡ false
low-digit high low byte true is pair =
    let at : pair_byte high 37 ≡ Some byte = subst (λ l. pair_byte high l ≡ Some byte) (eqb-true low 37 is) pair in
    let none = no-low high in
    cc
low-digit high low byte false is pair = refl

split-two : (high low : ℕ) (bytes : List ℕ) → is_percent high ≡ false → is_percent low ≡ false → slice_split is_percent (high ∷ low ∷ bytes) ≡ onto_first high (onto_first low (slice_split is_percent bytes))
split-two high low bytes h l =
    slice_split-cons_no is_percent high (low ∷ bytes) h ∙ ap (onto_first high) (slice_split-cons_no is_percent low bytes l)

pub decoded-pair : (high low byte : ℕ) (bytes : List ℕ) → pair_byte high low ≡ Some byte → decoded_bytes (37 ∷ high ∷ low ∷ bytes) ≡ option_map (λ text. byte ∷ text) (decoded_bytes bytes)
unfolding decoded_bytes
decoded-pair high low byte bytes pair =
    let h = high-digit high low byte (is_percent high) refl pair in
    let l = low-digit high low byte (is_percent low) refl pair in
    decoded-percent (high ∷ low ∷ bytes) ∙ ap behind (split-two high low bytes h l) ∙ pair-pieces high low byte (slice_split is_percent bytes) pair

-- two bytes behind a `%` that are no pair of digits stand for nothing
two-behind : (high low : ℕ) (bytes : List ℕ) (h l : Bool) → is_percent high ≡ h → is_percent low ≡ l → pair_byte high low ≡ None → behind (slice_split is_percent (high ∷ low ∷ bytes)) ≡ None
two-behind high low bytes true l is_high is_low pair = ap behind (slice_split-cons_yes is_percent high (low ∷ bytes) is_high)
two-behind high low bytes false true is_high is_low pair =
    ap behind (slice_split-cons_no is_percent high (low ∷ bytes) is_high ∙ ap (onto_first high) (slice_split-cons_yes is_percent low bytes is_low))
two-behind high low bytes false false is_high is_low pair =
    ap behind (split-two high low bytes is_high is_low) ∙ no_pair-pieces high low (slice_split is_percent bytes) pair

pub decoded-bad_pair : (high low : ℕ) (bytes : List ℕ) → pair_byte high low ≡ None → decoded_bytes (37 ∷ high ∷ low ∷ bytes) ≡ None
decoded-bad_pair high low bytes pair =
    decoded-percent (high ∷ low ∷ bytes) ∙ two-behind high low bytes (is_percent high) (is_percent low) refl refl pair

-- where a loop over the bytes stands: the text so far goes before what is left
pub taken : (text : List ℕ) (b : ℕ) (left : Option (List ℕ)) → option_map (λ more. (text ++ b ∷ []) ++ more) left ≡ option_map (λ more. text ++ more) (option_map (λ more. b ∷ more) left)
taken text b None = refl
taken text b (Some more) = ap Some (append_assoc text (b ∷ []) more)

pub all_taken : (text rest : List ℕ) → length rest ≡ 0 → option_map (λ more. text ++ more) (decoded_bytes rest) ≡ Some text
unfolding decoded_bytes
all_taken text [] none = ap Some (append-nil text)
all_taken text (b ∷ bs) none = absurd (omega (arith, none))
