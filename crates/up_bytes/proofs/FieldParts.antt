-- The fields of the crate below are parts: none is refused for want of memory, and some further bytes bring each an answer.
use Rattle.std.proofs.Common.{◌≡◌, ℕ, zero, suc, Bool, true, false, cond, ltb, eqb, List, [], ◌∷◌, ◌++◌, length, get_or, take, replicate, Ok, Err, refl, sym, ap, ◌∙◌, arith, inl, inr}
use Rattle.std.specs.Prelude.{◌||◌}
use Rattle.std.proofs.lemmas.Bool.{ltb-true, eqb-true, true≢false}
use Rattle.std.proofs.lemmas.List.{length-append, length-replicate}
use Rattle.up_bytes.specs.declared.fault.FieldFault.TheVariants.{Short, Spelling, OutOfMemory}
use Rattle.up_bytes.specs.Num.{num, num_bytes, is_ended, is_misspelled, number}
use Rattle.up_bytes.specs.Input.{Input, place, past}
use Rattle.up_bytes.specs.Spelling.{byte, from_zigzag, int, text, raw, IsByte, IsU64, IsI64, IsText, HasLength}
use Rattle.up_bytes.specs.Reading.{bytes_at, byte_at, num_at, int_at, text_at}
use Rattle.up_bytes.specs.Forms.{IsBytes}
use Rattle.up_bytes.proofs.Forms.{bind_err, guard_err, fails}
use Rattle.up_bytes.proofs.FieldForms.{num_halves, byte_form, num_form, int_form, text_form, bytes_form}
use Rattle.up_bytes.specs.Sequences.{longer}
use Rattle.up_bytes.proofs.Parts.{IsPart, Answers, form_part, then, one_part, ok_no_fault}

not_memory : Short ≡ OutOfMemory → ⊥
not_memory e = cc

byte_memory : (input : Input) → byte_at input ≡ Err OutOfMemory → ⊥
byte_memory input e = not_memory (guard_err (eqb (length input.left) 0) Short OutOfMemory (get_or input.left 0 0, past 1 input) e).1

raw_memory : (n : ℕ) (input : Input) → bytes_at n input ≡ Err OutOfMemory → ⊥
raw_memory n input e = not_memory (guard_err (ltb (length input.left) n) Short OutOfMemory (take n input.left, past n input) e).1

int_memory : (input : Input) → int_at input ≡ Err OutOfMemory → ⊥
unfolding int_at
int_memory input e =
    elim (bind_err (num_at input) (λ n. Ok (from_zigzag n.0, n.1)) OutOfMemory e) [
      | inl first ↦ num_halves.no_memory input first
      | inr second ↦ ok_no_fault (from_zigzag second.0.0, second.0.1) OutOfMemory second.2
    ]

text_memory : (input : Input) → text_at input ≡ Err OutOfMemory → ⊥
unfolding text_at
text_memory input e =
    elim (bind_err (num_at input) (λ n. bytes_at n.0 n.1) OutOfMemory e) [
      | inl first ↦ num_halves.no_memory input first
      | inr second ↦ raw_memory second.0.0 second.0.1 second.2
    ]

-- ---- further bytes that bring an answer

zeros : (n : ℕ) → IsBytes (replicate n 0)
zeros zero i = omega arith
zeros (suc n) zero = omega arith
zeros (suc n) (suc i) = zeros n i

one_byte : IsBytes (1 ∷ [])
one_byte zero = omega arith
one_byte (suc i) = omega arith

raw_answers : (n : ℕ) → Answers (bytes_at n)
raw_answers n input bytes = (
  replicate n 0,
  zeros n,
  λ short.
      let left = input.left ++ replicate n 0 in
      let few = ltb-true (length left) n (guard_err (ltb (length left) n) Short Short (take n left, past n (longer input (replicate n 0))) short).0 in
      omega (arith, few, length-append input.left (replicate n 0), length-replicate {A = ℕ} n 0),
)

byte_answers : Answers byte_at
byte_answers input bytes = (
  1 ∷ [],
  one_byte,
  λ short.
      let left = input.left ++ 1 ∷ [] in
      let none = eqb-true (length left) 0 (guard_err (eqb (length left) 0) Short Short (get_or left 0 0, past 1 (longer input (1 ∷ []))) short).0 in
      omega (arith, none, length-append input.left (1 ∷ [])),
)

-- behind any bytes, 01 ends a num where none before it does
num_closed : (bytes : List ℕ) → is_ended (num_bytes (bytes ++ 1 ∷ [])) ≡ true
num_closed [] = refl
num_closed (b ∷ bytes) = ended (num_closed bytes) (ltb b 128) refl
  where
    ended : is_ended (num_bytes (bytes ++ 1 ∷ [])) ≡ true → (small : Bool) → ltb b 128 ≡ small → is_ended (cond small (b ∷ []) (b ∷ num_bytes (bytes ++ 1 ∷ []))) ≡ true
    ended rest true e = ap (λ (s : Bool). s || false) e
    ended rest false e = ap (λ (s : Bool). s || is_ended (num_bytes (bytes ++ 1 ∷ []))) e ∙ rest

num_open : {A : Type 0} (wrong ended : Bool) (p : ℕ) (x : A) → cond wrong (fails A (Spelling p)) (cond ended (Ok x) (Err Short)) ≡ Err Short → ended ≡ false
num_open true ended p x e = absurd cc
num_open false true p x e = absurd cc
num_open false false p x e = refl

num_answers : Answers num_at
unfolding num_at
num_answers input bytes = (
  1 ∷ [],
  one_byte,
  λ short.
      let all = longer input (1 ∷ []) in
      let front = num_bytes all.left in
      let open_end = num_open (is_misspelled front) (is_ended front) (place all) (number front, past (length front) all) short in
      true≢false (sym (num_closed input.left) ∙ open_end),
)

int_answers : Answers int_at
unfolding int_at
int_answers input bytes =
    let found = num_answers input bytes in (
      found.0,
      found.1,
      λ short. elim (bind_err (num_at (longer input found.0)) (λ n. Ok (from_zigzag n.0, n.1)) Short short) [
        | inl first ↦ found.2 first
        | inr second ↦ ok_no_fault (from_zigzag second.0.0, second.0.1) Short second.2
      ],
    )

pub byte_part : IsPart IsByte byte byte_at
byte_part = form_part byte_form byte_memory byte_answers

pub num_part : IsPart IsU64 num num_at
num_part = form_part num_form num_halves.no_memory num_answers

pub int_part : IsPart IsI64 int int_at
int_part = form_part int_form int_memory int_answers

pub raw_part : (n : ℕ) → IsPart (HasLength n) raw (bytes_at n)
raw_part n = form_part (bytes_form n) (raw_memory n) (raw_answers n)

-- a text's length gets an answer, and then its bytes do
text_answers : Answers text_at
unfolding text_at
text_answers = (then num_part λ _ n _. one_part (raw_part n)).answers

pub text_part : IsPart IsText text text_at
text_part = form_part text_form text_memory text_answers
