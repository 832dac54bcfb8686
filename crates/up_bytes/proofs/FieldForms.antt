-- The fields of this crate are forms.
use Rattle.std.proofs.Common.{◌≡◌, ℕ, zero, suc, ◌+◌, ◌*◌, ◌-◌, ◌/◌, ◌%◌, ◌^◌, ◌<◌, ◌⊎◌, Bool, true, false, cond, ltb, eqb, List, [], ◌∷◌, ◌++◌, length, get_or, take, replicate, Ok, Err, refl, sym, ap, subst, ◌∙◌, append_assoc, arith, rules, inl, inr}
use Rattle.std.specs.Prelude.{ℤ, pos, negsuc}
use Rattle.std.proofs.lemmas.Bool.{cases_Bool, ltb-true, ltb-false, eqb-true, eqb-false, eq-eqb, ne_eqb, le-ltb, or_parts, true≢false, cond-true, cond-false}
use Rattle.std.proofs.lemmas.List.{length-append, length-take, length-replicate, nil_from_length, take_at, drop_at, drop_more}
use Rattle.up_bytes.specs.declared.fault.FieldFault.{FieldFault}
use Rattle.up_bytes.specs.declared.fault.FieldFault.TheVariants.{Short, Spelling, OutOfMemory}
use Rattle.up_bytes.specs.Num.{IsNum, num, num_bytes, is_ended, is_misspelled, number}
use Rattle.up_bytes.specs.Input.{Input, place, past}
use Rattle.up_bytes.specs.Spelling.{byte, zigzag, from_zigzag, int, text, raw, IsByte, IsU64, IsI64, IsText, HasLength}
use Rattle.up_bytes.specs.Reading.{◌>>=◌, bytes_at, byte_at, num_at, int_at, text_at}
use Rattle.up_bytes.specs.Forms.{IsBytes, Takes, EndsWithin, IsNoSpelling, IsForm}
use Rattle.up_bytes.proofs.Numbers.{num_spells, num_only}
use Rattle.up_bytes.proofs.Fronts.{num_bytes-form, is_ended-form, number-form, is_misspelled-num, num_bytes-open, num_bytes-prefix, num_bytes-append, is_misspelled-append, num_bytes-is_form, num-closed}
use Rattle.up_bytes.proofs.Forms.{done, fails, ok_is, bind_ok, bind_err, guard_ok, guard_err, IsBytes-drop, Takes-then, Takes-front, Halves, form_from}

pos_from : (n : ℕ) → (n ≡ 0 → ⊥) → 0 < n
pos_from zero h = absurd (h refl)
pos_from (suc n) h = omega arith

ok_no_fault : {A : Type 0} (x : A) (d : FieldFault) → done x ≡ fails A d → ⊥
ok_no_fault x d e = cc

-- ---- a num

-- which way the two tests of a num went
num_ok : {A : Type 0} (wrong ended : Bool) (p : ℕ) (x y : A) → cond wrong (fails A (Spelling p)) (cond ended (Ok x) (Err Short)) ≡ Ok y → (wrong ≡ false) × (ended ≡ true) × (x ≡ y)
num_ok true ended p x y e = absurd cc
num_ok false true p x y e = (refl, refl, cc)
num_ok false false p x y e = absurd cc

num_short : {A : Type 0} (wrong ended : Bool) (p : ℕ) (x : A) → cond wrong (fails A (Spelling p)) (cond ended (Ok x) (Err Short)) ≡ Err Short → (wrong ≡ false) × (ended ≡ false)
num_short true ended p x e = absurd cc
num_short false true p x e = absurd cc
num_short false false p x e = (refl, refl)

num_wrong : {A : Type 0} (wrong ended : Bool) (p q : ℕ) (x : A) → cond wrong (fails A (Spelling p)) (cond ended (Ok x) (Err Short)) ≡ Err (Spelling q) → (wrong ≡ true) × (q ≡ p)
num_wrong true ended p q x e = (refl, cc)
num_wrong false true p q x e = absurd cc
num_wrong false false p q x e = absurd cc

num_memory : {A : Type 0} (wrong ended : Bool) (p : ℕ) (x : A) → cond wrong (fails A (Spelling p)) (cond ended (Ok x) (Err Short)) ≡ Err OutOfMemory → ⊥
num_memory true ended p x e = cc
num_memory false true p x e = cc
num_memory false false p x e = cc

num_again : (n size : ℕ) (rest : List ℕ) → n < 2 ^ 64 → num_at (record { size = size; left = num n ++ rest }) ≡ Ok (n, record { size = size; left = rest })
unfolding num_at
num_again n size rest lt =
    let spelled = num_spells n lt in
    rw (num_bytes-form (num n) rest n spelled.form, is_misspelled-num (num n) n spelled, is_ended-form (num n) n spelled.form, number-form (num n) n spelled.form, drop_at (num n) rest (length (num n)) refl) refl

num_takes : (old new : Input) (n : ℕ) → IsBytes old.left → num_at old ≡ Ok (n, new) → (n < 2 ^ 64) × Takes old (num n) new
unfolding num_at
num_takes old new n fits e =
    let front = num_bytes old.left in
    let behind = past (length front) old in
    let found = num_ok (is_misspelled front) (is_ended front) (place old) (number front, behind) (n, new) e in
    let right = or_parts _ _ found.0 in
    let lengths = or_parts _ _ right.0 in
    let form = num_bytes-is_form old.left fits found.1 right.1 in
    let spelled : IsNum front (number front) = record { form = form; ten = ltb-false 10 (length front) lengths.0; tenth = ltb-false 1 (get_or front 9 0) lengths.1 } in
    let only = num_only front (number front) spelled in
    let parts : old.left ≡ num (number front) ++ behind.left = sym (num_bytes-prefix old.left) ∙ ap (λ (t : List ℕ). t ++ behind.left) only.1 in
    let taken : Takes old (num (number front)) behind = record { parts = parts; size = refl; bytes = (Takes-front old (length front) fits).bytes } in
    subst (λ (r : ℕ × Input). (r.0 < 2 ^ 64) × Takes old (num r.0) r.1) found.2 (only.0, taken)

some : 0 < 1
some = omega arith

num_ends : (input : Input) → IsBytes input.left → num_at input ≡ Err Short → EndsWithin IsU64 num input.left
unfolding num_at
num_ends input fits e =
    let left = input.left in
    let front = num_bytes left in
    let found = num_short (is_misspelled front) (is_ended front) (place input) (number front, past (length front) input) e in
    let whole = num_bytes-open left found.1 in
    let right = ap is_misspelled (sym whole) ∙ found.0 in
    let tenth = ltb-false 1 (get_or left 9 0) (or_parts _ _ (or_parts _ _ right).0).1 in
    let only = num_only (left ++ 1 ∷ []) (number (left ++ 1 ∷ [])) (num-closed left fits (ap is_ended (sym whole) ∙ found.1) tenth) in
    (number (left ++ 1 ∷ []), 1 ∷ [], only.0, some, only.1)

num_misspelled : (input : Input) (p : ℕ) → IsBytes input.left → num_at input ≡ Err (Spelling p) → (p ≡ place input) × IsNoSpelling IsU64 num input.left
unfolding num_at
num_misspelled input p fits e =
    let left = input.left in
    let front = num_bytes left in
    let found = num_wrong (is_misspelled front) (is_ended front) (place input) p (number front, past (length front) input) e in (
      found.1,
      λ n more rest lt same.
          let spelled = num_spells n lt in
          let others = num_bytes-append left more in
          let joined : front ++ others.0 ≡ num n = sym others.1 ∙ ap num_bytes same ∙ num_bytes-form (num n) rest n spelled.form in
          true≢false (sym (is_misspelled-append front others.0 found.0) ∙ ap is_misspelled joined ∙ is_misspelled-num (num n) n spelled),
    )

num_has_memory : (input : Input) → num_at input ≡ Err OutOfMemory → ⊥
unfolding num_at
num_has_memory input e =
    let front = num_bytes input.left in
    num_memory (is_misspelled front) (is_ended front) (place input) (number front, past (length front) input) e

pub num_halves : Halves IsU64 num num_at
num_halves = record { again = num_again; takes = num_takes; short = num_ends; misspelled = num_misspelled; no_memory = num_has_memory }

pub num_form : IsForm IsU64 num num_at
num_form = form_from IsU64 num num_at num_halves

-- ---- bytes of a fixed count

bytes_again : (n : ℕ) (bytes : List ℕ) (size : ℕ) (rest : List ℕ) → length bytes ≡ n → bytes_at n (record { size = size; left = bytes ++ rest }) ≡ Ok (bytes, record { size = size; left = rest })
bytes_again n bytes size rest len =
    rw (le-ltb (length (bytes ++ rest)) n (omega (arith, length-append bytes rest)), take_at bytes rest n len, drop_at bytes rest n len) refl

pub bytes_takes : (n : ℕ) (old new : Input) (bytes : List ℕ) → IsBytes old.left → bytes_at n old ≡ Ok (bytes, new) → (length bytes ≡ n) × Takes old bytes new
bytes_takes n old new bytes fits e =
    let found = guard_ok (ltb (length old.left) n) Short (take n old.left, past n old) (bytes, new) e in
    let long = ltb-false (length old.left) n found.0 in
    subst (λ (r : List ℕ × Input). (length r.0 ≡ n) × Takes old r.0 r.1) found.1 (omega (arith, length-take n old.left), Takes-front old n fits)

-- so many zeros as are wanting make the bytes whole
bytes_ends : (n : ℕ) (input : Input) → bytes_at n input ≡ Err Short → EndsWithin (HasLength n) raw input.left
bytes_ends n input e =
    let found = guard_err (ltb (length input.left) n) Short Short (take n input.left, past n input) e in
    let few = ltb-true (length input.left) n found.0 in
    let more : List ℕ = replicate (n - length input.left) 0 in
    let len : length more ≡ n - length input.left = length-replicate (n - length input.left) 0 in
    (input.left ++ more, more, omega (arith, length-append input.left more, len), omega (arith, len), refl)

-- no other fault
bytes_fault : (n : ℕ) (input : Input) (d : FieldFault) → bytes_at n input ≡ Err d → Short ≡ d
bytes_fault n input d e = (guard_err (ltb (length input.left) n) Short d (take n input.left, past n input) e).1

not_misspelled : (p : ℕ) → Short ≡ Spelling p → ⊥
not_misspelled p e = cc

not_memory : Short ≡ OutOfMemory → ⊥
not_memory e = cc

pub bytes_form : (n : ℕ) → IsForm (HasLength n) raw (bytes_at n)
bytes_form n = form_from (HasLength n) raw (bytes_at n) (record {
  again = bytes_again n;
  takes = bytes_takes n;
  short = λ input fits e. bytes_ends n input e;
  misspelled = λ input p fits e. absurd (not_misspelled p (bytes_fault n input (Spelling p) e));
  no_memory = λ input e. not_memory (bytes_fault n input OutOfMemory e);
})

-- ---- a byte

byte_again : (b size : ℕ) (rest : List ℕ) → b < 256 → byte_at (record { size = size; left = byte b ++ rest }) ≡ Ok (b, record { size = size; left = rest })
byte_again b size rest lt = cond-false (eqb (suc (length rest)) 0) (Err Short) (Ok (b, record { size = size; left = rest })) (ne_eqb (suc (length rest)) 0 (λ e. omega arith))

byte_takes : (old new : Input) (b : ℕ) → IsBytes old.left → byte_at old ≡ Ok (b, new) → (b < 256) × Takes old (byte b) new
byte_takes old new b fits e =
    let found = guard_ok (eqb (length old.left) 0) Short (get_or old.left 0 0, past 1 old) (b, new) e in
    let some : 0 < length old.left = pos_from (length old.left) (eqb-false (length old.left) 0 found.0) in
    let taken : Takes old (byte (get_or old.left 0 0)) (past 1 old) = record { parts = drop_more old.left 0 0 some; size = refl; bytes = IsBytes-drop 1 old.left fits } in
    subst (λ (r : ℕ × Input). (r.0 < 256) × Takes old (byte r.0) r.1) found.1 (fits 0, taken)

byte_ends : (input : Input) → byte_at input ≡ Err Short → EndsWithin IsByte byte input.left
byte_ends input e =
    let found = guard_err (eqb (length input.left) 0) Short Short (get_or input.left 0 0, past 1 input) e in
    (0, 0 ∷ [], omega arith, omega arith, ap (λ (t : List ℕ). t ++ 0 ∷ []) (nil_from_length input.left (eqb-true (length input.left) 0 found.0)))

byte_fault : (input : Input) (d : FieldFault) → byte_at input ≡ Err d → Short ≡ d
byte_fault input d e = (guard_err (eqb (length input.left) 0) Short d (get_or input.left 0 0, past 1 input) e).1

pub byte_form : IsForm IsByte byte byte_at
byte_form = form_from IsByte byte byte_at (record {
  again = byte_again;
  takes = byte_takes;
  short = λ input fits e. byte_ends input e;
  misspelled = λ input p fits e. absurd (not_misspelled p (byte_fault input (Spelling p) e));
  no_memory = λ input e. not_memory (byte_fault input OutOfMemory e);
})

-- ---- a signed number

zigzag-from_zigzag : (n : ℕ) → zigzag (from_zigzag n) ≡ n
zigzag-from_zigzag n =
    elim (cases_Bool (eqb (n % 2) 0)) [
      | inl even ↦ ap zigzag (cond-true (eqb (n % 2) 0) (pos (n / 2)) (negsuc (n / 2)) even) ∙ omega (arith, eqb-true (n % 2) 0 even)
      | inr odd ↦ ap zigzag (cond-false (eqb (n % 2) 0) (pos (n / 2)) (negsuc (n / 2)) odd) ∙ omega (arith, eqb-false (n % 2) 0 odd)
    ]

from_zigzag-zigzag : (z : ℤ) → from_zigzag (zigzag z) ≡ z
from_zigzag-zigzag (pos n) = cond-true (eqb (2 * n % 2) 0) (pos (2 * n / 2)) (negsuc (2 * n / 2)) (eq-eqb (2 * n % 2) 0 (omega arith)) ∙ ap pos (omega arith)
from_zigzag-zigzag (negsuc n) = cond-false (eqb ((2 * n + 1) % 2) 0) (pos ((2 * n + 1) / 2)) (negsuc ((2 * n + 1) / 2)) (ne_eqb ((2 * n + 1) % 2) 0 (λ e. omega arith)) ∙ ap negsuc (omega arith)

zigzag-fits : (z : ℤ) → IsI64 z → zigzag z < 2 ^ 64
zigzag-fits (pos n) fits = omega (arith, fits)
zigzag-fits (negsuc n) fits = omega (arith, fits)

fits_zigzag : (z : ℤ) → zigzag z < 2 ^ 64 → IsI64 z
fits_zigzag (pos n) lt = search (rules, arith)
fits_zigzag (negsuc n) lt = search (rules, arith)

int_again : (z : ℤ) (size : ℕ) (rest : List ℕ) → IsI64 z → int_at (record { size = size; left = int z ++ rest }) ≡ Ok (z, record { size = size; left = rest })
unfolding int_at
int_again z size rest fits = rw (num_again (zigzag z) size rest (zigzag-fits z fits), from_zigzag-zigzag z) refl

int_takes : (old new : Input) (z : ℤ) → IsBytes old.left → int_at old ≡ Ok (z, new) → IsI64 z × Takes old (int z) new
unfolding int_at
int_takes old new z fits e =
    let found = bind_ok (num_at old) (λ n. Ok (from_zigzag n.0, n.1)) (z, new) e in
    let n = found.0.0 in
    let taken = num_takes old found.0.1 n fits found.1 in
    let same = zigzag-from_zigzag n in
    let one : IsI64 (from_zigzag n) × Takes old (int (from_zigzag n)) found.0.1 =
    (fits_zigzag (from_zigzag n) (omega (arith, same, taken.0)), subst (λ (k : ℕ). Takes old (num k) found.0.1) (sym same) taken.1) in
    subst (λ (r : ℤ × Input). IsI64 r.0 × Takes old (int r.0) r.1) (ok_is (from_zigzag n, found.0.1) (z, new) found.2) one

-- a fault of a signed number is one of its number
int_fault : (input : Input) (d : FieldFault) → int_at input ≡ Err d → num_at input ≡ Err d
unfolding int_at
int_fault input d e =
    elim (bind_err (num_at input) (λ n. Ok (from_zigzag n.0, n.1)) d e) [
      | inl first ↦ first
      | inr second ↦ absurd (ok_no_fault (from_zigzag second.0.0, second.0.1) d second.2)
    ]

int_ends : (input : Input) → IsBytes input.left → int_at input ≡ Err Short → EndsWithin IsI64 int input.left
int_ends input fits e =
    let ends = num_ends input fits (int_fault input Short e) in
    let z = from_zigzag ends.0 in
    let same = zigzag-from_zigzag ends.0 in
    (z, ends.1, fits_zigzag z (omega (arith, same, ends.2)), ends.3, ends.4 ∙ ap num (sym same))

pub int_form : IsForm IsI64 int int_at
int_form = form_from IsI64 int int_at (record {
  again = int_again;
  takes = int_takes;
  short = int_ends;
  misspelled = λ input p fits e.
      let found = num_misspelled input p fits (int_fault input (Spelling p) e) in
      (found.0, λ z more rest fits_z same. found.1 (zigzag z) more rest (zigzag-fits z fits_z) same);
  no_memory = λ input e. num_has_memory input (int_fault input OutOfMemory e);
})

-- ---- a text

text_again : (bytes : List ℕ) (size : ℕ) (rest : List ℕ) → IsText bytes → text_at (record { size = size; left = text bytes ++ rest }) ≡ Ok (bytes, record { size = size; left = rest })
unfolding text_at
text_again bytes size rest lt =
    let at : List ℕ → Input = λ left. record { size = size; left = left } in
    ap (λ (left : List ℕ). num_at (at left) >>= λ n. bytes_at n.0 n.1) (append_assoc (num (length bytes)) bytes rest)
    ∙ rw (num_again (length bytes) size (bytes ++ rest) lt) (bytes_again (length bytes) bytes size rest refl)

text_takes : (old new : Input) (bytes : List ℕ) → IsBytes old.left → text_at old ≡ Ok (bytes, new) → IsText bytes × Takes old (text bytes) new
unfolding text_at
text_takes old new bytes fits e =
    let found = bind_ok (num_at old) (λ n. bytes_at n.0 n.1) (bytes, new) e in
    let n = found.0.0 in
    let mid = found.0.1 in
    let first = num_takes old mid n fits found.1 in
    let second = bytes_takes n mid new bytes first.1.bytes found.2 in
    let both = Takes-then old (num n) mid bytes new first.1 second.1 in
    (omega (arith, first.0, second.0), subst (λ (k : ℕ). Takes old (num k ++ bytes) new) (sym second.0) both)

-- a fault of a text is one of its length, or the input ends within its bytes
text_fault : (input : Input) (d : FieldFault) → text_at input ≡ Err d → (num_at input ≡ Err d) ⊎ ((n : ℕ × Input) × (num_at input ≡ Ok n) × (bytes_at n.0 n.1 ≡ Err d))
unfolding text_at
text_fault input d e = bind_err (num_at input) (λ n. bytes_at n.0 n.1) d e

text_ends : (input : Input) → IsBytes input.left → text_at input ≡ Err Short → EndsWithin IsText text input.left
text_ends input fits e =
    elim (text_fault input Short e) [
      | inl first ↦
          let ends = num_ends input fits first in
          let bytes : List ℕ = replicate ends.0 0 in
          let len : length bytes ≡ ends.0 = length-replicate ends.0 0 in (
            bytes,
            ends.1 ++ bytes,
            omega (arith, ends.2, len),
            omega (arith, ends.3, length-append ends.1 bytes),
            sym (append_assoc input.left ends.1 bytes) ∙ ap (λ (t : List ℕ). t ++ bytes) ends.4 ∙ ap (λ (k : ℕ). num k ++ bytes) (sym len),
          )
      | inr second ↦
          let n = second.0.0 in
          let mid = second.0.1 in
          let taken = num_takes input mid n fits second.1 in
          let ends = bytes_ends n mid second.2 in (
            ends.0,
            ends.1,
            omega (arith, taken.0, ends.2),
            ends.3,
            ap (λ (t : List ℕ). t ++ ends.1) taken.1.parts ∙ append_assoc (num n) mid.left ends.1 ∙ ap (λ (t : List ℕ). num n ++ t) ends.4 ∙ ap (λ (k : ℕ). num k ++ ends.0) (sym ends.2),
          )
    ]

text_misspelled : (input : Input) (p : ℕ) → IsBytes input.left → text_at input ≡ Err (Spelling p) → (p ≡ place input) × IsNoSpelling IsText text input.left
text_misspelled input p fits e =
    elim (text_fault input (Spelling p) e) [
      | inl first ↦
          let found = num_misspelled input p fits first in
          (found.0, λ bytes more rest lt same. found.1 (length bytes) more (bytes ++ rest) lt (same ∙ append_assoc (num (length bytes)) bytes rest))
      | inr second ↦ absurd (not_misspelled p (bytes_fault second.0.0 second.0.1 (Spelling p) second.2))
    ]

text_has_memory : (input : Input) → text_at input ≡ Err OutOfMemory → ⊥
text_has_memory input e =
    elim (text_fault input OutOfMemory e) [
      | inl first ↦ num_has_memory input first
      | inr second ↦ not_memory (bytes_fault second.0.0 second.0.1 OutOfMemory second.2)
    ]

pub text_form : IsForm IsText text text_at
text_form = form_from IsText text text_at (record { again = text_again; takes = text_takes; short = text_ends; misspelled = text_misspelled; no_memory = text_has_memory })
