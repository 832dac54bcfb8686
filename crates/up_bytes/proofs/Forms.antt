-- The fields of this crate are forms: each value has one spelling, which is read again, and each fault comes exactly where it should.
use Rattle.std.proofs.Common.{◌≡◌, ℕ, ◌+◌, ◌<◌, Bool, true, false, cond, List, [], ◌++◌, length, take, drop, Result, Ok, Err, refl, sym, ap, ◌∙◌, append_assoc, arith, inl, inr, ◌⊎◌}
use Rattle.std.proofs.lemmas.List.{append-nil, length-append, get_or-drop, take-append-drop}
use Rattle.up_bytes.specs.declared.fault.FieldFault.{FieldFault}
use Rattle.up_bytes.specs.declared.fault.FieldFault.TheVariants.{Short, Spelling, OutOfMemory}
use Rattle.up_bytes.specs.Input.{Input, place, past}
use Rattle.up_bytes.specs.Reading.{◌>>=◌}
use Rattle.up_bytes.specs.Forms.{IsBytes, Takes, EndsWithin, IsNoSpelling, IsForm}

-- ---- results

abbrev pub done : {A : Type 0} → A → Result A FieldFault
done x = Ok x

abbrev pub fails : (A : Type 0) → FieldFault → Result A FieldFault
fails A e = Err e

pub ok_is : {A : Type 0} (x y : A) → done x ≡ done y → x ≡ y
ok_is x y e = cc

-- the value of a step that did not fail
pub bind_ok : {A B : Type 0} (r : Result A FieldFault) (f : A → Result B FieldFault) (y : B) → (r >>= f) ≡ Ok y → (x : A) × (r ≡ Ok x) × (f x ≡ Ok y)
bind_ok (Ok x) f y e = (x, refl, e)
bind_ok (Err d) f y e = absurd cc

-- a step failed, or the one behind it
pub bind_err : {A B : Type 0} (r : Result A FieldFault) (f : A → Result B FieldFault) (d : FieldFault) → (r >>= f) ≡ Err d → (r ≡ Err d) ⊎ ((x : A) × (r ≡ Ok x) × (f x ≡ Err d))
bind_err (Ok x) f d e = inr (x, refl, e)
bind_err (Err g) f d e = inl cc

-- a test that did not fail
pub guard_ok : {A : Type 0} (b : Bool) (d : FieldFault) (x y : A) → cond b (Err d) (Ok x) ≡ Ok y → (b ≡ false) × (x ≡ y)
guard_ok true d x y e = absurd cc
guard_ok false d x y e = (refl, cc)

-- a test that failed
pub guard_err : {A : Type 0} (b : Bool) (d g : FieldFault) (x : A) → cond b (Err d) (Ok x) ≡ Err g → (b ≡ true) × (d ≡ g)
guard_err true d g x e = (refl, cc)
guard_err false d g x e = absurd cc

-- ---- what was taken

pub IsBytes-drop : (n : ℕ) (bytes : List ℕ) → IsBytes bytes → IsBytes (drop n bytes)
IsBytes-drop n bytes h i = rw get_or-drop (h (n + i))

pub Takes-then : (a : Input) (x : List ℕ) (b : Input) (y : List ℕ) (c : Input) → Takes a x b → Takes b y c → Takes a (x ++ y) c
Takes-then a x b y c p q = record { parts = p.parts ∙ ap (λ (t : List ℕ). x ++ t) q.parts ∙ sym (append_assoc x y c.left); size = q.size ∙ p.size; bytes = q.bytes }

-- the first n bytes, of as many at least
pub Takes-front : (input : Input) (n : ℕ) → IsBytes input.left → Takes input (take n input.left) (past n input)
Takes-front input n fits = record { parts = sym (take-append-drop n input.left); size = refl; bytes = IsBytes-drop n input.left fits }

-- ---- a form, from its halves

-- What is to be shown of a form: each fault's cause, and that there is no third fault. The converses follow.
pub record Halves {A : Type 0} (Fits : A → Type 0) (spelling : A → List ℕ) (read : Input → Result (A × Input) FieldFault) : Type 0 where
  pub again : (x : A) (size : ℕ) (rest : List ℕ) → Fits x → read (record { size = size; left = spelling x ++ rest }) ≡ Ok (x, record { size = size; left = rest })
  pub takes : (old new : Input) (x : A) → IsBytes old.left → read old ≡ Ok (x, new) → Fits x × Takes old (spelling x) new
  pub short : (input : Input) → IsBytes input.left → read input ≡ Err Short → EndsWithin Fits spelling input.left
  pub misspelled : (input : Input) (p : ℕ) → IsBytes input.left → read input ≡ Err (Spelling p) → (p ≡ place input) × IsNoSpelling Fits spelling input.left
  pub no_memory : (input : Input) → read input ≡ Err OutOfMemory → ⊥

-- two values whose spellings begin the same bytes are one, with the same rest
pub same_cut : {A : Type 0} (Fits : A → Type 0) (spelling : A → List ℕ) (read : Input → Result (A × Input) FieldFault) → Halves Fits spelling read
    → (x y : A) (r s : List ℕ) → Fits x → Fits y → spelling x ++ r ≡ spelling y ++ s → (x ≡ y) × (r ≡ s)
same_cut {A} Fits spelling read form x y r s fx fy e =
    let at : List ℕ → Input = λ left. record { size = 0; left = left } in
    let one = sym (form.again x 0 r fx) ∙ ap (λ (left : List ℕ). read (at left)) e ∙ form.again y 0 s fy in
    let same = ok_is (x, at r) (y, at s) one in
    (ap (λ (p : A × Input). p.0) same, ap (λ (p : A × Input). p.1.left) same)

nothing_left : (r more : List ℕ) → r ++ more ≡ [] → 0 < length more → ⊥
nothing_left r more e lt = omega (arith, length-append r more, ap length e)

is_short : {A : Type 0} (Fits : A → Type 0) (spelling : A → List ℕ) (read : Input → Result (A × Input) FieldFault) → Halves Fits spelling read
    → (input : Input) → IsBytes input.left → EndsWithin Fits spelling input.left → (r : Result (A × Input) FieldFault) → read input ≡ r → read input ≡ Err Short
is_short Fits spelling read form input fits ends (Ok found) e =
    let taken = form.takes input found.1 found.0 fits e in
    let joined : spelling found.0 ++ (found.1.left ++ ends.1) ≡ spelling ends.0 ++ [] =
    sym (append_assoc (spelling found.0) found.1.left ends.1) ∙ ap (λ (t : List ℕ). t ++ ends.1) (sym taken.1.parts) ∙ ends.4 ∙ sym (append-nil (spelling ends.0)) in
    absurd (nothing_left found.1.left ends.1 (same_cut Fits spelling read form found.0 ends.0 (found.1.left ++ ends.1) [] taken.0 ends.2 joined).1 ends.3)
is_short Fits spelling read form input fits ends (Err Short) e = e
is_short Fits spelling read form input fits ends (Err (Spelling p)) e =
    absurd ((form.misspelled input p fits e).1 ends.0 ends.1 [] ends.2 (ends.4 ∙ sym (append-nil (spelling ends.0))))
is_short Fits spelling read form input fits ends (Err OutOfMemory) e = absurd (form.no_memory input e)

is_misread : {A : Type 0} (Fits : A → Type 0) (spelling : A → List ℕ) (read : Input → Result (A × Input) FieldFault) → Halves Fits spelling read
    → (input : Input) → IsBytes input.left → IsNoSpelling Fits spelling input.left → (r : Result (A × Input) FieldFault) → read input ≡ r → read input ≡ Err (Spelling (place input))
is_misread Fits spelling read form input fits none (Ok found) e =
    let taken = form.takes input found.1 found.0 fits e in
    absurd (none found.0 [] found.1.left taken.0 (append-nil input.left ∙ taken.1.parts))
is_misread Fits spelling read form input fits none (Err Short) e =
    let ends = form.short input fits e in
    absurd (none ends.0 ends.1 [] ends.2 (ends.4 ∙ sym (append-nil (spelling ends.0))))
is_misread {A} Fits spelling read form input fits none (Err (Spelling p)) e = e ∙ ap (λ (q : ℕ). fails (A × Input) (Spelling q)) (form.misspelled input p fits e).0
is_misread Fits spelling read form input fits none (Err OutOfMemory) e = absurd (form.no_memory input e)

pub form_from : {A : Type 0} (Fits : A → Type 0) (spelling : A → List ℕ) (read : Input → Result (A × Input) FieldFault) → Halves Fits spelling read → IsForm Fits spelling read
form_from {A} Fits spelling read form = record {
  alone = same_cut Fits spelling read form;
  again = form.again;
  takes = form.takes;
  short = λ input fits. (form.short input fits, λ ends. is_short Fits spelling read form input fits ends (read input) refl);
  misspelled = λ input p fits. (form.misspelled input p fits, λ none. is_misread Fits spelling read form input fits none.1 (read input) refl ∙ ap (λ (q : ℕ). fails (A × Input) (Spelling q)) (sym none.0));
}
