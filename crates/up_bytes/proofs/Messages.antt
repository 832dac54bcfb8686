-- Values that are the whole of some bytes.
use Rattle.std.proofs.Common.{◌≡◌, ◌≢◌, ℕ, ◌<◌, Bool, true, false, cond, eqb, List, [], ◌++◌, length, Result, Ok, Err, refl, sym, ap, subst, ◌∙◌, append_assoc, arith, inl, inr}
use Rattle.std.proofs.lemmas.Bool.{eqb-true, eqb-false, ne_eqb}
use Rattle.std.proofs.lemmas.List.{append-nil, length-append, nil_from_length}
use Rattle.up_bytes.specs.declared.fault.FieldFault.{FieldFault}
use Rattle.up_bytes.specs.declared.fault.FieldFault.TheVariants.{Short, Spelling}
use Rattle.up_bytes.specs.Input.{Input, place}
use Rattle.up_bytes.specs.Reading.{◌>>=◌, from_start, whole_of}
use Rattle.up_bytes.specs.Forms.{IsBytes}
use Rattle.up_bytes.specs.Sequences.{longer, AreMessages}
use Rattle.up_bytes.proofs.Forms.{fails, bind_ok, bind_err}
use Rattle.up_bytes.proofs.Parts.{IsPart, place_longer, read_on}

abbrev ended : {A : Type 0} → A × Input → Result A FieldFault
ended found = cond (eqb (length found.1.left) 0) (Ok found.0) (Err (Spelling (place found.1)))

ended_ok : {A : Type 0} (b : Bool) (p : ℕ) (x y : A) → cond b (Ok x) (fails A (Spelling p)) ≡ Ok y → (b ≡ true) × (x ≡ y)
ended_ok true p x y e = (refl, cc)
ended_ok false p x y e = absurd cc

ended_err : {A : Type 0} (b : Bool) (p : ℕ) (x : A) (d : FieldFault) → cond b (Ok x) (fails A (Spelling p)) ≡ Err d → (b ≡ false) × (Spelling p ≡ d)
ended_err true p x d e = absurd cc
ended_err false p x d e = (refl, cc)

-- the input of all these bytes, once more follow
start_longer : (bytes more : List ℕ) → from_start (bytes ++ more) ≡ longer (from_start bytes) more
start_longer bytes more = ap (λ (n : ℕ). record { size = n; left = bytes ++ more }) (length-append bytes more)

module _ {A : Type 0} {Fits : A → Type 0} {spelling : A → List ℕ} {read : Input → Result (A × Input) FieldFault} (part : IsPart Fits spelling read) where
  message_again : (x : A) → Fits x → whole_of read (spelling x) ≡ Ok x
  unfolding whole_of
  message_again x fits =
      let at : List ℕ → Input = λ left. record { size = length (spelling x); left = left } in
      ap (λ (left : List ℕ). read (at left) >>= ended) (sym (append-nil (spelling x))) ∙ ap (λ (r : Result (A × Input) FieldFault). r >>= ended) (part.fields.again x (length (spelling x)) [] fits)

  message_takes : (bytes : List ℕ) (x : A) → IsBytes bytes → whole_of read bytes ≡ Ok x → Fits x × (bytes ≡ spelling x)
  unfolding whole_of
  message_takes bytes x fits e =
      let found = bind_ok (read (from_start bytes)) ended x e in
      let y = found.0 in
      let taken = part.fields.takes (from_start bytes) y.1 y.0 fits found.1 in
      let end = ended_ok (eqb (length y.1.left) 0) (place y.1) y.0 x found.2 in
      let none : y.1.left ≡ [] = nil_from_length y.1.left (eqb-true (length y.1.left) 0 end.0) in
      let all : bytes ≡ spelling y.0 = taken.1.parts ∙ ap (λ (t : List ℕ). spelling y.0 ++ t) none ∙ append-nil (spelling y.0) in
      subst (λ (z : A). Fits z × (bytes ≡ spelling z)) end.1 (taken.0, all)

  message_alone : (x y : A) (more : List ℕ) → Fits x → Fits y → spelling x ++ more ≡ spelling y → (x ≡ y) × (more ≡ [])
  message_alone x y more fx fy e = part.fields.alone x y more [] fx fy (e ∙ sym (append-nil (spelling y)))

  message_short : (bytes more : List ℕ) (x : A) → IsBytes bytes → Fits x → 0 < length more → bytes ++ more ≡ spelling x → whole_of read bytes ≡ Err Short
  unfolding whole_of
  message_short bytes more x fits fx lt e = ap (λ (r : Result (A × Input) FieldFault). r >>= ended) (part.fields.short (from_start bytes) fits (x, more, fx, lt, e))

  -- bytes are left behind a value
  behind : (bytes : List ℕ) (y : A × Input) (p : ℕ) → ended y ≡ Err (Spelling p) → (0 < length y.1.left) × (Spelling (place y.1) ≡ Spelling p)
  behind bytes y p e =
      let end = ended_err (eqb (length y.1.left) 0) (place y.1) y.0 (Spelling p) e in
      (some (length y.1.left) (eqb-false (length y.1.left) 0 end.0), end.1)
    where
      some : (n : ℕ) → (n ≡ 0 → ⊥) → 0 < n
      some n ne = omega (arith, ne)

  message_misspelled : (bytes more : List ℕ) (p : ℕ) (x : A) → IsBytes bytes → whole_of read bytes ≡ Err (Spelling p) → Fits x → bytes ++ more ≡ spelling x → ⊥
  unfolding whole_of
  message_misspelled bytes more p x fits e fx same =
      let same_nil = same ∙ sym (append-nil (spelling x)) in
      elim (bind_err (read (from_start bytes)) ended (Spelling p) e) [
        | inl one ↦ part.fields.misspelled (from_start bytes) p fits one x more [] fx same_nil
        | inr two ↦
            let y = two.0 in
            let taken = part.fields.takes (from_start bytes) y.1 y.0 fits two.1 in
            let left = (behind bytes y p two.2).0 in
            let cut = part.fields.alone y.0 x (y.1.left ++ more) [] taken.0 fx (sym (append_assoc (spelling y.0) y.1.left more) ∙ ap (λ (t : List ℕ). t ++ more) (sym taken.1.parts) ∙ same_nil) in
            omega (arith, left, length-append y.1.left more, ap length cut.1)
      ]

  message_stays : (bytes more : List ℕ) (p : ℕ) → IsBytes bytes → IsBytes more → whole_of read bytes ≡ Err (Spelling p) → whole_of read (bytes ++ more) ≡ Err (Spelling p)
  unfolding whole_of
  message_stays bytes more p fits further e =
      let at = ap (λ (i : Input). read i >>= ended) (start_longer bytes more) in
      elim (bind_err (read (from_start bytes)) ended (Spelling p) e) [
        | inl one ↦ at ∙ ap (λ (r : Result (A × Input) FieldFault). r >>= ended) (part.fields.stays (from_start bytes) more p fits further one)
        | inr two ↦
            let y = two.0 in
            let end = behind bytes y p two.2 in
            let still : eqb (length (y.1.left ++ more)) 0 ≡ false = ne_eqb (length (y.1.left ++ more)) 0 (λ none. omega (arith, none, end.0, length-append y.1.left more)) in
            at ∙ ap (λ (r : Result (A × Input) FieldFault). r >>= ended) (read_on part (from_start bytes) y.1 y.0 more fits two.1)
            ∙ ap (λ (b : Bool). cond b (Ok y.0) (fails A (Spelling (place (longer y.1 more))))) still
            ∙ ap (λ (q : ℕ). fails A (Spelling q)) (place_longer y.1 more)
            ∙ ap (λ (d : FieldFault). fails A d) end.1
      ]

  message_answers : (bytes : List ℕ) → IsBytes bytes → (more : List ℕ) × IsBytes more × (whole_of read (bytes ++ more) ≢ Err Short)
  unfolding whole_of
  message_answers bytes fits =
      let found = part.fields.answers (from_start bytes) fits in (
        found.0,
        found.1,
        λ short.
            elim (bind_err (read (longer (from_start bytes) found.0)) ended Short (ap (λ (i : Input). read i >>= ended) (sym (start_longer bytes found.0)) ∙ short)) [
              | inl one ↦ found.2 one
              | inr two ↦ not_short (place two.0.1) (ended_err (eqb (length two.0.1.left) 0) (place two.0.1) two.0.0 Short two.2).1
            ],
      )
    where
      not_short : (p : ℕ) → Spelling p ≡ Short → ⊥
      not_short p e = cc

  pub messages : AreMessages Fits spelling (whole_of read)
  messages = record {
    exact = λ bytes x fits. (message_takes bytes x fits, λ spelled. ap (whole_of read) spelled.1 ∙ message_again x spelled.0);
    alone = message_alone;
    short = message_short;
    misspelled = message_misspelled;
    stays = message_stays;
    answers = message_answers;
  }
