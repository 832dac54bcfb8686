-- Values that are made of parts: spelled part after part, and read so.
use Rattle.std.proofs.Common.{◌≡◌, ℕ, zero, suc, ◌<◌, Bool, true, false, cond, List, [], ◌∷◌, ◌++◌, length, Some, None, Option, Result, Ok, Err, refl, sym, ap, subst, ◌∙◌, append_assoc, arith, inl, inr}
use Rattle.std.specs.Prelude.{⊤, ◌≢◌, ◌+◌}
use Rattle.std.specs.List.{flat_map, AllByRecursion}
use Rattle.std.proofs.lemmas.List.{append-nil, length-append}
use Rattle.up_bytes.specs.declared.fault.FieldFault.{FieldFault}
use Rattle.up_bytes.specs.declared.fault.FieldFault.TheVariants.{Short, Spelling, OutOfMemory}
use Rattle.up_bytes.specs.Input.{Input, place}
use Rattle.up_bytes.specs.Reading.{◌>>=◌, items_at, known, made}
use Rattle.up_bytes.specs.Forms.{IsBytes, Takes, EndsWithin, IsNoSpelling, IsForm}
use Rattle.up_bytes.proofs.Forms.{done, fails, ok_is, bind_ok, bind_err, Takes-then}
use Rattle.up_bytes.specs.Sequences.{AreFields, longer}

-- behind each input, some further bytes bring an answer that is not Short
abbrev pub Answers : {B : Type 0} → (Input → Result (B × Input) FieldFault) → Type 0
Answers read = (input : Input) → IsBytes input.left → (more : List ℕ) × IsBytes more × (read (longer input more) ≢ Err Short)

-- a part: fields that are never refused for want of memory
pub record IsPart {A : Type 0} (Fits : A → Type 0) (spelling : A → List ℕ) (read : Input → Result (A × Input) FieldFault) : Type 0 where
  pub fields : AreFields Fits spelling read
  pub no_memory : (input : Input) → IsBytes input.left → read input ≡ Err OutOfMemory → ⊥

-- Values that are made of parts: what holds of the fields of their spelling, told by the parts.
pub record Reads {P B : Type 0} (Fits : P → Type 0) (spelling : P → List ℕ) (make : P → B) (read : Input → Result (B × Input) FieldFault) : Type 0 where
  pub again : (p : P) (size : ℕ) (rest : List ℕ) → Fits p → read (record { size = size; left = spelling p ++ rest }) ≡ Ok (make p, record { size = size; left = rest })
  pub takes : (old new : Input) (x : B) → IsBytes old.left → read old ≡ Ok (x, new) → (p : P) × Fits p × (make p ≡ x) × Takes old (spelling p) new
  pub short : (input : Input) → IsBytes input.left → EndsWithin Fits spelling input.left → read input ≡ Err Short
  pub misspelled : (input : Input) (p : ℕ) → IsBytes input.left → read input ≡ Err (Spelling p) → IsNoSpelling Fits spelling input.left
  pub stays : (input : Input) (more : List ℕ) (p : ℕ) → IsBytes input.left → IsBytes more → read input ≡ Err (Spelling p) → read (longer input more) ≡ Err (Spelling p)
  pub answers : Answers read
  pub no_memory : (input : Input) → IsBytes input.left → read input ≡ Err OutOfMemory → ⊥

-- ---- further bytes

no_bytes : IsBytes []
no_bytes i = omega arith

pub bytes_append : (a b : List ℕ) → IsBytes a → IsBytes b → IsBytes (a ++ b)
bytes_append [] b left right i = right i
bytes_append (x ∷ a) b left right zero = left zero
bytes_append (x ∷ a) b left right (suc i) = bytes_append a b (λ j. left (suc j)) right i

pub place_longer : (input : Input) (more : List ℕ) → place (longer input more) ≡ place input
place_longer input more = omega (arith, length-append input.left more)

longer_more : (input : Input) (more further : List ℕ) → longer (longer input more) further ≡ longer input (more ++ further)
longer_more input more further =
    let size : (input.size + length more) + length further ≡ input.size + length (more ++ further) = omega (arith, length-append more further) in
    ap (λ (n : ℕ). record { size = n; left = (input.left ++ more) ++ further }) size
    ∙ ap (λ (left : List ℕ). record { size = input.size + length (more ++ further); left = left }) (append_assoc input.left more further)

-- a field of the crate below is a part
pub form_part : {A : Type 0} {Fits : A → Type 0} {spelling : A → List ℕ} {read : Input → Result (A × Input) FieldFault}
    → IsForm Fits spelling read → ((input : Input) → read input ≡ Err OutOfMemory → ⊥) → Answers read → IsPart Fits spelling read
form_part form no_memory answers = record {
  fields = record {
    alone = form.alone;
    again = form.again;
    takes = form.takes;
    short = λ input bytes. (form.short input bytes).1;
    misspelled = λ input p bytes e. ((form.misspelled input p bytes).0 e).1;
    stays = λ input more p bytes further e.
        let wrong = (form.misspelled input p bytes).0 e in
        (form.misspelled (longer input more) p (bytes_append input.left more bytes further)).1
        (wrong.0 ∙ sym (place_longer input more), λ x others rest fits same. wrong.1 x (more ++ others) rest fits (sym (append_assoc input.left more others) ∙ same));
    answers = answers;
  };
  no_memory = λ input bytes e. no_memory input e;
}

-- a part is made of itself
pub one_part : {A : Type 0} {Fits : A → Type 0} {spelling : A → List ℕ} {read : Input → Result (A × Input) FieldFault} → IsPart Fits spelling read → Reads Fits spelling (λ x. x) read
one_part part = record {
  again = part.fields.again;
  takes = λ old new x bytes e. let taken = part.fields.takes old new x bytes e in (x, taken.0, refl, taken.1);
  short = part.fields.short;
  misspelled = part.fields.misspelled;
  stays = part.fields.stays;
  answers = part.fields.answers;
  no_memory = part.no_memory;
}

pub ok_no_fault : {A : Type 0} (x : A) (d : FieldFault) → done x ≡ fails A d → ⊥
ok_no_fault x d e = cc

pub spelling_not_short : {A : Type 0} (p : ℕ) → fails A (Spelling p) ≡ fails A Short → ⊥
spelling_not_short p e = cc

pub nothing_left : (left more : List ℕ) → 0 < length more → left ++ more ≡ [] → ⊥
nothing_left left more lt e = omega (arith, length-append left more, ap length e)

-- further bytes leave the value that is read, and stand behind what is left
pub read_on : {A : Type 0} {Fits : A → Type 0} {spelling : A → List ℕ} {read : Input → Result (A × Input) FieldFault} → IsPart Fits spelling read
    → (input new : Input) (x : A) (more : List ℕ) → IsBytes input.left → read input ≡ Ok (x, new) → read (longer input more) ≡ Ok (x, longer new more)
read_on {spelling = spelling} {read = read} part input new x more bytes e =
    let taken = part.fields.takes input new x bytes e in
    let n = input.size + length more in
    ap (λ (left : List ℕ). read (record { size = n; left = left })) (ap (λ (t : List ℕ). t ++ more) taken.1.parts ∙ append_assoc (spelling x) new.left more)
    ∙ part.fields.again x n (new.left ++ more) taken.0
    ∙ ap (λ (size : ℕ). done (x, record { size = size + length more; left = new.left ++ more })) (sym taken.1.size)

-- ---- one part after another

module _ {A P B : Type 0} {FitsFirst : A → Type 0} {spell_first : A → List ℕ} {read_first : Input → Result (A × Input) FieldFault}
    {Fits : A → P → Type 0} {spelling : A → P → List ℕ} {make : A → P → B} {behind : ℕ → A → Input → Result (B × Input) FieldFault}
    (first : IsPart FitsFirst spell_first read_first) (second : (at : ℕ) (a : A) → FitsFirst a → Reads (Fits a) (spelling a) (make a) (behind at a)) where
  then_again : (p : A × P) (size : ℕ) (rest : List ℕ) → FitsFirst p.0 × Fits p.0 p.1
      → (read_first (record { size = size; left = (spell_first p.0 ++ spelling p.0 p.1) ++ rest }) >>= λ x. behind (place (record { size = size; left = (spell_first p.0 ++ spelling p.0 p.1) ++ rest })) x.0 x.1)
      ≡ Ok (make p.0 p.1, record { size = size; left = rest })
  then_again p size rest fits =
      let old : Input = record { size = size; left = (spell_first p.0 ++ spelling p.0 p.1) ++ rest } in
      let one : read_first old ≡ Ok (p.0, record { size = size; left = spelling p.0 p.1 ++ rest }) =
      ap (λ (left : List ℕ). read_first (record { size = size; left = left })) (append_assoc (spell_first p.0) (spelling p.0 p.1) rest) ∙ first.fields.again p.0 size (spelling p.0 p.1 ++ rest) fits.0 in
      ap (λ (r : Result (A × Input) FieldFault). r >>= λ x. behind (place old) x.0 x.1) one ∙ (second (place old) p.0 fits.0).again p.1 size rest fits.1

  then_takes : (old new : Input) (x : B) → IsBytes old.left → (read_first old >>= λ x. behind (place old) x.0 x.1) ≡ Ok (x, new)
      → (p : A × P) × (FitsFirst p.0 × Fits p.0 p.1) × (make p.0 p.1 ≡ x) × Takes old (spell_first p.0 ++ spelling p.0 p.1) new
  then_takes old new x bytes e =
      let found = bind_ok (read_first old) (λ x. behind (place old) x.0 x.1) (x, new) e in
      let one = first.fields.takes old found.0.1 found.0.0 bytes found.1 in
      let two = (second (place old) found.0.0 one.0).takes found.0.1 new x one.1.bytes found.2 in
      ((found.0.0, two.0), (one.0, two.1), two.2, Takes-then old (spell_first found.0.0) found.0.1 (spelling found.0.0 two.0) new one.1 two.3)

  -- behind the first part, what stands there is what a value has there
  cut : (input new : Input) (x : A) (p : A × P) (more rest : List ℕ) → FitsFirst x → FitsFirst p.0 → Takes input (spell_first x) new → input.left ++ more ≡ spell_first p.0 ++ rest
      → (x ≡ p.0) × (new.left ++ more ≡ rest)
  cut input new x p more rest fits_x fits_p taken same =
      first.fields.alone x p.0 (new.left ++ more) rest fits_x fits_p (sym (append_assoc (spell_first x) new.left more) ∙ ap (λ (t : List ℕ). t ++ more) (sym taken.parts) ∙ same)

  then_short : (input : Input) → IsBytes input.left → (p : A × P) (more : List ℕ) → FitsFirst p.0 → Fits p.0 p.1 → 0 < length more → input.left ++ more ≡ spell_first p.0 ++ spelling p.0 p.1
      → (r : Result (A × Input) FieldFault) → read_first input ≡ r → (r >>= λ x. behind (place input) x.0 x.1) ≡ Err Short
  then_short input bytes p more fits_a fits lt same (Ok x) e =
      let taken = first.fields.takes input x.1 x.0 bytes e in
      let here = cut input x.1 x.0 p more (spelling p.0 p.1) taken.0 fits_a taken.1 same in
      (second (place input) x.0 taken.0).short x.1 taken.1.bytes (subst (λ (a : A). EndsWithin (Fits a) (spelling a) x.1.left) (sym here.0) (p.1, more, fits, lt, here.1))
  then_short input bytes p more fits_a fits lt same (Err Short) e = refl
  then_short input bytes p more fits_a fits lt same (Err (Spelling q)) e = absurd (first.fields.misspelled input q bytes e p.0 more (spelling p.0 p.1) fits_a same)
  then_short input bytes p more fits_a fits lt same (Err OutOfMemory) e = absurd (first.no_memory input bytes e)

  then_misspelled : (input : Input) (q : ℕ) → IsBytes input.left → (read_first input >>= λ x. behind (place input) x.0 x.1) ≡ Err (Spelling q)
      → (p : A × P) (more rest : List ℕ) → FitsFirst p.0 × Fits p.0 p.1 → input.left ++ more ≡ (spell_first p.0 ++ spelling p.0 p.1) ++ rest → ⊥
  then_misspelled input q bytes e p more rest fits same =
      let grouped = same ∙ append_assoc (spell_first p.0) (spelling p.0 p.1) rest in
      elim (bind_err (read_first input) (λ x. behind (place input) x.0 x.1) (Spelling q) e) [
        | inl one ↦ first.fields.misspelled input q bytes one p.0 more (spelling p.0 p.1 ++ rest) fits.0 grouped
        | inr two ↦
            let x = two.0 in
            let taken = first.fields.takes input x.1 x.0 bytes two.1 in
            let here = cut input x.1 x.0 p more (spelling p.0 p.1 ++ rest) taken.0 fits.0 taken.1 grouped in
            let none = (second (place input) x.0 taken.0).misspelled x.1 q taken.1.bytes two.2 in
            subst (λ (a : A). IsNoSpelling (Fits a) (spelling a) x.1.left) here.0 none p.1 more rest fits.1 here.1
      ]

  then_memory : (input : Input) → IsBytes input.left → (read_first input >>= λ x. behind (place input) x.0 x.1) ≡ Err OutOfMemory → ⊥
  then_memory input bytes e =
      elim (bind_err (read_first input) (λ x. behind (place input) x.0 x.1) OutOfMemory e) [
        | inl one ↦ first.no_memory input bytes one
        | inr two ↦
            let x = two.0 in
            let taken = first.fields.takes input x.1 x.0 bytes two.1 in
            (second (place input) x.0 taken.0).no_memory x.1 taken.1.bytes two.2
      ]

  -- further bytes leave the first part's value, and stand behind what stands there
  then_on : (input new : Input) (a : A) (more : List ℕ) → IsBytes input.left → read_first input ≡ Ok (a, new)
      → (read_first (longer input more) >>= λ x. behind (place (longer input more)) x.0 x.1) ≡ behind (place input) a (longer new more)
  then_on input new a more bytes e =
      ap (λ (r : Result (A × Input) FieldFault). r >>= λ x. behind (place (longer input more)) x.0 x.1) (read_on first input new a more bytes e)
      ∙ ap (λ (at : ℕ). behind at a (longer new more)) (place_longer input more)

  then_stays : (input : Input) (more : List ℕ) (q : ℕ) → IsBytes input.left → IsBytes more → (read_first input >>= λ x. behind (place input) x.0 x.1) ≡ Err (Spelling q)
      → (read_first (longer input more) >>= λ x. behind (place (longer input more)) x.0 x.1) ≡ Err (Spelling q)
  then_stays input more q bytes further e =
      elim (bind_err (read_first input) (λ x. behind (place input) x.0 x.1) (Spelling q) e) [
        | inl one ↦ ap (λ (r : Result (A × Input) FieldFault). r >>= λ x. behind (place (longer input more)) x.0 x.1) (first.fields.stays input more q bytes further one)
        | inr two ↦
            let x = two.0 in
            let taken = first.fields.takes input x.1 x.0 bytes two.1 in
            then_on input x.1 x.0 more bytes two.1 ∙ (second (place input) x.0 taken.0).stays x.1 more q taken.1.bytes further two.2
      ]

  -- where the first part is answered, so may be the next
  then_more : (input : Input) (more : List ℕ) → IsBytes input.left → IsBytes more → (read_first (longer input more) ≢ Err Short)
      → (r : Result (A × Input) FieldFault) → read_first (longer input more) ≡ r
      → (all : List ℕ) × IsBytes all × ((read_first (longer input all) >>= λ x. behind (place (longer input all)) x.0 x.1) ≢ Err Short)
  then_more input more bytes few changed (Ok x) e =
      let old = longer input more in
      let old_bytes = bytes_append input.left more bytes few in
      let taken = first.fields.takes old x.1 x.0 old_bytes e in
      let further = (second (place old) x.0 taken.0).answers x.1 taken.1.bytes in (
        more ++ further.0,
        bytes_append more further.0 few further.1,
        λ short.
            further.2 (sym (then_on old x.1 x.0 further.0 old_bytes e)
            ∙ ap (λ (i : Input). read_first i >>= λ x. behind (place i) x.0 x.1) (longer_more input more further.0) ∙ short),
      )
  then_more input more bytes few changed (Err Short) e = absurd (changed e)
  then_more input more bytes few changed (Err (Spelling q)) e =
      (more, few, λ short. spelling_not_short q (sym (ap (λ (r : Result (A × Input) FieldFault). r >>= λ x. behind (place (longer input more)) x.0 x.1) e) ∙ short))
  then_more input more bytes few changed (Err OutOfMemory) e = absurd (first.no_memory (longer input more) (bytes_append input.left more bytes few) e)

  then_answers : Answers (λ input. read_first input >>= λ x. behind (place input) x.0 x.1)
  then_answers input bytes =
      let one = first.fields.answers input bytes in
      then_more input one.0 bytes one.1 one.2 (read_first (longer input one.0)) refl

  -- a part, and the parts that stand behind it
  pub then : Reads {P = A × P} (λ p. FitsFirst p.0 × Fits p.0 p.1) (λ p. spell_first p.0 ++ spelling p.0 p.1) (λ p. make p.0 p.1) (λ input. read_first input >>= λ x. behind (place input) x.0 x.1)
  then = record {
    again = then_again;
    takes = then_takes;
    short = λ input bytes ends. then_short input bytes ends.0 ends.1 ends.2.0 ends.2.1 ends.3 ends.4 (read_first input) refl;
    misspelled = then_misspelled;
    stays = then_stays;
    answers = then_answers;
    no_memory = then_memory;
  }

-- the last part
module _ {A B : Type 0} {Fits : A → Type 0} {spelling : A → List ℕ} {read : Input → Result (A × Input) FieldFault} (make : A → B) (part : IsPart Fits spelling read) where
  last_fault : (input : Input) (d : FieldFault) → (read input >>= made make) ≡ Err d → read input ≡ Err d
  last_fault input d e =
      elim (bind_err (read input) (made make) d e) [
        | inl one ↦ one
        | inr two ↦ absurd (ok_no_fault (make two.0.0, two.0.1) d two.2)
      ]

  last_takes : (old new : Input) (x : B) → IsBytes old.left → (read old >>= made make) ≡ Ok (x, new) → (p : A) × Fits p × (make p ≡ x) × Takes old (spelling p) new
  last_takes old new x bytes e =
      let found = bind_ok (read old) (made make) (x, new) e in
      let one = part.fields.takes old found.0.1 found.0.0 bytes found.1 in
      let same = ok_is (make found.0.0, found.0.1) (x, new) found.2 in
      (found.0.0, one.0, ap (λ (r : B × Input). r.0) same, subst (λ (r : B × Input). Takes old (spelling found.0.0) r.1) same one.1)

  pub last : Reads Fits spelling make (λ input. read input >>= made make)
  last = record {
    again = λ p size rest fits. ap (λ (r : Result (A × Input) FieldFault). r >>= made make) (part.fields.again p size rest fits);
    takes = last_takes;
    short = λ input bytes ends. ap (λ (r : Result (A × Input) FieldFault). r >>= made make) (part.fields.short input bytes ends);
    misspelled = λ input p bytes e. part.fields.misspelled input p bytes (last_fault input (Spelling p) e);
    stays = λ input more p bytes further e. ap (λ (r : Result (A × Input) FieldFault). r >>= made make) (part.fields.stays input more p bytes further (last_fault input (Spelling p) e));
    answers = λ input bytes. let one = part.fields.answers input bytes in (one.0, one.1, λ short. one.2 (last_fault (longer input one.0) Short short));
    no_memory = λ input bytes e. part.no_memory input bytes (last_fault input OutOfMemory e);
  }

-- no part at all
pub nothing : {B : Type 0} (b : B) → Reads {P = ⊤} (λ p. ⊤) (λ p. []) (λ p. b) (λ input. Ok (b, input))
nothing {B} b = record {
  again = λ p size rest fits. refl;
  takes = λ old new x bytes e. (tt, tt, ap (λ (r : B × Input). r.0) (ok_is (b, old) (x, new) e), subst (λ (r : B × Input). Takes old [] r.1) (ok_is (b, old) (x, new) e) (record { parts = refl; size = refl; bytes = bytes }));
  short = λ input bytes ends. absurd (nothing_left input.left ends.1 ends.3 ends.4);
  misspelled = λ input p bytes e. absurd (ok_no_fault (b, input) (Spelling p) e);
  stays = λ input more p bytes further e. absurd (ok_no_fault (b, input) (Spelling p) e);
  answers = λ input bytes. ([], no_bytes, λ short. ok_no_fault (b, longer input []) Short short);
  no_memory = λ input bytes e. ok_no_fault (b, input) OutOfMemory e;
}

-- ---- values that are told by their parts: each that fits is made of some, and what fitting parts make fits

module _ {P B : Type 0} {FitsParts : P → Type 0} {spell_parts : P → List ℕ} {make : P → B} {read : Input → Result (B × Input) FieldFault} (Fits : B → Type 0) (spelling : B → List ℕ)
    (reads : Reads FitsParts spell_parts make read)
    (split : (x : B) → Fits x → (p : P) × FitsParts p × (make p ≡ x) × (spelling x ≡ spell_parts p))
    (join : (p : P) → FitsParts p → Fits (make p) × (spelling (make p) ≡ spell_parts p)) where
  whole_again : (x : B) (size : ℕ) (rest : List ℕ) → Fits x → read (record { size = size; left = spelling x ++ rest }) ≡ Ok (x, record { size = size; left = rest })
  whole_again x size rest fits =
      let parts = split x fits in
      ap (λ (t : List ℕ). read (record { size = size; left = t ++ rest })) parts.3 ∙ reads.again parts.0 size rest parts.1 ∙ ap (λ (y : B). done (y, record { size = size; left = rest })) parts.2

  whole_alone : (x y : B) (r s : List ℕ) → Fits x → Fits y → spelling x ++ r ≡ spelling y ++ s → (x ≡ y) × (r ≡ s)
  whole_alone x y r s fx fy e =
      let at : List ℕ → Input = λ left. record { size = 0; left = left } in
      let one = sym (whole_again x 0 r fx) ∙ ap (λ (left : List ℕ). read (at left)) e ∙ whole_again y 0 s fy in
      let same = ok_is (x, at r) (y, at s) one in
      (ap (λ (p : B × Input). p.0) same, ap (λ (p : B × Input). p.1.left) same)

  whole_takes : (old new : Input) (x : B) → IsBytes old.left → read old ≡ Ok (x, new) → Fits x × Takes old (spelling x) new
  whole_takes old new x bytes e =
      let taken = reads.takes old new x bytes e in
      let joined = join taken.0 taken.1 in
      subst (λ (y : B). Fits y × Takes old (spelling y) new) taken.2 (joined.0, subst (λ (t : List ℕ). Takes old t new) (sym joined.1) taken.3)

  pub whole : IsPart Fits spelling read
  whole = record {
    fields = record {
      alone = whole_alone;
      again = whole_again;
      takes = whole_takes;
      short = λ input bytes ends. let parts = split ends.0 ends.2 in reads.short input bytes (parts.0, ends.1, parts.1, ends.3, ends.4 ∙ parts.3);
      misspelled = λ input p bytes e x more rest fits same. let parts = split x fits in reads.misspelled input p bytes e parts.0 more rest parts.1 (same ∙ ap (λ (t : List ℕ). t ++ rest) parts.3);
      stays = reads.stays;
      answers = reads.answers;
    };
    no_memory = reads.no_memory;
  }

-- the same parts of values that are told otherwise
pub refit : {A : Type 0} {Fits : A → Type 0} {spelling : A → List ℕ} {read : Input → Result (A × Input) FieldFault} (Wanted : A → Type 0)
    → IsPart Fits spelling read → ((x : A) → Wanted x → Fits x) → ((x : A) → Fits x → Wanted x) → IsPart Wanted spelling read
refit {spelling = spelling} Wanted part there here = whole Wanted spelling (one_part part) (λ x fits. (x, there x fits, refl, refl)) (λ x fits. (here x fits, refl))

-- ---- no value, and a choice

spelling_no_value : {A : Type 0} (p : ℕ) (x : A) → fails A (Spelling p) ≡ done x → ⊥
spelling_no_value p x e = cc

spelling_no_memory : {A : Type 0} (p : ℕ) → fails A (Spelling p) ≡ fails A OutOfMemory → ⊥
spelling_no_memory p e = cc

-- what no value fits is misspelled
pub no_part : {A : Type 0} {Fits : A → Type 0} {spelling : A → List ℕ} (p : ℕ) → ((x : A) → Fits x → ⊥) → IsPart Fits spelling (λ input. Err (Spelling p))
no_part {A} p none = record {
  fields = record {
    alone = λ x y r s fx fy e. absurd (none x fx);
    again = λ x size rest fits. absurd (none x fits);
    takes = λ old new x bytes e. absurd (spelling_no_value p (x, new) e);
    short = λ input bytes ends. absurd (none ends.0 ends.2);
    misspelled = λ input q bytes e x more rest fits same. none x fits;
    stays = λ input more q bytes further e. e;
    answers = λ input bytes. ([], no_bytes, λ short. spelling_not_short {A = A × Input} p short);
  };
  no_memory = λ input bytes e. spelling_no_memory {A = A × Input} p e;
}

-- a part that hangs on a test
pub choice : {A : Type 0} {Fits : A → Type 0} {spelling : A → List ℕ} (b : Bool) (one other : Input → Result (A × Input) FieldFault)
    → (b ≡ true → IsPart Fits spelling one) → (b ≡ false → IsPart Fits spelling other) → IsPart Fits spelling (λ input. cond b (one input) (other input))
choice true one other if_true if_false = if_true refl
choice false one other if_true if_false = if_false refl

-- ---- a value that the bytes of a part stand for

some_is : {A : Type 0} (x y : A) → Some x ≡ Some y → x ≡ y
some_is x y e = cc

pub none_is : {A : Type 0} (x : A) → None ≡ Some x → ⊥
none_is x e = cc

stands_for : {A : Type 0} (p : ℕ) (o : Option A) → Reads {P = A} (λ x. o ≡ Some x) (λ x. []) (λ x. x) (known p o)
stands_for {A} p (Some y) = record {
  again = λ x size rest e. ap (λ (z : A). done (z, record { size = size; left = rest })) (some_is y x e);
  takes = λ old new x bytes e.
      let same = ok_is (y, old) (x, new) e in
      (y, refl, ap (λ (r : A × Input). r.0) same, subst (λ (r : A × Input). Takes old [] r.1) same (record { parts = refl; size = refl; bytes = bytes }));
  short = λ input bytes ends. absurd (nothing_left input.left ends.1 ends.3 ends.4);
  misspelled = λ input q bytes e. absurd (ok_no_fault (y, input) (Spelling q) e);
  stays = λ input more q bytes further e. absurd (ok_no_fault (y, input) (Spelling q) e);
  answers = λ input bytes. ([], no_bytes, λ short. ok_no_fault (y, longer input []) Short short);
  no_memory = λ input bytes e. ok_no_fault (y, input) OutOfMemory e;
}
stands_for {A} p None = record {
  again = λ x size rest e. absurd (none_is x e);
  takes = λ old new x bytes e. absurd (spelling_no_value p (x, new) e);
  short = λ input bytes ends. absurd (nothing_left input.left ends.1 ends.3 ends.4);
  misspelled = λ input q bytes e x more rest fits same. none_is x fits;
  stays = λ input more q bytes further e. e;
  answers = λ input bytes. ([], no_bytes, λ short. spelling_not_short {A = A × Input} p short);
  no_memory = λ input bytes e. spelling_no_memory {A = A × Input} p e;
}

-- a value that has one spelling in the part, and is what that spelling stands for
pub known_part : {T A : Type 0} {FitsBytes : T → Type 0} {spell_bytes : T → List ℕ} {read_bytes : Input → Result (T × Input) FieldFault} → IsPart FitsBytes spell_bytes read_bytes
    → (Fits : A → Type 0) (of : T → Option A) (back : A → T)
    → ((x : A) → Fits x → FitsBytes (back x) × (of (back x) ≡ Some x))
    → ((t : T) (x : A) → FitsBytes t → of t ≡ Some x → Fits x × (back x ≡ t))
    → IsPart Fits (λ x. spell_bytes (back x)) (λ input. read_bytes input >>= λ t. known (place input) (of t.0) t.1)
known_part {spell_bytes = spell_bytes} part Fits of back there here =
    whole Fits (λ x. spell_bytes (back x)) (then part (λ at t fits. stands_for at (of t)))
    (λ x fits. let f = there x fits in ((back x, x), f, refl, sym (append-nil (spell_bytes (back x)))))
    (λ p fits. let f = here p.0 p.1 fits.0 fits.1 in (f.0, ap spell_bytes f.1 ∙ sym (append-nil (spell_bytes p.0))))

-- ---- so many values, one after another

module _ {A : Type 0} {Fits : A → Type 0} {spelling : A → List ℕ} {read : Input → Result (A × Input) FieldFault} (part : IsPart Fits spelling read) where
  abbrev Many : ℕ → List A → Type 0
  Many n xs = (length xs ≡ n) × AllByRecursion Fits xs

  no_items : (xs : List A) → Many zero xs → (p : ⊤) × ⊤ × ([] ≡ xs) × (flat_map spelling xs ≡ [])
  no_items [] fits = (tt, tt, refl, refl)
  no_items (x ∷ xs) fits = absurd (omega (arith, fits.0))

  one_more : (n : ℕ) (xs : List A) → Many (suc n) xs → (p : A × List A) × (Fits p.0 × Many n p.1) × (p.0 ∷ p.1 ≡ xs) × (flat_map spelling xs ≡ spelling p.0 ++ flat_map spelling p.1)
  one_more n [] fits = absurd (omega (arith, fits.0))
  one_more n (x ∷ xs) fits = ((x, xs), (fits.1.0, (omega (arith, fits.0), fits.1.1)), refl, refl)

  pub items_part : (n : ℕ) → IsPart (Many n) (flat_map spelling) (items_at read n)
  unfolding items_at
  items_part zero = whole (Many zero) (flat_map spelling) (nothing []) no_items (λ p fits. ((refl, tt), refl))
  items_part (suc n) =
      whole (Many (suc n)) (flat_map spelling) (then part (λ old x fits. last (λ others. x ∷ others) (items_part n))) (one_more n)
      (λ p fits. ((ap (λ (k : ℕ). suc k) fits.1.0, (fits.0, fits.1.1)), refl))
