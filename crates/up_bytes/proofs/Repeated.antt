-- So many values, one after another: what is read of them, and the loop that reads them.
use Rattle.std.proofs.Common.{◌≡◌, ℕ, zero, suc, ◌-◌, ◌+◌, ◌≤◌, ◌<◌, List, [], ◌∷◌, ◌++◌, length, Result, Ok, Err, refl, sym, ap, subst, ◌∙◌, append_assoc, arith}
use Rattle.std.specs.List.{flat_map, AllByRecursion}
use Rattle.std.proofs.lemmas.List.{append-nil}
use Rattle.up_bytes.specs.declared.fault.FieldFault.{FieldFault}
use Rattle.up_bytes.specs.Input.{Input}
use Rattle.up_bytes.specs.Reading.{◌>>=◌, items_at}
use Rattle.up_bytes.specs.Forms.{IsBytes, Takes}
use Rattle.up_bytes.proofs.Forms.{bind_ok, ok_is, Takes-then}

-- what is read of so many values is so many that fit, in their spellings
pub items_takes : {A : Type 0} (Fits : A → Type 0) (spelling : A → List ℕ) (read : Input → Result (A × Input) FieldFault)
    → ((old new : Input) (x : A) → IsBytes old.left → read old ≡ Ok (x, new) → Fits x × Takes old (spelling x) new)
    → (n : ℕ) (old new : Input) (xs : List A) → IsBytes old.left → items_at read n old ≡ Ok (xs, new) → (length xs ≡ n) × AllByRecursion Fits xs × Takes old (flat_map spelling xs) new
unfolding items_at
items_takes {A} Fits spelling read takes zero old new xs bytes e =
    subst (λ (r : List A × Input). (length r.0 ≡ 0) × AllByRecursion Fits r.0 × Takes old (flat_map spelling r.0) r.1) (ok_is ([], old) (xs, new) e) (refl, tt, record { parts = refl; size = refl; bytes = bytes })
items_takes {A} Fits spelling read takes (suc n) old new xs bytes e =
    let first = bind_ok (read old) (λ x. items_at read n x.1 >>= λ others. Ok (x.0 ∷ others.0, others.1)) (xs, new) e in
    let others = bind_ok (items_at read n first.0.1) (λ others. Ok (first.0.0 ∷ others.0, others.1)) (xs, new) first.2 in
    let one = takes old first.0.1 first.0.0 bytes first.1 in
    let rest = items_takes Fits spelling read takes n first.0.1 others.0.1 others.0.0 one.1.bytes others.1 in
    let both = Takes-then old (spelling first.0.0) first.0.1 (flat_map spelling others.0.0) others.0.1 one.1 rest.2 in
    subst (λ (r : List A × Input). (length r.0 ≡ suc n) × AllByRecursion Fits r.0 × Takes old (flat_map spelling r.0) r.1) (ok_is (first.0.0 ∷ others.0.0, others.0.1) (xs, new) others.2)
    (ap (λ (k : ℕ). suc k) rest.0, (one.0, rest.1), both)

-- the spellings of values that fit are read again, whatever follows them
pub items_again : {A : Type 0} (Fits : A → Type 0) (spelling : A → List ℕ) (read : Input → Result (A × Input) FieldFault)
    → ((x : A) (size : ℕ) (rest : List ℕ) → Fits x → read (record { size = size; left = spelling x ++ rest }) ≡ Ok (x, record { size = size; left = rest }))
    → (xs : List A) (size : ℕ) (rest : List ℕ) → AllByRecursion Fits xs → items_at read (length xs) (record { size = size; left = flat_map spelling xs ++ rest }) ≡ Ok (xs, record { size = size; left = rest })
unfolding items_at
items_again Fits spelling read again [] size rest fits = refl
items_again Fits spelling read again (x ∷ xs) size rest fits =
    ap (λ (left : List ℕ). items_at read (suc (length xs)) (record { size = size; left = left })) (append_assoc (spelling x) (flat_map spelling xs) rest)
    ∙ rw (again x size (flat_map spelling xs ++ rest) fits.0, items_again Fits spelling read again xs size rest fits.1) refl

-- ---- a loop that reads them, with the values so far in front

abbrev pub with_front : {A : Type 0} → List A → Result (List A × Input) FieldFault → Result (List A × Input) FieldFault
with_front front read = read >>= λ x. Ok (front ++ x.0, x.1)

regroup : {A : Type 0} (front : List A) (x : A) (read : Result (List A × Input) FieldFault) → with_front front (read >>= λ others. Ok (x ∷ others.0, others.1)) ≡ with_front (front ++ x ∷ []) read
regroup {A} front x (Ok y) = ap (λ (xs : List A). Ok (xs, y.1)) (sym (append_assoc front (x ∷ []) y.0))
regroup front x (Err e) = refl

-- one more was read
pub items_more : {A : Type 0} (read : Input → Result (A × Input) FieldFault) (front : List A) (count i : ℕ) (now : Input) (x : A) (after : Input) (total : Result (List A × Input) FieldFault)
    → i < count → read now ≡ Ok (x, after) → with_front front (items_at read (count - i) now) ≡ total → with_front (front ++ x ∷ []) (items_at read (count - (i + 1)) after) ≡ total
unfolding items_at
items_more read front count i now x after total lt one sofar =
    let k : count - i ≡ suc (count - (i + 1)) = omega arith in
    let step : with_front front (items_at read (count - i) now) ≡ with_front (front ++ x ∷ []) (items_at read (count - (i + 1)) after) = rw (k, one) (regroup front x (items_at read (count - (i + 1)) after)) in
    sym step ∙ sofar

-- one was not read
pub items_end : {A : Type 0} (read : Input → Result (A × Input) FieldFault) (front : List A) (count i : ℕ) (now : Input) (e : FieldFault) (total : Result (List A × Input) FieldFault)
    → i < count → read now ≡ Err e → with_front front (items_at read (count - i) now) ≡ total → total ≡ Err e
unfolding items_at
items_end read front count i now e total lt one sofar =
    let k : count - i ≡ suc (count - (i + 1)) = omega arith in
    let step : with_front front (items_at read (count - i) now) ≡ Err e = rw (k, one) refl in
    sym sofar ∙ step

-- all were read
pub items_done : {A : Type 0} (read : Input → Result (A × Input) FieldFault) (front : List A) (count i : ℕ) (now : Input) (total : Result (List A × Input) FieldFault)
    → count ≤ i → with_front front (items_at read (count - i) now) ≡ total → total ≡ Ok (front, now)
unfolding items_at
items_done {A} read front count i now total le sofar =
    let k : count - i ≡ 0 = omega arith in
    let step : with_front front (items_at read (count - i) now) ≡ Ok (front, now) = rw k (ap (λ (xs : List A). Ok (xs, now)) (append-nil front)) in
    sym sofar ∙ step

-- nothing in front is no change
pub nothing_in_front : {A : Type 0} (r : Result (List A × Input) FieldFault) → with_front [] r ≡ r
nothing_in_front (Ok x) = refl
nothing_in_front (Err e) = refl
