-- What is told of some records, one after the other, is what is told of those that pass a test.
use Rattle.std.proofs.Common.{◌≡◌, ℕ, zero, suc, ◌+◌, ◌-◌, ◌<◌, ◌≤◌, Bool, true, false, List, [], ◌∷◌, ◌++◌, length, drop, refl, sym, ap, ◌∙◌, arith, Option, Some, None, append_assoc, append-nil}
use Rattle.std.specs.Prelude.{if◌then◌else◌, filter, slice_get}
use Rattle.std.specs.List.{cons_option, filter_map}
use Rattle.std.proofs.lemmas.List.Elements.{filter-append}
use Rattle.up_entry.specs.declared.records.Rec.{Rec}
use Rattle.up_log_tree.specs.Changes.{positions_of}

cons_option-append : {X : Type 0} (o : Option X) (xs : List X) → cons_option o [] ++ xs ≡ cons_option o xs
cons_option-append None xs = refl
cons_option-append (Some x) xs = refl

-- what stands behind the first ones
get_behind : {X : Type 0} (xs : List X) (s j : ℕ) (x : X) → slice_get (drop s xs) j ≡ Some x → slice_get xs (s + j) ≡ Some x
get_behind xs zero j x is = ap (slice_get xs) (let e : 0 + j ≡ j = omega arith in e) ∙ is
get_behind [] (suc s) j x is = is
get_behind (y ∷ xs) (suc s) j x is = ap (slice_get (y ∷ xs)) (let e : suc s + j ≡ suc (s + j) = omega arith in e) ∙ get_behind xs s j x is

length_behind : {X : Type 0} (xs : List X) (s m : ℕ) → s + m ≡ length xs → length (drop s xs) ≡ m
length_behind xs zero m is = omega (arith, is)
length_behind [] (suc s) m is = omega (arith, is)
length_behind (y ∷ xs) (suc s) m is = length_behind xs s m (omega (arith, is))

module _ {V : Type 0} (made : ℕ → Option V) where
  -- what is made of m numbers from k on
  abbrev made_from : ℕ → ℕ → List V
  made_from zero k = []
  made_from (suc m) k = cons_option (made k) (made_from m (suc k))

  module _ (all : ℕ → List V) (more : (n : ℕ) → all (suc n) ≡ all n ++ cons_option (made n) []) where
    -- what is made of the first n, in two parts
    parts : (m k n : ℕ) → k + m ≡ n → all n ≡ all k ++ made_from m k
    parts zero k n is = ap all (let e : n ≡ k = omega (arith, is) in e) ∙ sym (append-nil (all k))
    parts (suc m) k n is =
        parts m (suc k) n (omega (arith, is))
        ∙ (ap (λ l. l ++ made_from m (suc k)) (more k)
        ∙ (append_assoc (all k) (cons_option (made k) []) (made_from m (suc k))
        ∙ ap (λ l. all k ++ l) (cons_option-append (made k) (made_from m (suc k)))))

    module _ (passes : V → Bool) where
      -- what does not pass is left out
      left_out : (n : ℕ) → all 0 ≡ [] → ((j : ℕ) (v : V) → j < n → made j ≡ Some v → passes v ≡ false) → filter passes (all n) ≡ []
      left_out zero none fails = ap (filter passes) none
      left_out (suc n) none fails =
          ap (filter passes) (more n)
          ∙ (filter-append passes (all n) (cons_option (made n) [])
          ∙ (ap (λ l. l ++ filter passes (cons_option (made n) [])) (left_out n none (λ j v within is. fails j v (omega (arith, within)) is))
          ∙ go (made n) (λ v is. fails n v (omega arith) is)))
        where
          go : (o : Option V) → ((v : V) → o ≡ Some v → passes v ≡ false) → filter passes (cons_option o []) ≡ []
          go None f = refl
          go (Some v) f = ap (λ b. if b then v ∷ [] else []) (f v refl)

  module _ (passes : V → Bool) (test : Rec → Bool) where
    abbrev pub told : ℕ → Option V
    told n = made (n - 1)

    -- of these records, the ones that pass the test
    those : (k m : ℕ) (records : List Rec) → length records ≡ m → ((j : ℕ) (r : Rec) → slice_get records j ≡ Some r → (v : V) → made (k + j) ≡ Some v → passes v ≡ test r) →
        filter passes (made_from m k) ≡ filter_map told (positions_of test k records)
    those k zero [] size same = refl
    those k (suc m) [] size same = absurd (omega (arith, size))
    those k zero (r ∷ records) size same = absurd (omega (arith, size))
    those k (suc m) (r ∷ records) size same =
        go (those (suc k) m records (omega (arith, size)) (λ j s is v of. same (suc j) s is v (ap made (let e : k + suc j ≡ suc k + j = omega arith in e) ∙ of))) (made k) refl (test r) refl
      where
        first : told (suc k) ≡ made k
        first = ap made (let e : suc k - 1 ≡ k = omega arith in e)

        passing : (v : V) → made k ≡ Some v → passes v ≡ test r
        passing v is = same 0 r refl v (ap made (let e : k + 0 ≡ k = omega arith in e) ∙ is)

        left : (o : Option V) → made k ≡ o → filter passes (cons_option (made k) (made_from m (suc k))) ≡ filter passes (cons_option o (made_from m (suc k)))
        left o is = ap (λ o. filter passes (cons_option o (made_from m (suc k)))) is

        right : (b : Bool) → test r ≡ b → filter_map told (if test r then suc k ∷ positions_of test (suc k) records else positions_of test (suc k) records) ≡ filter_map told (if b then suc k ∷ positions_of test (suc k) records else positions_of test (suc k) records)
        right b is = ap (λ b. filter_map told (if b then suc k ∷ positions_of test (suc k) records else positions_of test (suc k) records)) is

        one : (o : Option V) → made k ≡ o → cons_option (told (suc k)) (filter_map told (positions_of test (suc k) records)) ≡ cons_option o (filter_map told (positions_of test (suc k) records))
        one o is = ap (λ o. cons_option o (filter_map told (positions_of test (suc k) records))) (first ∙ is)

        tested : (v : V) (b : Bool) → passes v ≡ b → filter passes (v ∷ made_from m (suc k)) ≡ (if b then v ∷ filter passes (made_from m (suc k)) else filter passes (made_from m (suc k)))
        tested v b is = ap (λ b. if b then v ∷ filter passes (made_from m (suc k)) else filter passes (made_from m (suc k))) is

        go : filter passes (made_from m (suc k)) ≡ filter_map told (positions_of test (suc k) records) → (o : Option V) → made k ≡ o → (b : Bool) → test r ≡ b → filter passes (cons_option (made k) (made_from m (suc k))) ≡ filter_map told (if test r then suc k ∷ positions_of test (suc k) records else positions_of test (suc k) records)
        go rest None e true f = left None e ∙ (rest ∙ sym (right true f ∙ one None e))
        go rest None e false f = left None e ∙ (rest ∙ sym (right false f))
        go rest (Some v) e true f = left (Some v) e ∙ (tested v true (passing v e ∙ f) ∙ (ap (λ l. v ∷ l) rest ∙ sym (right true f ∙ one (Some v) e)))
        go rest (Some v) e false f = left (Some v) e ∙ (tested v false (passing v e ∙ f) ∙ (rest ∙ sym (right false f)))

    -- of all records, those behind the first s that pass the test
    pub those_behind : (all : ℕ → List V) → all 0 ≡ [] → ((n : ℕ) → all (suc n) ≡ all n ++ cons_option (made n) []) → (records : List Rec) (s : ℕ) → s ≤ length records →
        ((j : ℕ) (v : V) → j < s → made j ≡ Some v → passes v ≡ false) →
        ((j : ℕ) (r : Rec) → s ≤ j → slice_get records j ≡ Some r → (v : V) → made j ≡ Some v → passes v ≡ test r) →
        filter passes (all (length records)) ≡ filter_map told (positions_of test s (drop s records))
    those_behind all none more records s within fails same =
        let m : ℕ = length records - s in
        ap (filter passes) (parts all more m s (length records) (omega (arith, within)))
        ∙ (filter-append passes (all s) (made_from m s)
        ∙ (ap (λ l. l ++ filter passes (made_from m s)) (left_out all more passes s none fails)
        ∙ those s m (drop s records) (length_behind records s m (omega (arith, within))) (λ j r is v of. same (s + j) r (omega arith) (get_behind records s j r is) v of)))
