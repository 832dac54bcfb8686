-- The records of a log are read, one payload after the other.
use Rattle.std.proofs.Common.{◌≡◌, ◌+◌, IfSome, ℕ, List, [], ◌∷◌, ◌++◌, map, take, Option, Some, None, option_map, Result, Ok, Err, IsErrAnd, IfErr, ◌⊎◌, inl, inr, ⊎_elim, refl, sym, ap, ◌∙◌, subst, slice_get}
use Rattle.std.proofs.lemmas.List.{map-append}
use Rattle.up_blocks.specs.Kept.{IsIndex, IsTaken, log_seen, record_of, untold}
use Rattle.up_blocks.specs.Records.{decoded, fits}
use Rattle.up_blocks.specs.declared.record.BlockRecord.{BlockRecord}
use Rattle.up_blocks.specs.declared.record.Kept.{Kept}
use Rattle.up_journal.specs.Damages.{Damage}
use Rattle.up_journal.specs.Damages as damages
use Rattle.up_journal.specs.Logs.{EachFits, log_step}
use Rattle.up_journal.specs.Opened.{IsDamageOf, why_of, why_of_read}
use Rattle.up_journal.specs.declared.fault.OpenWhy.{OpenWhy}
use Rattle.up_journal.specs.declared.fault.OpenWhy.TheVariants as open_why
use Rattle.up_journal.specs.declared.fault.ReadWhy.{ReadWhy}
use Rattle.up_journal.specs.declared.fault.ReadWhy.TheVariants as read_why
use Rattle.up_journal.specs.Records.{ReadUpTo}
use Rattle.up_journal.proofs.Logs.{fits_more, fits_step}
use Rattle.up_journal.proofs.Records.{take_next}

-- the log up to the record with that number, from 0
abbrev pub up_to : ℕ → Option (List (List ℕ)) → List Kept → List BlockRecord
up_to n told records = log_seen (option_map (take n) told) records

told_next : (payloads : List (List ℕ)) (n : ℕ) (payload : List ℕ) → slice_get payloads n ≡ Some payload
    → map record_of (take (n + 1) payloads) ≡ map record_of (take n payloads) ++ record_of payload ∷ []
told_next payloads n payload is = ap (map record_of) (take_next payloads n payload is) ∙ map-append record_of (take n payloads) (payload ∷ [])

-- a payload more is read
pub read_next : (told : Option (List (List ℕ))) (n gate : ℕ) (payload : List ℕ) (before records : List Kept) → IfSome told (λ payloads. slice_get payloads n ≡ Some payload)
    → ReadUpTo (log_step decoded fits) [] told (n + 1) gate (up_to n told before ++ record_of payload ∷ [])
    → ReadUpTo (log_step decoded fits) [] told (n + 1) gate (up_to (n + 1) told records)
read_next None n gate payload before records is so_far = record { rest = λ payloads told. absurd (cc) }
read_next (Some payloads) n gate payload before records is so_far =
    subst (λ l. ReadUpTo (log_step decoded fits) [] (Some payloads) (n + 1) gate l) (sym (told_next payloads n payload is)) so_far

pub index_next : (told : Option (List (List ℕ))) (n : ℕ) (payload : List ℕ) (before records : List Kept) (numbers : List (List ℕ × ℕ)) → IfSome told (λ payloads. slice_get payloads n ≡ Some payload)
    → IsTaken (up_to n told before) payload before records numbers → IsIndex (up_to (n + 1) told records) records numbers
index_next None n payload before records numbers is taken =
    let same : map untold records ≡ map untold before ++ untold taken.change ∷ [] = ap (map untold) taken.added ∙ map-append untold before (taken.change ∷ []) in
    subst (λ l. IsIndex l records numbers) (sym same) taken.silent
index_next (Some payloads) n payload before records numbers is taken =
    subst (λ l. IsIndex l records numbers) (sym (told_next payloads n payload is)) taken.told

pub fits_next : (told : Option (List (List ℕ))) (n : ℕ) (payload : List ℕ) (before records : List Kept) (numbers : List (List ℕ × ℕ)) → IfSome told (λ payloads. slice_get payloads n ≡ Some payload)
    → IsTaken (up_to n told before) payload before records numbers → EachFits fits (up_to n told before) → EachFits fits (up_to (n + 1) told records)
fits_next None n payload before records numbers is taken fitting =
    let same : map untold records ≡ map untold before ++ untold taken.change ∷ [] = ap (map untold) taken.added ∙ map-append untold before (taken.change ∷ []) in
    subst (λ l. EachFits fits l) (sym same) (fits_more fits (map untold before) (untold taken.change) fitting taken.fitted)
fits_next (Some payloads) n payload before records numbers is taken fitting =
    let log = map record_of (take n payloads) in
    subst (λ l. EachFits fits l) (sym (told_next payloads n payload is)) (fits_step fits decoded log payload (log ++ record_of payload ∷ []) fitting taken.step)

-- ---- a fault or want of memory is no damage

not_damage : (why : OpenWhy) → (why ≡ open_why.Fault) ⊎ (why ≡ open_why.OutOfMemory) → (damage : Damage) → why ≡ why_of damage → ⊥
not_damage why which damage is = ⊎_elim (λ fault. by_damage open_why.Fault damage (inl refl) (sym fault ∙ is)) (λ memory. by_damage open_why.OutOfMemory damage (inr refl) (sym memory ∙ is)) which
  where
    by_damage : (why : OpenWhy) (damage : Damage) → (why ≡ open_why.Fault) ⊎ (why ≡ open_why.OutOfMemory) → why ≡ why_of damage → ⊥
    by_damage why (damages.Damaged gate) which is = ⊎_elim (λ f. let both = sym f ∙ is in cc) (λ o. let both = sym o ∙ is in cc) which
    by_damage why (damages.Chain gate wanted got) which is = ⊎_elim (λ f. let both = sym f ∙ is in cc) (λ o. let both = sym o ∙ is in cc) which
    by_damage why damages.OldFormat which is = ⊎_elim (λ f. let both = sym f ∙ is in cc) (λ o. let both = sym o ∙ is in cc) which

pub memory_damage : {X A T : Type 0} (read : A → Result T Damage) (told : Option A) (result : Result X OpenWhy) → IsErrAnd result (λ why. why ≡ open_why.OutOfMemory) → IfErr result (IsDamageOf read told)
memory_damage read told (Ok x) is = tt
memory_damage read told (Err why) is = λ damage same. absurd (not_damage why (inr is) damage same)

pub read_damage : {X A T : Type 0} (read : A → Result T Damage) (told : Option A) (result : Result X OpenWhy) (r : ReadWhy) → IsErrAnd result (λ why. why ≡ why_of_read r) → IfErr result (IsDamageOf read told)
read_damage read told (Ok x) r is = tt
read_damage read told (Err why) read_why.Fault is = λ damage same. absurd (not_damage why (inl is) damage same)
read_damage read told (Err why) read_why.OutOfMemory is = λ damage same. absurd (not_damage why (inr is) damage same)
