-- A fault of the disk, or want of memory, is no damage.
use Rattle.std.proofs.Common.{◌≡◌, Option, Result, Ok, Err, IsErrAnd, IfErr, ◌⊎◌, inl, inr, ⊎_elim, refl, sym, ◌∙◌}
use Rattle.up_journal.specs.Damages.{Damage}
use Rattle.up_journal.specs.Damages as damages
use Rattle.up_journal.specs.Opened.{IsDamageOf, why_of, why_of_read}
use Rattle.up_journal.specs.declared.fault.OpenWhy.{OpenWhy}
use Rattle.up_journal.specs.declared.fault.OpenWhy.TheVariants as open_why
use Rattle.up_journal.specs.declared.fault.ReadWhy.{ReadWhy}
use Rattle.up_journal.specs.declared.fault.ReadWhy.TheVariants as read_why

not_damage : (why : OpenWhy) → (why ≡ open_why.Fault) ⊎ (why ≡ open_why.OutOfMemory) → (damage : Damage) → why ≡ why_of damage → ⊥
not_damage why which damage is = ⊎_elim (λ fault. by_damage open_why.Fault damage (inl refl) (sym fault ∙ is)) (λ memory. by_damage open_why.OutOfMemory damage (inr refl) (sym memory ∙ is)) which
  where
    by_damage : (why : OpenWhy) (damage : Damage) → (why ≡ open_why.Fault) ⊎ (why ≡ open_why.OutOfMemory) → why ≡ why_of damage → ⊥
    by_damage why (damages.Damaged gate) which is = ⊎_elim (λ f. let both = sym f ∙ is in cc) (λ o. let both = sym o ∙ is in cc) which
    by_damage why (damages.Chain gate wanted got) which is = ⊎_elim (λ f. let both = sym f ∙ is in cc) (λ o. let both = sym o ∙ is in cc) which
    by_damage why damages.OldFormat which is = ⊎_elim (λ f. let both = sym f ∙ is in cc) (λ o. let both = sym o ∙ is in cc) which

pub memory_damage : {X A T : Type 0} (read : A → Result T Damage) (told : Option A) (result : Result X OpenWhy) → IsErrAnd result (λ why. why ≡ open_why.OutOfMemory) → IfErr result (IsDamageOf read told)
memory_damage read told (Ok x) is = tt
memory_damage read told (Err why) is = λ damage same. absurd (not_damage why (inr is) damage same)

pub read_damage : {X A T : Type 0} (read : A → Result T Damage) (told : Option A) (result : Result X OpenWhy) (r : ReadWhy) → IsErrAnd result (λ why. why ≡ why_of_read r) → IfErr result (IsDamageOf read told)
read_damage read told (Ok x) r is = tt
read_damage read told (Err why) read_why.Fault is = λ damage same. absurd (not_damage why (inl is) damage same)
read_damage read told (Err why) read_why.OutOfMemory is = λ damage same. absurd (not_damage why (inr is) damage same)
