-- Lists of values, by their parts.
use Rattle.std.proofs.Common.{ℕ, List, [], ◌∷◌, ◌++◌, length, Result, refl, ap, arith}
use Rattle.std.specs.List.{flat_map, AllByRecursion}
use Rattle.up_bytes.specs.declared.fault.FieldFault.{FieldFault}
use Rattle.up_bytes.specs.Num.{num}
use Rattle.up_bytes.specs.Input.{Input}
use Rattle.up_bytes.specs.Spelling.{list, IsList}
use Rattle.up_bytes.specs.Reading.{list_at}
use Rattle.up_bytes.proofs.Parts.{IsPart, then, whole, one_part, items_part}
use Rattle.up_bytes.proofs.FieldParts.{num_part}

-- a list: the number of its values, and then each
pub list_part : {A : Type 0} {Fits : A → Type 0} {spelling : A → List ℕ} {read : Input → Result (A × Input) FieldFault} → IsPart Fits spelling read → IsPart (IsList Fits) (list spelling) (list_at read)
unfolding list_at
list_part {Fits = Fits} {spelling = spelling} part =
    whole (IsList Fits) (list spelling) (then num_part λ _ n _. one_part (items_part part n))
    (λ xs fits. ((length xs, xs), (fits.0, (refl, fits.1)), refl, refl))
    (λ p fits. ((omega (arith, fits.0, fits.1.0), fits.1.1), ap (λ (n : ℕ). num n ++ flat_map spelling p.1) fits.1.0))

-- what is said of each value in two parts
pub all_both : {A : Type 0} (P Q : A → Type 0) (xs : List A) → AllByRecursion P xs → AllByRecursion Q xs → AllByRecursion (λ x. P x × Q x) xs
all_both P Q [] p q = tt
all_both P Q (x ∷ xs) p q = ((p.0, q.0), all_both P Q xs p.1 q.1)

pub all_first : {A : Type 0} (P Q : A → Type 0) (xs : List A) → AllByRecursion (λ x. P x × Q x) xs → AllByRecursion P xs
all_first P Q [] both = tt
all_first P Q (x ∷ xs) both = (both.0.0, all_first P Q xs both.1)

pub all_second : {A : Type 0} (P Q : A → Type 0) (xs : List A) → AllByRecursion (λ x. P x × Q x) xs → AllByRecursion Q xs
all_second P Q [] both = tt
all_second P Q (x ∷ xs) both = (both.0.1, all_second P Q xs both.1)
