-- Values that are told apart by a byte in front of their fields.
use Rattle.std.proofs.Common.{◌≡◌, ℕ, Bool, true, false, ltb, eqb, List, [], ◌∷◌, ◌++◌, Result, refl, sym, ap, subst, ◌∙◌}
use Rattle.std.specs.Prelude.{◌||◌, ◌&&◌, nat_lt, ◌==◌}
use Rattle.std.specs.List.{AllByRecursion}
use Rattle.std.proofs.lemmas.Bool.{eqb-true, ltb-true, and_parts}
use Rattle.up_bytes.specs.declared.fault.FieldFault.{FieldFault}
use Rattle.up_bytes.specs.Input.{Input}
use Rattle.up_bytes.specs.Spelling.{byte, IsByte}
use Rattle.up_bytes.specs.Reading.{made_of, plain, row_at, tagged_at}
use Rattle.up_bytes.proofs.Parts.{IsPart, then, last, nothing, whole, one_part, no_part, choice}
use Rattle.up_bytes.proofs.FieldParts.{byte_part}

-- the fields behind a tag, and how they are read
abbrev pub Row : Type 0 → Type 0
Row B = ℕ × (Input → Result (B × Input) FieldFault)

-- whether a row has this tag
abbrev pub has_tag : {B : Type 0} → ℕ → List (Row B) → Bool
has_tag tag [] = false
has_tag tag (row ∷ rows) = tag == row.0 || has_tag tag rows

-- whether each row's tag is a byte
abbrev pub are_bytes : {B : Type 0} → List (Row B) → Bool
are_bytes [] = true
are_bytes (row ∷ rows) = nat_lt row.0 256 && are_bytes rows

tag_small : {B : Type 0} (rows : List (Row B)) (tag : ℕ) → are_bytes rows ≡ true → has_tag tag rows ≡ true → IsByte tag
tag_small [] tag small has = absurd cc
tag_small (row ∷ rows) tag small has =
    let parts = and_parts (ltb row.0 256) (are_bytes rows) small in
    elim (eqb tag row.0) as (λ b. eqb tag row.0 ≡ b → (b || has_tag tag rows) ≡ true → IsByte tag) [
      | true ↦ λ same has. subst (λ (k : ℕ). IsByte k) (sym (eqb-true tag row.0 same)) (ltb-true row.0 256 parts.0)
      | false ↦ λ other has. tag_small rows tag parts.1 has
    ] refl has

module _ {B : Type 0} (Fits : B → Type 0) (tag_of : B → ℕ) (fields : B → List ℕ) where
  -- a value with this tag
  abbrev pub Tagged : ℕ → B → Type 0
  Tagged tag x = Fits x × (tag_of x ≡ tag)

  -- a row has the fields of the values with its tag
  abbrev pub IsRow : Row B → Type 0
  IsRow row = IsPart (Tagged row.0) fields row.1

  row_part : (rows : List (Row B)) → AllByRecursion IsRow rows → (p tag : ℕ) → ((x : B) → Tagged tag x → has_tag tag rows ≡ true) → IsPart (Tagged tag) fields (row_at rows p tag)
  row_part [] parts p tag some = no_part p (λ x tagged. no_row (some x tagged))
    where
      no_row : false ≡ true → ⊥
      no_row e = cc
  row_part (row ∷ rows) parts p tag some =
      choice (eqb tag row.0) row.1 (row_at rows p tag) (λ is. subst (λ (k : ℕ). IsPart (Tagged k) fields row.1) (sym (eqb-true tag row.0 is)) parts.0)
      (λ other. row_part rows parts.1 p tag (λ x tagged. ap (λ (b : Bool). b || has_tag tag rows) (sym other) ∙ some x tagged))

  pub tagged_part : (table : List (Row B)) → AllByRecursion IsRow table → are_bytes table ≡ true → ((x : B) → Fits x → has_tag (tag_of x) table ≡ true)
      → IsPart Fits (λ x. byte (tag_of x) ++ fields x) (tagged_at table)
  unfolding tagged_at
  tagged_part table parts small has =
      whole Fits (λ x. byte (tag_of x) ++ fields x)
      (then byte_part λ at tag _. one_part (row_part table parts at tag (λ x tagged. subst (λ (k : ℕ). has_tag k table ≡ true) tagged.1 (has x tagged.0))))
      (λ x fits. ((tag_of x, x), (tag_small table (tag_of x) small (has x fits), (fits, refl)), refl, refl))
      (λ p fits. (fits.1.0, ap (λ (tag : ℕ). byte tag ++ fields p.1) fits.1.1))

  -- the row of a value that is made of one part
  pub made_row : {A : Type 0} {FitsPart : A → Type 0} {spelling : A → List ℕ} {read : Input → Result (A × Input) FieldFault} (tag : ℕ) (make : A → B) → IsPart FitsPart spelling read
      → ((x : B) → Tagged tag x → (p : A) × FitsPart p × (make p ≡ x) × (fields x ≡ spelling p))
      → ((p : A) → FitsPart p → Tagged tag (make p) × (fields (make p) ≡ spelling p))
      → IsRow (tag, made_of make read)
  made_row tag make part split join = whole (Tagged tag) fields (last make part) split join

  -- the row of a value that has no field
  pub plain_row : (tag : ℕ) (x : B) → Tagged tag x → fields x ≡ [] → ((y : B) → Tagged tag y → x ≡ y) → IsRow (tag, plain x)
  plain_row tag x fits none only =
      whole (Tagged tag) fields (nothing x) (λ y tagged. let same = only y tagged in (tt, tt, same, ap fields (sym same) ∙ none)) (λ p _. (fits, none))
