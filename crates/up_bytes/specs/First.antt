-- What fails first where a value is read: its first field, or a tag and the first field after it. Such a fault is answered before
-- any memory is asked for, whatever the field announces. This project's own.
use Rattle.std.specs.Prelude.{◌≡◌, ◌==◌, ◌⊎◌, ℕ, suc, Bool, true, false, List, [], ◌∷◌, Result, Ok, Err}
use Rattle.up_bytes.specs.declared.fault.FieldFault.{FieldFault}
use Rattle.up_bytes.specs.Input.{Input}
use Rattle.up_bytes.specs.Reading.{byte_at, num_at}

-- the field is refused for this
abbrev pub fails_at : {A : Type 0} → (Input → Result (A × Input) FieldFault) → Input → FieldFault → Type 0
fails_at read input fault = read input ≡ Err fault

-- there is no field, and so none that fails
abbrev pub never : Input → FieldFault → Type 0
never input fault = ⊥

-- a list has a first value, in which this fails
pub record FirstFails (fails : Input → FieldFault → Type 0) (input : Input) (fault : FieldFault) : Type 0 where
  pub others : ℕ
  pub rest : Input
  pub count : num_at input ≡ Ok (suc others, rest)
  pub first : fails rest fault

-- the number of a list's values is refused, or its first value
abbrev pub list_fails : (Input → FieldFault → Type 0) → Input → FieldFault → Type 0
list_fails fails input fault = (num_at input ≡ Err fault) ⊎ FirstFails fails input fault

-- what fails first after a tag, by a table
abbrev pub if_tag : Bool → Type 0 → Type 0 → Type 0
if_tag true here others = here
if_tag false here others = others

-- what fails first after a tag, by the table's first row with that tag; a tag that the table has not has no such fault
abbrev pub row_fails : List (ℕ × (Input → FieldFault → Type 0)) → ℕ → Input → FieldFault → Type 0
row_fails [] tag input fault = ⊥
row_fails (row ∷ rows) tag input fault = if_tag (tag == row.0) (row.1 input fault) (row_fails rows tag input fault)

-- there is a tag, and what fails first after it fails
pub record BehindFails (rows : List (ℕ × (Input → FieldFault → Type 0))) (input : Input) (fault : FieldFault) : Type 0 where
  pub tag : ℕ
  pub rest : Input
  pub byte : byte_at input ≡ Ok (tag, rest)
  pub fails : row_fails rows tag rest fault

-- the tag is refused, or the first field that the table has after it
abbrev pub tagged_fails : List (ℕ × (Input → FieldFault → Type 0)) → Input → FieldFault → Type 0
tagged_fails rows input fault = (byte_at input ≡ Err fault) ⊎ BehindFails rows input fault

-- a fault that comes first is answered, however much memory there is
abbrev pub IsFirst : {X : Type 0} → (FieldFault → Type 0) → Result X FieldFault → Type 0
IsFirst fails result = (fault : FieldFault) → fails fault → result ≡ Err fault
