-- What makes a way to spell values and a way to read them one form.
use Rattle.std.specs.Prelude.{◌≡◌, ℕ, ◌<◌, ◌↔◌, List, ◌++◌, length, slice_index, Result, Ok, Err}
use Rattle.up_bytes.specs.declared.fault.FieldFault.{FieldFault}
use Rattle.up_bytes.specs.declared.fault.FieldFault.TheVariants.{Short, Spelling}
use Rattle.up_bytes.specs.Input.{Input, place}

-- each number of the list is a byte
abbrev pub IsBytes : List ℕ → Type 0
IsBytes bytes = (i : ℕ) → slice_index bytes i < 256

-- of what was left, these bytes were taken from the front, and the rest is left now
pub record Takes (old : Input) (taken : List ℕ) (new : Input) : Type 0 where
  pub parts : old.left ≡ taken ++ new.left
  pub size : new.size ≡ old.size
  pub bytes : IsBytes new.left

-- the input ends within a value's spelling: some further bytes, one at least, would make it whole
abbrev pub EndsWithin : {A : Type 0} → (A → Type 0) → (A → List ℕ) → List ℕ → Type 0
EndsWithin {A} Fits spelling left = (x : A) × (more : List ℕ) × Fits x × (0 < length more) × (left ++ more ≡ spelling x)

-- no value's spelling begins here, however the input goes on
abbrev pub IsNoSpelling : {A : Type 0} → (A → Type 0) → (A → List ℕ) → List ℕ → Type 0
IsNoSpelling {A} Fits spelling left = (x : A) (more rest : List ℕ) → Fits x → left ++ more ≡ spelling x ++ rest → ⊥

-- A form of the values that fit: the one spelling of each, and how it is read.
pub record IsForm {A : Type 0} (Fits : A → Type 0) (spelling : A → List ℕ) (read : Input → Result (A × Input) FieldFault) : Type 0 where
  -- no value's spelling begins another's: what begins with the spellings of two values has one value and one rest
  pub alone : (x y : A) (r s : List ℕ) → Fits x → Fits y → spelling x ++ r ≡ spelling y ++ s → (x ≡ y) × (r ≡ s)
  -- what is spelled is read again, whatever follows it
  pub again : (x : A) (size : ℕ) (rest : List ℕ) → Fits x
      → read (record { size = size; left = spelling x ++ rest }) ≡ Ok (x, record { size = size; left = rest })
  -- what is read fits, and is spelled so
  pub takes : (old new : Input) (x : A) → IsBytes old.left → read old ≡ Ok (x, new) → Fits x × Takes old (spelling x) new
  -- short exactly where the input ends within the value
  pub short : (input : Input) → IsBytes input.left → (read input ≡ Err Short) ↔ EndsWithin Fits spelling input.left
  -- misspelled exactly where no spelling begins, and the fault names that place
  pub misspelled : (input : Input) (p : ℕ) → IsBytes input.left
      → (read input ≡ Err (Spelling p)) ↔ ((p ≡ place input) × IsNoSpelling Fits spelling input.left)
