-- What makes a way to spell values in one field or several, and a way to read them, agree.
use Rattle.std.specs.Prelude.{◌≡◌, ◌≢◌, ◌↔◌, ℕ, ◌+◌, ◌<◌, List, [], ◌++◌, length, Result, Ok, Err}
use Rattle.up_bytes.specs.declared.fault.FieldFault.{FieldFault}
use Rattle.up_bytes.specs.declared.fault.FieldFault.TheVariants.{Short, Spelling}
use Rattle.up_bytes.specs.Input.{Input}
use Rattle.up_bytes.specs.Forms.{IsBytes, Takes, EndsWithin, IsNoSpelling}

-- the input with further bytes after it
abbrev pub longer : Input → List ℕ → Input
longer input more = record { size = input.size + length more; left = input.left ++ more }

-- Values of some fields, one after another, each with one spelling, and how they are read. A form is one of a single field.
pub record AreFields {A : Type 0} (Fits : A → Type 0) (spelling : A → List ℕ) (read : Input → Result (A × Input) FieldFault) : Type 0 where
  -- no value's spelling begins another's: what begins with the spellings of two values has one value and one rest
  pub alone : (x y : A) (r s : List ℕ) → Fits x → Fits y → spelling x ++ r ≡ spelling y ++ s → (x ≡ y) × (r ≡ s)
  -- what is spelled is read again, whatever follows it
  pub again : (x : A) (size : ℕ) (rest : List ℕ) → Fits x
      → read (record { size = size; left = spelling x ++ rest }) ≡ Ok (x, record { size = size; left = rest })
  -- what is read fits, and is spelled so
  pub takes : (old new : Input) (x : A) → IsBytes old.left → read old ≡ Ok (x, new) → Fits x × Takes old (spelling x) new
  -- an input that ends within a value's spelling is short
  pub short : (input : Input) → IsBytes input.left → EndsWithin Fits spelling input.left → read input ≡ Err Short
  -- what is misspelled begins no value's spelling, however it goes on
  pub misspelled : (input : Input) (p : ℕ) → IsBytes input.left → read input ≡ Err (Spelling p) → IsNoSpelling Fits spelling input.left
  -- the answer that a field is misspelled stays, with its place, whatever bytes follow
  pub stays : (input : Input) (more : List ℕ) (p : ℕ) → IsBytes input.left → IsBytes more
      → read input ≡ Err (Spelling p) → read (longer input more) ≡ Err (Spelling p)
  -- short is never the last answer: some further bytes after the input bring another
  pub answers : (input : Input) → IsBytes input.left → (more : List ℕ) × IsBytes more × (read (longer input more) ≢ Err Short)

-- Values that are each the whole of some bytes, and how they are read.
pub record AreMessages {A : Type 0} (Fits : A → Type 0) (spelling : A → List ℕ) (read : List ℕ → Result A FieldFault) : Type 0 where
  -- exactly the spellings are read, each as the value that it is of
  pub exact : (bytes : List ℕ) (x : A) → IsBytes bytes → (read bytes ≡ Ok x) ↔ (Fits x × (bytes ≡ spelling x))
  -- no value's spelling begins another's
  pub alone : (x y : A) (more : List ℕ) → Fits x → Fits y → spelling x ++ more ≡ spelling y → (x ≡ y) × (more ≡ [])
  -- a spelling that is cut is short
  pub short : (bytes more : List ℕ) (x : A) → IsBytes bytes → Fits x → 0 < length more → bytes ++ more ≡ spelling x → read bytes ≡ Err Short
  -- what is misspelled begins no value's spelling, however it goes on, and that answer stays, with its place, whatever follows
  pub misspelled : (bytes more : List ℕ) (p : ℕ) (x : A) → IsBytes bytes
      → read bytes ≡ Err (Spelling p) → Fits x → bytes ++ more ≡ spelling x → ⊥
  pub stays : (bytes more : List ℕ) (p : ℕ) → IsBytes bytes → IsBytes more
      → read bytes ≡ Err (Spelling p) → read (bytes ++ more) ≡ Err (Spelling p)
  -- short is never the last answer: some further bytes bring another
  pub answers : (bytes : List ℕ) → IsBytes bytes → (more : List ℕ) × IsBytes more × (read (bytes ++ more) ≢ Err Short)
