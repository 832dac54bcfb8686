-- Reading a field at the front of what is left: its value and what is left after it, or the fault. Short is the
-- fault where the input ends within the field, and Spelling with the field's place where no spelling begins there.
use Rattle.std.specs.Prelude.{◌≡◌, ◌≢◌, ℕ, zero, suc, ℤ, List, [], ◌∷◌, length, take, Option, Some, None}
use Rattle.std.specs.Prelude.{Result, Ok, Err, nat_lt, ◌==◌, slice_index, if◌then◌else◌}
use Rattle.up_bytes.specs.declared.fault.FieldFault.{FieldFault}
use Rattle.up_bytes.specs.declared.fault.FieldFault.TheVariants.{Short, Spelling, OutOfMemory}
use Rattle.up_bytes.specs.Num.{num_bytes, is_ended, is_misspelled, number}
use Rattle.up_bytes.specs.Input.{Input, place, past}
use Rattle.up_bytes.specs.Spelling.{from_zigzag}

infixl 10 ◌>>=◌
-- one field after another, up to the first fault
abbrev pub ◌>>=◌ : {A B : Type 0} → Result A FieldFault → (A → Result B FieldFault) → Result B FieldFault
(Ok x) >>= f = f x
(Err e) >>= f = Err e

-- what a call answered, seen by view, is what is meant
abbrev pub Answers : {X Y : Type 0} → (X → Y) → Result X FieldFault → Result Y FieldFault → Type 0
Answers view (Ok x) meant = meant ≡ Ok (view x)
Answers view (Err e) meant = meant ≡ Err e

-- A call that takes memory gives what is meant, seen by `view`, or the fault that is meant; or it finds no memory.
abbrev pub Gives : {X Y : Type 0} → (X → Y) → Result X FieldFault → Result Y FieldFault → Type 0
Gives view (Ok x) meant = meant ≡ Ok (view x)
Gives view (Err e) meant = e ≢ OutOfMemory → meant ≡ Err e

-- where a fault is meant, it is answered, however much memory there is
abbrev pub FaultFirst : {X Y : Type 0} → Result Y FieldFault → Result X FieldFault → Type 0
FaultFirst meant result = (fault : FieldFault) → meant ≡ Err fault → result ≡ Err fault

-- n bytes as they stand
abbrev pub bytes_at : ℕ → Input → Result (List ℕ × Input) FieldFault
bytes_at n input = if nat_lt (length input.left) n then Err Short else Ok (take n input.left, past n input)

-- one byte
abbrev pub byte_at : Input → Result (ℕ × Input) FieldFault
byte_at input = if length input.left == 0 then Err Short else Ok (slice_index input.left 0, past 1 input)

-- a number below 2^64 in its shortest form
unfoldable pub num_at : Input → Result (ℕ × Input) FieldFault
num_at input =
    let front = num_bytes input.left in
    if is_misspelled front then Err (Spelling (place input))
    else (if is_ended front then Ok (number front, past (length front) input) else Err Short)

-- a signed number of 64 bits
unfoldable pub int_at : Input → Result (ℤ × Input) FieldFault
int_at input = do
  n ← num_at input
  Ok (from_zigzag n.0, n.1)

-- a text: its length, and then its bytes
unfoldable pub text_at : Input → Result (List ℕ × Input) FieldFault
text_at input = do
  n ← num_at input
  bytes_at n.0 n.1

-- so many values, one after another
unfoldable pub items_at : {A : Type 0} → (Input → Result (A × Input) FieldFault) → ℕ → Input → Result (List A × Input) FieldFault
items_at read zero input = Ok ([], input)
items_at read (suc n) input = do
  first ← read input
  others ← items_at read n first.1
  Ok (first.0 ∷ others.0, others.1)

-- a list: the number of its values, and then each
unfoldable pub list_at : {A : Type 0} → (Input → Result (A × Input) FieldFault) → Input → Result (List A × Input) FieldFault
list_at read input = do
  count ← num_at input
  items_at read count.0 count.1

-- the value that a field's bytes stand for, or no spelling at the field's place
abbrev pub known : {A : Type 0} → ℕ → Option A → Input → Result (A × Input) FieldFault
known place (Some value) rest = Ok (value, rest)
known place None rest = Err (Spelling place)

-- the value that is made of one part, once that is read
abbrev pub made : {A B : Type 0} → (A → B) → A × Input → Result (B × Input) FieldFault
made make x = Ok (make x.0, x.1)

-- the value that is made of one part
abbrev pub made_of : {A B : Type 0} → (A → B) → (Input → Result (A × Input) FieldFault) → Input → Result (B × Input) FieldFault
made_of make read input = read input >>= made make

-- this value, which has no field
abbrev pub plain : {A : Type 0} → A → Input → Result (A × Input) FieldFault
plain x input = Ok (x, input)

-- what stands after a tag, by a table: the fields of the first row with that tag, or no spelling at the tag's place
abbrev pub row_at : {A : Type 0} → List (ℕ × (Input → Result (A × Input) FieldFault)) → ℕ → ℕ → Input → Result (A × Input) FieldFault
row_at [] place tag input = Err (Spelling place)
row_at (row ∷ rows) place tag input = if tag == row.0 then row.1 input else row_at rows place tag input

-- a byte, and the fields that the table has after it
unfoldable pub tagged_at : {A : Type 0} → List (ℕ × (Input → Result (A × Input) FieldFault)) → Input → Result (A × Input) FieldFault
tagged_at table input = do
  tag ← byte_at input
  row_at table (place input) tag.0 tag.1

-- the input that is all of these bytes
abbrev pub from_start : List ℕ → Input
from_start bytes = record { size = length bytes; left = bytes }

-- the value that is the whole of these bytes: a byte after its last field is Spelling with that byte's place
unfoldable pub whole_of : {A : Type 0} → (Input → Result (A × Input) FieldFault) → List ℕ → Result A FieldFault
whole_of read bytes = do
  found ← read (from_start bytes)
  if length found.1.left == 0 then Ok found.0 else Err (Spelling (place found.1))
