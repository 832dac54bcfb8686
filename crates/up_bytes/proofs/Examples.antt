-- Spellings, and what is read at the front of bytes, on examples.
use Rattle.std.proofs.Common.{◌≡◌, ℕ, ◌^◌, ◌-◌, List, [], ◌∷◌, ◌++◌, Result, Ok, Err, refl}
use Rattle.std.specs.Prelude.{pos, negsuc, codes}
use Rattle.up_bytes.specs.declared.fault.FieldFault.{FieldFault}
use Rattle.up_bytes.specs.declared.fault.FieldFault.TheVariants.{Short, Spelling}
use Rattle.up_bytes.specs.Num.{num}
use Rattle.up_bytes.specs.Input.{Input}
use Rattle.up_bytes.specs.Spelling.{byte, int, text}
use Rattle.up_bytes.specs.Reading.{num_at, int_at, text_at}

three_hundred : num 300 ≡ 0xAC ∷ 0x02 ∷ []
unfolding num
three_hundred = refl

nothing : num 0 ≡ 0 ∷ []
unfolding num
nothing = refl

greatest : num (2 ^ 64 - 1) ≡ 0xFF ∷ 0xFF ∷ 0xFF ∷ 0xFF ∷ 0xFF ∷ 0xFF ∷ 0xFF ∷ 0xFF ∷ 0xFF ∷ 0x01 ∷ []
unfolding num
greatest = refl

minus_one : int (negsuc 0) ≡ 0x01 ∷ []
unfolding num
minus_one = refl

hundred : int (pos 100) ≡ 0xC8 ∷ 0x01 ∷ []
unfolding num
hundred = refl

-- the record that deletes ann@a.example/f has 17 bytes
deletes : byte 2 ++ text (codes "ann@a.example/f") ≡ 0x02 ∷ 0x0F ∷ 0x61 ∷ 0x6E ∷ 0x6E ∷ 0x40 ∷ 0x61 ∷ 0x2E ∷ 0x65 ∷ 0x78 ∷ 0x61 ∷ 0x6D ∷ 0x70 ∷ 0x6C ∷ 0x65 ∷ 0x2F ∷ 0x66 ∷ []
unfolding num
deletes = refl

-- ---- reading, four bytes on in an input

abbrev reads : {A : Type 0} → A → List ℕ → Result (A × Input) FieldFault
reads x rest = Ok (x, record { size = 100; left = rest })

number_and_rest : num_at (record { size = 100; left = 0xAC ∷ 0x02 ∷ 0x07 ∷ [] }) ≡ reads 300 (0x07 ∷ [])
unfolding num_at
number_and_rest = refl

last_byte_zero : num_at (record { size = 6; left = 0x8D ∷ 0x00 ∷ [] }) ≡ Err (Spelling 4)
unfolding num_at
last_byte_zero = refl

tenth_byte_two : num_at (record { size = 14; left = 0x80 ∷ 0x80 ∷ 0x80 ∷ 0x80 ∷ 0x80 ∷ 0x80 ∷ 0x80 ∷ 0x80 ∷ 0x80 ∷ 0x02 ∷ [] }) ≡ Err (Spelling 4)
unfolding num_at
tenth_byte_two = refl

eleventh_byte : num_at (record { size = 15; left = 0x80 ∷ 0x80 ∷ 0x80 ∷ 0x80 ∷ 0x80 ∷ 0x80 ∷ 0x80 ∷ 0x80 ∷ 0x80 ∷ 0x80 ∷ 0x01 ∷ [] }) ≡ Err (Spelling 4)
unfolding num_at
eleventh_byte = refl

-- a tenth byte from 128 on is above 01, whether or not the input ends there
tenth_byte_goes_on : num_at (record { size = 14; left = 0x80 ∷ 0x80 ∷ 0x80 ∷ 0x80 ∷ 0x80 ∷ 0x80 ∷ 0x80 ∷ 0x80 ∷ 0x80 ∷ 0x80 ∷ [] }) ≡ Err (Spelling 4)
unfolding num_at
tenth_byte_goes_on = refl

ends_after_nine : num_at (record { size = 13; left = 0x80 ∷ 0x80 ∷ 0x80 ∷ 0x80 ∷ 0x80 ∷ 0x80 ∷ 0x80 ∷ 0x80 ∷ 0x80 ∷ [] }) ≡ Err Short
unfolding num_at
ends_after_nine = refl

no_byte : num_at (record { size = 4; left = [] }) ≡ Err Short
unfolding num_at
no_byte = refl

below_zero : int_at (record { size = 100; left = 0x01 ∷ [] }) ≡ reads (negsuc 0) []
unfolding int_at num_at
below_zero = refl

two_letters : text_at (record { size = 100; left = 0x02 ∷ 0x68 ∷ 0x69 ∷ 0x07 ∷ [] }) ≡ reads (codes "hi") (0x07 ∷ [])
unfolding text_at num_at
two_letters = refl

-- a text that announces 2 ^ 60 bytes in a short input
announces_too_much : text_at (record { size = 14; left = num (2 ^ 60) ++ 0x68 ∷ [] }) ≡ Err Short
unfolding text_at num_at num
announces_too_much = refl

-- the length of a text in a second spelling
length_spelled_otherwise : text_at (record { size = 6; left = 0x8D ∷ 0x00 ∷ [] }) ≡ Err (Spelling 4)
unfolding text_at num_at
length_spelled_otherwise = refl
