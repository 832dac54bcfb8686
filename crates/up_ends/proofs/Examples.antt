-- Worked examples of the definitions.
use Rattle.std.proofs.Common.{◌≡◌, [], ◌∷◌, refl}
use Rattle.up_lists.specs.Calls.{no_call_made}
use Rattle.up_ends.specs.Sources.{MemInput, piece_of, read_size, after_read, after_failed_read}

piece_within_the_room : piece_of (4 ∷ 1 ∷ []) 9 ≡ 4
piece_within_the_room = refl

piece_of_0_is_1 : piece_of (0 ∷ []) 9 ≡ 1
piece_of_0_is_1 = refl

piece_beyond_the_room : piece_of (40 ∷ []) 9 ≡ 9
piece_beyond_the_room = refl

no_piece_left : piece_of [] 9 ≡ 9
no_piece_left = refl

empty_buffer : piece_of (4 ∷ []) 0 ≡ 0
empty_buffer = refl

abbrev five : MemInput
five = record { left = 1 ∷ 2 ∷ 3 ∷ 4 ∷ 5 ∷ []; pieces = 2 ∷ 0 ∷ []; given = 0; plan = no_call_made (1 ∷ []) }

read_of_a_piece : read_size five 9 ≡ 2
read_of_a_piece = refl

after_that_read : after_read five 2 ≡ record { left = 3 ∷ 4 ∷ 5 ∷ []; pieces = 0 ∷ []; given = 2; plan = record { fails = 1 ∷ []; made = 1; faults = 0 } }
after_that_read = refl

failed_read_uses_no_piece : after_failed_read five ≡ record five { plan = record { fails = 1 ∷ []; made = 1; faults = 1 } }
failed_read_uses_no_piece = refl
