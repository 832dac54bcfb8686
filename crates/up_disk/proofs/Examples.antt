-- The eight images of one state: the bytes 1, 2, 3, 4 are synced, and then 7, 8, 9, 10, 11 are written at place 1.
use Rattle.std.proofs.Common.{◌≡◌, ℕ, List, [], ◌∷◌, refl}
use Rattle.up_disk.specs.Image.{landed_write, landing_of}

image : ℕ → List ℕ
image choice = landed_write (landing_of choice) 1 (7 ∷ 8 ∷ 9 ∷ 10 ∷ 11 ∷ []) (1 ∷ 2 ∷ 3 ∷ 4 ∷ [])

nothing_has_landed : image 0 ≡ 1 ∷ 2 ∷ 3 ∷ 4 ∷ []
unfolding image
nothing_has_landed = refl

all_has_landed : image 1 ≡ 1 ∷ 7 ∷ 8 ∷ 9 ∷ 10 ∷ 11 ∷ []
unfolding image
all_has_landed = refl

the_front_half_has_landed : image 2 ≡ 1 ∷ 7 ∷ 8 ∷ 4 ∷ []
unfolding image
the_front_half_has_landed = refl

the_back_half_has_landed : image 3 ≡ 1 ∷ 2 ∷ 3 ∷ 9 ∷ 10 ∷ 11 ∷ []
unfolding image
the_back_half_has_landed = refl

ones_stand_there : image 4 ≡ 1 ∷ 1 ∷ 1 ∷ 1 ∷ 1 ∷ 1 ∷ []
unfolding image
ones_stand_there = refl

all_bits_stand_there : image 5 ≡ 1 ∷ 255 ∷ 255 ∷ 255 ∷ 255 ∷ 255 ∷ []
unfolding image
all_bits_stand_there = refl

the_size_stayed : image 6 ≡ 1 ∷ 7 ∷ 8 ∷ 9 ∷ []
unfolding image
the_size_stayed = refl

only_the_size_grew : image 7 ≡ 1 ∷ 2 ∷ 3 ∷ 4 ∷ 0 ∷ 0 ∷ []
unfolding image
only_the_size_grew = refl

choices_go_on_from_the_first : image 13 ≡ image 5
unfolding image
choices_go_on_from_the_first = refl
