-- Bytes, cut into pieces.
use Rattle.std.proofs.Common.{◌≡◌, ◌≤◌, ◌<◌, ℕ, suc, zero, ◌-◌, List, [], ◌∷◌, length, take, drop, refl, ap, length-drop, arith}
use Rattle.up_client.specs.Putting.{block_size, pieces_in, pieces_of}

-- what is left behind a piece is less
fewer : (size k : ℕ) (bytes : List ℕ) → 0 < size → length bytes ≤ suc k → length (drop size bytes) ≤ k
fewer size k bytes big le = let long : length (drop size bytes) ≡ length bytes - size = length-drop size bytes in omega (arith, long, big, le)

-- how many pieces there may be does not matter where there may be enough
pieces_enough : (n m : ℕ) (bytes : List ℕ) → length bytes ≤ n → length bytes ≤ m → pieces_in n bytes ≡ pieces_in m bytes
pieces_enough zero zero bytes one two = refl
pieces_enough zero (suc m) [] one two = refl
pieces_enough zero (suc m) (b ∷ bytes) one two = absurd (omega (arith, one))
pieces_enough (suc n) zero [] one two = refl
pieces_enough (suc n) zero (b ∷ bytes) one two = absurd (omega (arith, two))
pieces_enough (suc n) (suc m) [] one two = refl
pieces_enough (suc n) (suc m) (b ∷ bytes) one two =
    ap (λ rest. take block_size (b ∷ bytes) ∷ rest)
    (pieces_enough n m (drop block_size (b ∷ bytes)) (fewer block_size n (b ∷ bytes) (omega arith) one) (fewer block_size m (b ∷ bytes) (omega arith) two))

same_le : (n : ℕ) → n ≤ n
same_le n = omega arith

-- the first piece, and those of what is behind it
pub pieces_step : (bytes : List ℕ) → 0 < length bytes → pieces_of bytes ≡ take block_size bytes ∷ pieces_of (drop block_size bytes)
pieces_step [] some = absurd (omega (arith, some))
pieces_step (b ∷ bytes) some =
    ap (λ rest. take block_size (b ∷ bytes) ∷ rest)
    (pieces_enough (length bytes) (length (drop block_size (b ∷ bytes))) (drop block_size (b ∷ bytes)) (fewer block_size (length bytes) (b ∷ bytes) (omega arith) (same_le (suc (length bytes)))) (same_le (length (drop block_size (b ∷ bytes)))))
