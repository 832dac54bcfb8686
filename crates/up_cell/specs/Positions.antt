-- Positions of entries, counted from 1, and lists of them. This project's own.
use Rattle.std.specs.Prelude.{ℕ, zero, suc, ◌+◌, ◌-◌, ◌<◌, if◌then◌else◌, nat_lt, ◌==◌, List, [], ◌∷◌}

-- the k positions above n
abbrev pub positions : ℕ → ℕ → List ℕ
positions n zero = []
positions n (suc k) = (n + 1) ∷ positions (n + 1) k

-- the positions above n and up to m
abbrev pub between : ℕ → ℕ → List ℕ
between n m = positions n (m - n)

-- 1 where the position is above n, and else 0
abbrev pub above : ℕ → ℕ → ℕ
above n x = if nat_lt n x then 1 else 0

-- how often x stands in a list
abbrev pub times : ℕ → List ℕ → ℕ
times x [] = 0
times x (y ∷ ys) = (if y == x then 1 else 0) + times x ys

-- each position is below those behind it
abbrev pub Rising : List ℕ → Type 0
Rising [] = Unit {0}
Rising (x ∷ xs) = ((y : ℕ) → 0 < times y xs → x < y) × Rising xs

-- the list with y put in its order
abbrev pub insert : ℕ → List ℕ → List ℕ
insert y [] = y ∷ []
insert y (x ∷ xs) = if nat_lt y x then y ∷ x ∷ xs else x ∷ insert y xs

-- the positions of both lists, in order
abbrev pub merged : List ℕ → List ℕ → List ℕ
merged [] ys = ys
merged (x ∷ xs) ys = insert x (merged xs ys)

-- what is counted of each, added up
abbrev pub total : {A : Type 0} → (A → ℕ) → List A → ℕ
total f [] = 0
total f (x ∷ xs) = f x + total f xs
