-- Streams and how they read.
use Rattle.std.proofs.Common.{◌≡◌, [], ◌∷◌, Some, None, refl, inl, inr, lit≤}
use Rattle.up_frame.specs.Stream.{frame, told, Reads}

-- a frame of two bytes
two : frame (0x68 ∷ 0x69 ∷ []) ≡ 0 ∷ 0 ∷ 0 ∷ 2 ∷ 0x68 ∷ 0x69 ∷ []
unfolding frame
two = refl

-- the high byte comes first
five_hundred : told (0 ∷ 0 ∷ 0x01 ∷ 0xF4 ∷ 7 ∷ []) ≡ 500
unfolding told
five_hundred = refl

-- a frame, and the head of another with one of its three bytes
frame_and_rest : Reads 10 (0 ∷ 0 ∷ 0 ∷ 1 ∷ 7 ∷ 0 ∷ 0 ∷ 0 ∷ 3 ∷ 8 ∷ []) ((7 ∷ []) ∷ []) (0 ∷ 0 ∷ 0 ∷ 3 ∷ 8 ∷ []) None
unfolding frame told
frame_and_rest = record { whole = refl; each = (record { some = lit≤ tt; most = lit≤ tt; counted = lit≤ tt }, tt); partial = inr (record { some = lit≤ tt; most = lit≤ tt; wanting = lit≤ tt }) }

-- a frame, and at byte 5 one of length 0
bad_after_one : Reads 10 (0 ∷ 0 ∷ 0 ∷ 1 ∷ 7 ∷ 0 ∷ 0 ∷ 0 ∷ 0 ∷ 8 ∷ []) ((7 ∷ []) ∷ []) [] (Some 5)
unfolding frame told
bad_after_one = (record { tail = 0 ∷ 0 ∷ 0 ∷ 0 ∷ 8 ∷ []; whole = refl; each = (record { some = lit≤ tt; most = lit≤ tt; counted = lit≤ tt }, tt); bad = (lit≤ tt, inl refl); before = refl }, refl)

-- a length of 11 where the limit is 10
over_the_limit : Reads 10 (0 ∷ 0 ∷ 0 ∷ 11 ∷ []) [] [] (Some 0)
unfolding told
over_the_limit = (record { tail = 0 ∷ 0 ∷ 0 ∷ 11 ∷ []; whole = refl; each = tt; bad = (lit≤ tt, inr (lit≤ tt)); before = refl }, refl)
