-- A long list that is kept in pieces. This project's own.
use Rattle.std.specs.Prelude.{◌≡◌, ℕ, zero, suc, ◌+◌, ◌<◌, ◌^◌, Bool, List, [], ◌∷◌, ◌++◌, length, get_or, Option, Some}
use Rattle.std.specs.List.{slice_get}

-- what contracts see of such a list: its items, and whether the next insert takes no memory
pub record ReadyList (T : Type 0) : Type 0 where
  pub items : List T
  pub ready : Bool

-- what a test answers of the item at a place, if there is one
abbrev pub IsAt : {X : Type 0} → (X → Bool) → Bool → List X → ℕ → Type 0
IsAt {X} test answer items i = (item : X) → slice_get items i ≡ Some item → test item ≡ answer

-- the pieces, one after another
abbrev pub joined : {X : Type 0} → List (List X) → List X
joined [] = []
joined (piece ∷ rest) = piece ++ joined rest

-- how many items stand before the k-th piece
abbrev pub before : {X : Type 0} → List (List X) → ℕ → ℕ
before pieces zero = 0
before [] (suc k) = 0
before (piece ∷ rest) (suc k) = length piece + before rest k

-- the place of each piece's first item is kept beside the pieces, and no piece is empty
pub record Placed {X : Type 0} (pieces : List (List X)) (starts : List ℕ) : Type 0 where
  pub same : length starts ≡ length pieces
  pub at : (k : ℕ) → k < length pieces → get_or starts k 0 ≡ before pieces k
  pub filled : (k : ℕ) → k < length pieces → 0 < length (get_or pieces k [])

-- there is an empty piece, and room to put it among the others
pub record HasSpare {X : Type 0} (spare : Option (List X)) (pieces room starts places count : ℕ) : Type 0 where
  pub piece : spare ≡ Some []
  pub room_for_it : pieces < room
  pub place_for_it : starts < places
  pub small : count < 2 ^ 48
