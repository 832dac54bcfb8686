-- Callers of a shared host, by the seats that they hold: they ask, split and join, in any order. This project's own.
use Rattle.std.specs.Prelude.{◌≡◌, ℕ, zero, suc, List, [], ◌∷◌, ◌++◌}
use Rattle.std.specs.List.{AllByRecursion}
use Rattle.up_cell.specs.Known.{HasEvery, Known, looked_of}
use Rattle.up_cell.specs.Positions.{between}
use Rattle.up_shared.specs.Sharing.{SeatsLater}
use Rattle.up_shared.specs.Splits.{AreWhole, SeatsAdd}
use Rattle.up_shared.specs.declared.shared.Seats.{Seats}

-- once a seat has looked at the count of its cell, its own positions are all above the base and up to that count
pub record HasAll {E F : Type 0} (v : Known E F) : Type 0 where
  pub look : (n : ℕ) → HasEvery (looked_of v n) n → (looked_of v n).own ≡ between v.base n

module _ {D : Type 0} where
  -- once any seat of a caller has looked at the count of its cell, its own positions are all above the base and up to that count
  pub record HaveAll (seats : Seats D) : Type 0 where
    pub trees : AllByRecursion (λ place. HasAll place.seat) seats.trees.items
    pub store : HasAll seats.store
    pub keys : HasAll seats.keys

  -- one caller's seats among those that all callers hold, and the seats of the others
  pub record Among (seats : Seats D) (all others : List (Seats D)) : Type 0 where
    pub front : List (Seats D)
    pub back : List (Seats D)
    pub all_is : all ≡ front ++ seats ∷ back
    pub others_is : others ≡ front ++ back

  -- One of the callers made a call; or split its seats, for one caller more; or joined another's seats to its own. All others keep theirs.
  pub data Step (all after : List (Seats D)) : Type 0 where
    Calls : (a b : Seats D) (others : List (Seats D)) → Among a all others → Among b after others → SeatsLater a b → Step all after
    Splits : (a one other : Seats D) (others : List (Seats D)) → Among a all others
        → after ≡ one ∷ other ∷ others → SeatsAdd one other a → Step all after
    Joins : (one other both : Seats D) (rest others : List (Seats D)) → Among one all rest
        → Among other rest others → after ≡ both ∷ others → SeatsAdd one other both → Step all after

  -- so many steps, one after the other
  abbrev pub Steps : ℕ → List (Seats D) → List (Seats D) → Type 0
  Steps zero all after = after ≡ all
  Steps (suc n) all after = (next : List (Seats D)) × (Step all next × Steps n next after)

-- The seats with which a host was shared have the whole share of each cell. Whatever its callers did, once one of them holds all seats
-- again, these have the whole share of each, and one look shows all positions of each log as their own.
abbrev pub SharesComeTogether : Type 0 → Type 0
SharesComeTogether D = (first last : Seats D) (n : ℕ) → AreWhole first → Steps n (first ∷ []) (last ∷ []) → AreWhole last × HaveAll last
