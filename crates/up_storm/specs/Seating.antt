-- The sessions of a storm begin, end, and are taken in again. This project's own.
use Rattle.std.specs.Prelude.{◌≡◌, ℕ, ◌+◌, Bool, false, List, [], ◌∷◌, ◌++◌, length, map, slice_get, Some, Ok}
use Rattle.up_cell.specs.Known.{HasEvery}
use Rattle.up_entry.specs.declared.records.Rec.{Rec}
use Rattle.up_lists.specs.Begins.{Begins}
use Rattle.up_names.specs.UserNames.{user_of}
use Rattle.up_peer.specs.declared.loader.Loader.{Ghosts}
use Rattle.up_shared.specs.Sharing.{AreSeats, EachPair}
use Rattle.up_shared.specs.Splits.{AreBoth, AreFirsts, AreSeconds, SeatsAdd, SeenAlike}
use Rattle.up_shared.specs.declared.shared.Seats.{Seats}
use Rattle.up_shared.specs.declared.shared.Shared.{Shared}
use Rattle.up_shared.specs.declared.shared.TreeSeat.{TreeSeat}
use Rattle.up_storm.specs.Asked.{user_text}
use Rattle.up_storm.specs.Generator.{first_number}
use Rattle.up_storm.specs.Logs.{IsLogRead}
use Rattle.up_storm.specs.Sessions.{HasRun, Session, said_of}
use Rattle.up_storm.specs.Telling.{none_counted}
use Rattle.up_storm.specs.declared.logs.LogRead.{LogRead}
use Rattle.up_storm.specs.declared.plan.Plan.{Plan}
use Rattle.up_storm.specs.declared.session.Said.{Said}

module _ {D L : Type 0} where
  -- ---- its sessions begin

  -- session k has its user and the generator's first number, nobody to ask for groups of other owners, and has asked nothing yet
  pub record IsBegun (none : L) (seed k : ℕ) (v : Session D L) : Type 0 where
    pub user : user_of (user_text k) ≡ Ok v.user
    pub number : v.number ≡ first_number seed k
    pub peers : v.peers ≡ none
    pub text : v.text ≡ []
    pub tally : v.tally ≡ none_counted
    pub failed : v.failed ≡ false

  -- The sessions from k on were begun, one after the other: the seats of each were split off from those of the host's first caller, with
  -- a part of their shares. To the first caller these are left.
  abbrev pub AreBegun : L → ℕ → ℕ → Seats D → List (Session D L) → Seats D → Type 0
  AreBegun none seed k seats [] left = left ≡ seats
  AreBegun none seed k seats (v ∷ more) left =
      (rest : Seats D) × AreFirsts seats rest × AreSeconds seats v.seats × SeatsAdd rest v.seats seats
      × IsBegun none seed k v × AreBegun none seed (k + 1) rest more left

  -- one more session was begun behind the others
  pub record HasBegun (none : L) (shared : Shared D) (seed k : ℕ) (seats : Seats D)
      (before : List (Session D L)) (rest : Seats D) (after : List (Session D L)) : Type 0 where
    pub session : Session D L
    pub whole : after ≡ before ++ session ∷ []
    pub first : AreFirsts seats rest
    pub second : AreSeconds seats session.seats
    pub shares : SeatsAdd rest session.seats seats
    pub begun : IsBegun none seed k session
    pub sits : AreSeats shared session.seats

  -- ---- and end

  -- The seats of all sessions were taken in again, one after the other, with their shares. What a session had seen of a tree's log and what
  -- those before it had are one log.
  abbrev pub AreJoined : Seats D → List (Session D L) → Seats D → Type 0
  AreJoined seats [] all = all ≡ seats
  AreJoined seats (w ∷ more) all =
      (both : Seats D) × AreBoth seats w.seats both × SeatsAdd seats w.seats both
      × EachPair SeenAlike seats.trees.items w.seats.trees.items × AreJoined both more all

-- The log of the tree at a place was read through the joined seats, in a turn of their own: all that the cell then had. It begins with what
-- they had seen of it, and where they have the whole share, the records that were added to it since the host was shared are exactly
-- their own ones.
pub record IsRead {D : Type 0} (all : Seats D) (place : ℕ) (log : List Rec) : Type 0 where
  pub seat : TreeSeat D
  pub found : slice_get all.trees.items place ≡ Some seat
  pub begins : Begins seat.seat.seen log
  pub every : HasEvery seat.seat (length log)

-- a log was read through the joined seats, and what is printed of it was made
pub record HasRead {D : Type 0} (full : Bool) (all : Seats D) (place : ℕ) (read : LogRead) : Type 0 where
  pub log : List Rec
  pub is_read : IsRead all place log
  pub told : IsLogRead full log read

-- The sessions of a plan were begun, from the seats of the host's first caller. Each has run its requests, while the others ran theirs, and
-- ended with no fault. Their seats were joined, and what they say is left.
pub record HasEnded {D L : Type 0} (loader : Ghosts L) (none : L) (shared : Shared D)
    (plan : Plan) (seats all : Seats D) (said : List Said) : Type 0 where
  pub begun : List (Session D L)
  pub left : Seats D
  pub begins : AreBegun none plan.seed 0 seats begun left
  pub ended : List (Session D L)
  pub as_many : length begun ≡ plan.sessions
  pub all_ended : length ended ≡ plan.sessions
  pub ran : (k : ℕ) (v w : Session D L) → slice_get begun k ≡ Some v → slice_get ended k ≡ Some w
      → HasRun loader shared plan.full k plan.requests v w
  pub joins : AreJoined left ended all
  pub said_is : said ≡ map (λ (w : Session D L). said_of w) ended
