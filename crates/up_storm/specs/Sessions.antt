-- The sessions of a storm: what one call of a session is, and a run of them. This project's own.
use Rattle.std.specs.Prelude.{◌≡◌, ℕ, zero, suc, Bool, true, false, ◌++◌}
use Rattle.up_calls.specs.Alike.{TellsNoMore}
use Rattle.up_calls.specs.Answered.{Leaves, LoadsInRounds, Risen}
use Rattle.up_calls.specs.Calls.{Asked}
use Rattle.up_calls.specs.Routes.{Question}
use Rattle.up_calls.specs.declared.event.Event.{Event}
use Rattle.up_names.specs.Texts.{Text, UserName}
use Rattle.up_peer.specs.declared.loader.Loader.{Ghosts}
use Rattle.up_shared.specs.Sharing.{HasFailed, HasLooked, SeatsLater, views_of}
use Rattle.up_shared.specs.declared.shared.Seats.{Seats}
use Rattle.up_shared.specs.declared.shared.Shared.{Shared}
use Rattle.up_storm.specs.Asked.{request_of}
use Rattle.up_storm.specs.Generator.{drawn_of, next_number}
use Rattle.up_storm.specs.Telling.{counted, told}
use Rattle.up_storm.specs.declared.session.Said.{Said}
use Rattle.up_storm.specs.declared.tally.Tally.{Tally}
use Rattle.up_wire.specs.declared.replies.Reply.{Reply}
use Rattle.up_wire.specs.declared.replies.Reply.TheVariants as reply

-- a disk failed, or memory was wanting: the storm ends, and nothing is printed
abbrev pub is_fault : Reply → Bool
is_fault reply.Io = true
is_fault reply.OutOfMemory = true
is_fault other = false

-- One session: its seats at the host, whom it asks for groups of other owners, its user, the number from which its next request is drawn,
-- what it will print, its replies by their kinds, and whether a disk failed it or memory was wanting.
pub record Session (D L : Type 0) : Type 0 where
  pub seats : Seats D
  pub peers : L
  pub user : UserName
  pub number : ℕ
  pub text : Text
  pub tally : Tally
  pub failed : Bool

-- what a session says once it has ended
abbrev pub said_of : {D L : Type 0} → Session D L → Said
said_of w = record { text = w.text; tally = w.tally }

module _ {D L : Type 0} (loader : Ghosts L) (shared : Shared D) where
  -- A caller's request was answered at one point of its log, not before anything that its seats had seen of it, at moment 0.
  pub record IsAnswered (a : Seats D) (old : L) (q : Question) (event : Event) (b : Seats D) (new : L) : Type 0 where
    pub asked : Asked loader shared.operator (views_of a) old q event (views_of b) new
    pub looked : Leaves (λ log n. HasLooked log n a b) (views_of a) q event
    pub risen : Risen (λ log. HasFailed log a b) (loader.faults old) (loader.faults new) q event
    pub rounds : LoadsInRounds (views_of a) (views_of b) q event
    pub alike : TellsNoMore (views_of b) q event
    pub later : SeatsLater a b
    pub moment : event.moment ≡ 0

  -- Session k asked its next request: that which the generator's next number draws. No disk failed, and what is printed of it and how the
  -- reply is counted is told.
  pub record HasAsked (full : Bool) (k : ℕ) (v w : Session D L) : Type 0 where
    pub event : Event
    pub answered : IsAnswered v.seats v.peers
        (record { user = v.user; request = request_of k (drawn_of (next_number v.number)) }) event w.seats w.peers
    pub sound : is_fault event.reply ≡ false
    pub user : w.user ≡ v.user
    pub number : w.number ≡ next_number v.number
    pub text : w.text ≡ v.text ++ told full k (drawn_of (next_number v.number)) event
    pub tally : w.tally ≡ counted v.tally event.reply
    pub failed : w.failed ≡ v.failed

  -- Session k asked so many requests, one after the other: each begins with what the one before it left.
  abbrev pub HasRun : Bool → ℕ → ℕ → Session D L → Session D L → Type 0
  HasRun full k zero v w = w ≡ v
  HasRun full k (suc n) v w = (between : Session D L) × HasAsked full k v between × HasRun full k n between w
