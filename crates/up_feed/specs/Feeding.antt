-- What one of many callers of a shared host pulls of a tree's log, and a connection on which a follower does. This project's own.
use Rattle.std.specs.Prelude.{◌≡◌, ◌↔◌, ℕ, [], List, length, map, slice_get, Option, Some, None, IfSome}
use Rattle.std.specs.Option.{option_map}
use Rattle.std.specs.String.{string_bytes}
use Rattle.up_calls.specs.Routes.{OwnStays}
use Rattle.up_ends.specs.declared.nonces.Nonces as nonces
use Rattle.up_ends.specs.declared.verifier.Verifier as verifier
use Rattle.up_entry.specs.Spelling as spelling
use Rattle.up_entry.specs.declared.records.Rec.{Rec}
use Rattle.up_feed.specs.declared.talking.Timeless.{Timeless}
use Rattle.up_feed_wire.specs.FeedMessages.{IsTypedAsk, feed_ask, feed_reply}
use Rattle.up_feed_wire.specs.declared.ask.FeedAsk.{FeedAsk}
use Rattle.up_feed_wire.specs.declared.reply.FeedReply.{FeedReply}
use Rattle.up_feed_wire.specs.declared.reply.FeedReply.TheVariants as replies
use Rattle.up_follow.specs.ListLogs.{batch_of}
use Rattle.up_lists.specs.Begins.{Begins}
use Rattle.up_names.specs.Texts.{UserName}
use Rattle.up_shared.specs.Sharing.{AtTree, Looked, SeatsLater, cell_for, seat_for, views_of}
use Rattle.up_shared.specs.declared.shared.Seats.{Seats}
use Rattle.up_shared.specs.declared.shared.Shared.{Shared}
use Rattle.up_shared.specs.declared.shared.TreeSeat.{TreeSeat}
use Rattle.up_talk.specs.Around.{Around, Parties}
use Rattle.up_together.specs.Together.{HostTogether, LooksTogether, host_together}
use Rattle.up_tree.specs.States.{State}

-- ---- records as a feed gives them

-- the bytes of each record of a log
abbrev pub texts_of : List Rec → List (List ℕ)
texts_of log = map spelling.rec log

-- the next 64 records of a log behind the first so many, or all that are left
abbrev pub batch_in : ℕ → List Rec → List (List ℕ)
batch_in from log = batch_of from (texts_of log)

-- what one turn of a tree reads, which leaves the tree as it was; none is for want of memory
pub record ReadsBatch {D : Type 0} (from : ℕ) (old new : State D) (given : Option (List (List ℕ))) : Type 0 where
  pub stays : new ≡ old
  pub batch : IfSome given (λ batch. batch ≡ batch_in from old.log)

-- the name of an owner that is there; where none is, the empty text
abbrev pub owner_by : Option UserName → UserName
owner_by (Some owner) = owner
owner_by None = []

-- ---- one pull

module _ {D : Type 0} where
  -- The seat looked at its log in this call, and has seen it then as it was lent; of that log the batch is.
  pub record Pulled (from : ℕ) (given : Option (List (List ℕ))) (v w : TreeSeat D) : Type 0 where
    pub seen : Begins v.seat.seen w.seat.seen
    pub looked : Looked v.seat w.seat (length w.seat.seen)
    pub batch : IfSome given (λ batch. batch ≡ batch_in from w.seat.seen)

  -- A pull of the tree of an owner: it is one of its seat, all that was seen stays seen, and nothing was added to any log.
  pub record PullsTree (owner : UserName) (from : ℕ) (a b : Seats D) (given : Option (List (List ℕ))) : Type 0 where
    pub pulled : AtTree (Pulled from given) owner a b
    pub later : SeatsLater a b
    pub own : OwnStays None (views_of a) (views_of b)

  -- ---- the feed of one tree

  -- the owner of the tree at a place of a host
  abbrev pub owner_at : Shared D → ℕ → UserName
  owner_at shared place = owner_by (option_map (λ tree. tree.owner) (slice_get shared.trees.items place))

  -- the log of the tree of an owner, as far as the seat there has seen it, each record as its bytes
  abbrev pub fed_log : Seats D → UserName → Option (List (List ℕ))
  fed_log seats owner = option_map (λ place. texts_of place.seat.seen) (seat_for seats.trees.items owner)

-- ---- a connection on which a follower pulls

-- a host that many share, with one caller's seats at it, and nobody behind it
abbrev pub Leader : Type 0 → Type 0
Leader D = HostTogether D (Unit {0})

-- this shared host, with these seats
abbrev pub leader_with : {D : Type 0} → Shared D → Seats D → Leader D
leader_with shared seats = host_together shared seats tt

module _ {D : Type 0} where
  -- What a user is answered: the records of a pull of its tree; that there is no such tree, and then no log is looked at; or that there
  -- was no memory for the records of a pull.
  abbrev pub FeedCame : Seats D → UserName → ℕ → FeedReply → Seats D → Type 0
  FeedCame a user from (replies.Records records) b = PullsTree user from a b (Some records)
  FeedCame a user from replies.NoTree b = (seat_for a.trees.items user ≡ None) × (b ≡ a)
  FeedCame a user from replies.OutOfMemory b = PullsTree user from a b None

  -- A question of a user, at any moment: it is answered by the log of the user's tree; that there is none, exactly where the host has
  -- none.
  pub record Feeds (a : Leader D) (user : UserName) (ask : FeedAsk) (moment : ℕ) (reply : FeedReply) (b : Leader D) : Type 0 where
    pub came : FeedCame a.seats user ask.from reply b.seats
    pub none : (reply ≡ replies.NoTree) ↔ (cell_for a.shared.trees.items user ≡ None)
    pub host : b.shared ≡ a.shared

  -- what every call leaves: the host is the same one, what the seats had seen stays seen, and nothing was added to any log
  pub record TiedLeader (a b : Leader D) : Type 0 where
    pub host : b.shared ≡ a.shared
    pub later : SeatsLater a.seats b.seats
    pub own : OwnStays None (views_of a.seats) (views_of b.seats)

-- a leader among those that a connection has; no moment matters to it
abbrev pub leader_among : {D V N : Type 0} → verifier.Ghosts V → nonces.Ghosts N → Parties (Leader D) V Timeless N FeedAsk FeedReply
leader_among verifiers drawn = record {
  name = λ a. string_bytes a.shared.name;
  looked = LooksTogether;
  asking = feed_ask;
  fits = IsTypedAsk;
  answering = feed_reply;
  asked = Feeds;
  tied = TiedLeader;
  judged = verifiers.judged;
  verifier_faults = verifiers.faults;
  moments = λ clock. None;
  challenges = drawn.coming;
}

-- this shared host with these seats, and what a connection has around it: no clock
abbrev pub leader_at : {D V N : Type 0} → Shared D → Seats D → V → N → Around (Leader D) V Timeless N
leader_at shared seats verifier nonces =
    record { answerer = leader_with shared seats; verifier = verifier; clock = record {}; nonces = nonces }
