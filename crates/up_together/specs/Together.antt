-- One of many callers of a shared host, as who answers a connection. This project's own.
use Rattle.std.specs.Prelude.{◌≡◌, ℕ, Option, Ok}
use Rattle.std.specs.String.{string_bytes}
use Rattle.std.specs.declared.alloc.AllocError.{AllocError}
use Rattle.up_calls.specs.Alike.{TellsNoMore}
use Rattle.up_calls.specs.Answered.{Leaves, LoadsInRounds, Risen}
use Rattle.up_calls.specs.Calls.{Asked}
use Rattle.up_calls.specs.Routes.{Question}
use Rattle.up_calls.specs.declared.event.Event.{Event}
use Rattle.up_ends.specs.declared.clock.Clock as clock
use Rattle.up_ends.specs.declared.nonces.Nonces as nonces
use Rattle.up_ends.specs.declared.verifier.Verifier as verifier
use Rattle.up_names.specs.Texts.{UserName}
use Rattle.up_peer.specs.declared.loader.Loader as loader
use Rattle.up_shared.specs.Records.{IsKeyOf, LooksAtKeys}
use Rattle.up_shared.specs.Sharing.{HasFailed, HasLooked, SeatsLater, views_of}
use Rattle.up_shared.specs.declared.shared.Seats.{Seats}
use Rattle.up_shared.specs.declared.shared.Shared.{Shared}
use Rattle.up_talk.specs.Around.{Around, Parties}
use Rattle.up_talk.specs.Requests.{FitsRequest, request_payload}
use Rattle.up_wire.specs.Spelling.{server}
use Rattle.up_wire.specs.declared.keys.KeyRecord.{KeyRecord}
use Rattle.up_wire.specs.declared.messages.ServerFrame.{ServerFrame}
use Rattle.up_wire.specs.declared.messages.ServerFrame.TheVariants as servers
use Rattle.up_wire.specs.declared.requests.Request.{Request}

-- a host that many share, what one caller has of it, and who stands behind it
pub record HostTogether (D L : Type 0) : Type 0 where
  pub shared : Shared D
  pub seats : Seats D
  pub peers : L

-- One call of a shared host, at a moment: what its caller sees of it, by what its seats had before and have after it. The seats have then
-- looked at the log that answered, over no fewer records than they counted; a seat's failures rose where a disk failed; groups were
-- loaded in rounds; and the reply tells no more than the user sees.
pub record AsksTogether {D L : Type 0} (loaders : loader.Ghosts L) (a : HostTogether D L)
    (q : Question) (moment : ℕ) (e : Event) (b : HostTogether D L) : Type 0 where
  pub asked : Asked loaders a.shared.operator (views_of a.seats) a.peers q e (views_of b.seats) b.peers
  pub looked : Leaves (λ log n. HasLooked log n a.seats b.seats) (views_of a.seats) q e
  pub risen : Risen (λ log. HasFailed log a.seats b.seats) (loaders.faults a.peers) (loaders.faults b.peers) q e
  pub rounds : LoadsInRounds (views_of a.seats) (views_of b.seats) q e
  pub alike : TellsNoMore (views_of b.seats) q e
  pub later : SeatsLater a.seats b.seats
  pub moment_is : e.moment ≡ moment
  pub host : b.shared ≡ a.shared

-- a request of a user at a moment, with the frame that answers it: that of the reply
pub record AnswersTogether {D L : Type 0} (loaders : loader.Ghosts L) (a : HostTogether D L) (user : UserName)
    (request : Request) (moment : ℕ) (frame : ServerFrame) (b : HostTogether D L) : Type 0 where
  pub event : Event
  pub asks : AsksTogether loaders a (record { user = user; request = request }) moment event b
  pub frame_is : frame ≡ servers.Answer event.reply

-- A look at a user's key record finds it, or that there is none, by the keys' log at a position that is not before what the seats had
-- seen, and at most what they have seen after it. Nothing comes to any log.
pub record LooksTogether {D L : Type 0} (a : HostTogether D L) (user : UserName)
    (found : Option KeyRecord) (b : HostTogether D L) : Type 0 where
  pub found_is : IsKeyOf {E = AllocError} a.seats.keys b.seats.keys user (Ok found)
  pub looks : LooksAtKeys a.seats b.seats
  pub host : b.shared ≡ a.shared
  pub peers : b.peers ≡ a.peers

-- what every call leaves: the host is the same one, and what the seats had seen stays seen
pub record TiedTogether {D L : Type 0} (loaders : loader.Ghosts L) (a b : HostTogether D L) : Type 0 where
  pub host : b.shared ≡ a.shared
  pub later : SeatsLater a.seats b.seats
  pub peers : loaders.tied a.peers b.peers

-- a shared host with one of its callers, among those that a connection has
abbrev pub together_among : {D L V C N : Type 0} → loader.Ghosts L → verifier.Ghosts V
    → clock.Ghosts C → nonces.Ghosts N → Parties (HostTogether D L) V C N Request ServerFrame
together_among loaders verifiers clocks drawn = record {
  name = λ a. string_bytes a.shared.name;
  looked = LooksTogether;
  asking = request_payload;
  fits = FitsRequest;
  answering = server;
  asked = AnswersTogether loaders;
  tied = TiedTogether loaders;
  judged = verifiers.judged;
  verifier_faults = verifiers.faults;
  moments = clocks.coming;
  challenges = drawn.coming;
}

-- this shared host, with these seats and these peers
abbrev pub host_together : {D L : Type 0} → Shared D → Seats D → L → HostTogether D L
host_together shared seats peers = record { shared = shared; seats = seats; peers = peers }

-- this shared host with these seats and peers, and what a connection has around it
abbrev pub together_at : {D L V C N : Type 0} → Shared D → Seats D → L → V → C → N → Around (HostTogether D L) V C N
together_at shared seats peers verifier clock nonces =
    record { answerer = host_together shared seats peers; verifier = verifier; clock = clock; nonces = nonces }
