-- A host that is not shared, as who answers a connection. This project's own.
use Rattle.std.specs.Prelude.{◌≡◌, ℕ, Option}
use Rattle.up_disk.specs.declared.disk.Disk as disk
use Rattle.up_ends.specs.declared.clock.Clock as clock
use Rattle.up_ends.specs.declared.nonces.Nonces as nonces
use Rattle.up_ends.specs.declared.verifier.Verifier as verifier
use Rattle.up_calls.specs.Alike.{TellsNoMore}
use Rattle.up_host.specs.Alone.{Counts, HostState, IsAlone, RisesAsShown, disk_faults, views}
use Rattle.up_calls.specs.Calls.{Asked}
use Rattle.up_calls.specs.Routes.{Question}
use Rattle.up_host.specs.Settled.{StaysSettled}
use Rattle.up_calls.specs.declared.event.Event.{Event}
use Rattle.up_keys.specs.Records.{record_in}
use Rattle.up_names.specs.Texts.{UserName}
use Rattle.up_peer.specs.declared.loader.Loader as loader
use Rattle.up_talk.specs.Around.{Around, Parties}
use Rattle.up_talk.specs.Requests.{FitsRequest, request_payload}
use Rattle.up_wire.specs.Spelling.{server}
use Rattle.up_wire.specs.declared.keys.KeyRecord.{KeyRecord}
use Rattle.up_wire.specs.declared.messages.ServerFrame.{ServerFrame}
use Rattle.up_wire.specs.declared.messages.ServerFrame.TheVariants as servers
use Rattle.up_wire.specs.declared.requests.Request.{Request}

-- a host, and who stands behind it
pub record HostAlone (D L : Type 0) : Type 0 where
  pub host : HostState D
  pub peers : L

-- One call of a host that is not shared, at a moment: what its caller sees of it, and what its one caller sees besides; the reply tells
-- no more than the user sees.
pub record AsksAlone {D L : Type 0} (disks : disk.Ghosts D) (loaders : loader.Ghosts L)
    (a : HostAlone D L) (q : Question) (moment : ℕ) (e : Event) (b : HostAlone D L) : Type 0 where
  pub asked : Asked loaders a.host.operator (views disks a.host) a.peers q e (views disks b.host) b.peers
  pub alone : IsAlone (views disks a.host) (views disks b.host) q e
  pub counts : Counts (disk_faults disks a.host) (disk_faults disks b.host) (loaders.faults a.peers) (loaders.faults b.peers) e
  pub quiet : RisesAsShown (views disks a.host) (views disks b.host) q e
  pub alike : TellsNoMore (views disks b.host) q e
  pub stays : StaysSettled disks a.host b.host
  pub moment_is : e.moment ≡ moment
  pub operator : b.host.operator ≡ a.host.operator
  pub name : b.host.name ≡ a.host.name

-- a request of a user at a moment, with the frame that answers it: that of the reply
pub record AnswersAlone {D L : Type 0} (disks : disk.Ghosts D) (loaders : loader.Ghosts L) (a : HostAlone D L)
    (user : UserName) (request : Request) (moment : ℕ) (frame : ServerFrame) (b : HostAlone D L) : Type 0 where
  pub event : Event
  pub asks : AsksAlone disks loaders a (record { user = user; request = request }) moment event b
  pub frame_is : frame ≡ servers.Answer event.reply

-- a look at a user's key record finds it in the log of the keys, and changes nothing
pub record LooksAlone {D L : Type 0} (a : HostAlone D L) (user : UserName) (found : Option KeyRecord) (b : HostAlone D L) : Type 0 where
  pub found_is : record_in a.host.keys.state.log user ≡ found
  pub host : b.host ≡ a.host
  pub peers : b.peers ≡ a.peers

-- what every call leaves as it is
pub record TiedAlone {D L : Type 0} (loaders : loader.Ghosts L) (a b : HostAlone D L) : Type 0 where
  pub name : b.host.name ≡ a.host.name
  pub operator : b.host.operator ≡ a.host.operator
  pub peers : loaders.tied a.peers b.peers

-- a host that is not shared, among those that a connection has
abbrev pub alone_among : {D L V C N : Type 0} → disk.Ghosts D → loader.Ghosts L → verifier.Ghosts V
    → clock.Ghosts C → nonces.Ghosts N → Parties (HostAlone D L) V C N Request ServerFrame
alone_among disks loaders verifiers clocks drawn = record {
  name = λ a. a.host.name;
  looked = LooksAlone;
  asking = request_payload;
  fits = FitsRequest;
  answering = server;
  asked = AnswersAlone disks loaders;
  tied = TiedAlone loaders;
  judged = verifiers.judged;
  verifier_faults = verifiers.faults;
  moments = clocks.coming;
  challenges = drawn.coming;
}

-- this host, and these peers behind it
abbrev pub host_alone : {D L : Type 0} → HostState D → L → HostAlone D L
host_alone host peers = record { host = host; peers = peers }

-- this host with these peers, and what a connection has around it
abbrev pub alone_at : {D L V C N : Type 0} → HostState D → L → V → C → N → Around (HostAlone D L) V C N
alone_at host peers verifier clock nonces = record { answerer = host_alone host peers; verifier = verifier; clock = clock; nonces = nonces }
