-- A client talks with a host among the others of a script, at one moment. This project's own.
use Rattle.std.specs.Prelude.{◌≡◌, ◌≢◌, ℕ, ℤ, List, Option, Some, None, Result, Ok, Err}
use Rattle.up_client.specs.Getting.{get_talk}
use Rattle.up_client.specs.Putting.{put_talk}
use Rattle.up_client.specs.Talks.{Held, Talking}
use Rattle.up_client.specs.declared.fault.ClientFault.{ClientFault}
use Rattle.up_client.specs.declared.fault.ClientFault.TheVariants as client
use Rattle.up_disk.specs.declared.disk.Disk as disk
use Rattle.up_host.specs.Alone.{HostState, disk_faults, io_of}
use Rattle.up_calls.specs.declared.event.Event.{Event}
use Rattle.up_names.specs.PathNames.{PathName}
use Rattle.up_names.specs.Texts.{UserName}
use Rattle.up_peer.specs.declared.loader.Loader.{Ghosts}
use Rattle.up_sessions.specs.Asking.{AsksOne, StaysHost}
use Rattle.up_sessions.specs.Kept.{OneOf}
use Rattle.up_sessions.specs.Others.{others}
use Rattle.up_sessions.specs.Worlds.{AtHost, CountsRose, Hosts}
use Rattle.up_wire.specs.declared.replies.Reply.{Reply}
use Rattle.up_wire.specs.declared.requests.Request.{Request}

-- A host answers a client: by some event with that reply. It stands in the same process, so an answer always comes.
abbrev pub answers_as : {D P : Type 0} → disk.Ghosts D → Ghosts P → List (HostState D)
    → UserName → ℕ → HostState D × P → Request → Option Reply → HostState D × P → Type 0
answers_as disks loader hosts user moment a request (Some reply) b =
    (e : Event) × (e.reply ≡ reply) × AsksOne disks loader hosts (record { user = user; request = request }) moment e a.0 b.0 a.1 b.1
answers_as disks loader hosts user moment a request None b = ⊥

-- the host at a place answers a client, and the others stay
abbrev pub answers_at : {D P : Type 0} → disk.Ghosts D → Ghosts P → ℕ → UserName → ℕ
    → List (HostState D) × P → Request → Option Reply → List (HostState D) × P → Type 0
answers_at disks loader place user moment a request given b =
    OneOf place (λ host after old new. answers_as disks loader (others place a.0) user moment (host, old) request given (after, new))
    a.0 a.1 b.0 b.1

-- 1 where a client's fault tells of a reply Io
abbrev pub io_in_fault : ClientFault → ℕ
io_in_fault (client.Refused reply) = io_of reply
io_in_fault other = 0

-- 1 where a conversation failed because of a reply Io, and 0 where it did not
abbrev pub io_in : {X : Type 0} → Result X ClientFault → ℕ
io_in (Ok x) = 0
io_in (Err fault) = io_in_fault fault

-- A conversation was held with a host, which never answered something of another kind than was asked for; and its disks and the peers
-- failed where Io came of it.
pub record TalksTo {D P X : Type 0} (disks : disk.Ghosts D) (loader : Ghosts P) (hosts : List (HostState D)) (user : UserName)
    (moment : ℕ) (talk : Talking X) (result : Result X ClientFault) (host after : HostState D) (old new : P) : Type 0 where
  pub held : Held (answers_as disks loader hosts user moment) talk (host, old) result (after, new)
  pub in_kind : result ≢ Err client.Odd
  pub counts : CountsRose (disk_faults disks host) (disk_faults disks after) (loader.faults old) (loader.faults new) (io_in result)
  pub stays : StaysHost disks host after

-- a conversation was held with the host at a place, and nothing else changed
abbrev pub TalksAt : {D P X : Type 0} → disk.Ghosts D → Ghosts P → ℕ → UserName
    → ℕ → Talking X → Result X ClientFault → Hosts D → P → Hosts D → P → Type 0
TalksAt disks loader place user moment talk result a old b new =
    AtHost place (λ host after. TalksTo disks loader (others place a.hosts) user moment talk result host after old new) a b

-- a user's conversation to put a file was held with the host at a place
abbrev pub PutsAt : {D P : Type 0} → disk.Ghosts D → Ghosts P → ℕ → UserName → ℕ → PathName
    → ℤ → ℤ → List ℕ → Result ℕ ClientFault → Hosts D → P → Hosts D → P → Type 0
PutsAt disks loader place user moment path time sequence bytes result a old b new =
    TalksAt disks loader place user moment (put_talk user path time sequence bytes) result a old b new

-- a user's conversation to get a file was held with the host at a place
abbrev pub GetsAt : {D P : Type 0} → disk.Ghosts D → Ghosts P → ℕ → UserName → ℕ
    → PathName → Result (List ℕ) ClientFault → Hosts D → P → Hosts D → P → Type 0
GetsAt disks loader place user moment path result a old b new = TalksAt disks loader place user moment (get_talk path) result a old b new
