-- A client talks with a host: what it learns, seen through another state, and how the counts rise.
use Rattle.std.proofs.Common.{◌≡◌, ◌⊎◌, ◌≤◌, ◌<◌, ◌+◌, ◌-◌, ◌^◌, ℕ, List, Option, Some, None, Result, Ok, Err, inl, inr, refl, subst, arith}
use Rattle.up_client.specs.Talks.{Held, Talking, ended, heard, unanswered, wanting}
use Rattle.up_client.specs.declared.fault.ClientFault.{ClientFault}
use Rattle.up_client.specs.declared.fault.ClientFault.TheVariants as client
use Rattle.up_disk.specs.declared.disk.Disk as disk
use Rattle.up_host.specs.Alone.{HostState, disk_faults, io_of}
use Rattle.up_names.specs.Texts.{UserName}
use Rattle.up_peer.specs.declared.loader.Loader.{Ghosts}
use Rattle.up_sessions.proofs.IoLemmas.{IoByReply, after, at_end}
use Rattle.up_sessions.proofs.KindLemmas.{OfKind, call_kind}
use Rattle.up_sessions.proofs.OddLemmas.{Any, Comes, ComesTo, held_comes, never_odd}
use Rattle.up_sessions.proofs.StayLemmas.{stays_none, stays_then}
use Rattle.up_sessions.specs.Asking.{StaysHost}
use Rattle.up_sessions.specs.Talking.{TalksTo, answers_as, io_in, io_in_fault}
use Rattle.up_sessions.specs.Worlds.{CountsRose}
use Rattle.up_wire.specs.declared.replies.Reply.{Reply}
use Rattle.up_wire.specs.declared.replies.Reply.TheVariants as replies
use Rattle.up_wire.specs.declared.requests.Request.{Request}

-- a conversation over one state is one over another that is seen of it, where each answer is
pub held_seen : {S W X : Type 0} (sees : S → W → Type 0) (answers : S → Request → Option Reply → S → Type 0) (others : W → Request → Option Reply → W → Type 0)
    → ((a b : S) (v : W) (q : Request) (x : Option Reply) → sees a v → answers a q x b → (w : W) × others v q x w × sees b w)
    → (talk : Talking X) (a b : S) (v : W) (result : Result X ClientFault) → sees a v → Held answers talk a result b → (w : W) × Held others talk v result w × sees b w
held_seen sees answers others each talk a b v result is ended = (v, ended, is)
held_seen sees answers others each talk a b v result is wanting = (v, wanting, is)
held_seen sees answers others each talk a b v result is (unanswered {request = request} none) =
    let one = each a b v request None is none in (one.0, unanswered one.1, one.2)
held_seen sees answers others each talk a b v result is (heard {request = request} {hear = hear} {next = next} reply answer rest) =
    let one = each a next v request (Some reply) is answer in
    let more = held_seen sees answers others each (hear reply) next b one.0 result one.2 rest in (more.0, heard reply one.1 more.1, more.2)

-- ---- the counts

io_test : (reply : Reply) → (io_of reply ≡ 0) ⊎ (io_of reply ≡ 1)
io_test replies.Io = inr refl
io_test other = inl refl

fault_few : (fault : ClientFault) → io_in_fault fault ≤ 1
fault_few (client.Refused reply) = reply_few reply (io_test reply)
  where
    reply_few : (reply : Reply) → (io_of reply ≡ 0) ⊎ (io_of reply ≡ 1) → io_of reply ≤ 1
    reply_few reply (inl is) = omega (arith, is)
    reply_few reply (inr is) = omega (arith, is)
fault_few other = omega arith

few : {X : Type 0} (result : Result X ClientFault) → io_in result ≤ 1
few (Ok x) = omega arith
few (Err fault) = fault_few fault

same_counts : (d p : ℕ) (io : ℕ) → io ≡ 0 → CountsRose d d p p io
same_counts d p io none = record { disks = omega arith; peers = omega arith; io = λ below. omega (arith, none) }

then_counts : (d e f p q r : ℕ) (one two all : ℕ) → CountsRose d e p q one → CountsRose e f q r two → all ≤ one + two → CountsRose d f p r all
then_counts d e f p q r one two all first second enough =
    let a = first.disks in let b = second.disks in let c = first.peers in let g = second.peers in
    record {
      disks = omega (arith, a, b);
      peers = omega (arith, c, g);
      io = λ below.
          let x : d + p + one ≤ e + q = first.io (omega (arith, a, b, c, g, below)) in
          let y : e + q + two ≤ f + r = second.io below in
          omega (arith, x, y, enough);
    }

module _ {D P : Type 0} (disks : disk.Ghosts D) (loader : Ghosts P) (hosts : List (HostState D)) (user : UserName) (moment : ℕ) where
  abbrev counts_at : HostState D × P → HostState D × P → ℕ → Type 0
  counts_at a b io = CountsRose (disk_faults disks a.0) (disk_faults disks b.0) (loader.faults a.1) (loader.faults b.1) io

  step_counts : (a b : HostState D × P) (request : Request) (reply : Reply) → answers_as disks loader hosts user moment a request (Some reply) b → counts_at a b (io_of reply)
  step_counts a b request reply step =
      let counts = step.2.counts in
      record {
        disks = counts.disks;
        peers = counts.loader;
        io = subst (λ r. disk_faults disks b.0 + loader.faults b.1 < 2 ^ 64 - 1 → disk_faults disks a.0 + loader.faults a.1 + io_of r ≤ disk_faults disks b.0 + loader.faults b.1) step.1 counts.io;
      }

  -- the counts never fall
  held_later : {X : Type 0} (talk : Talking X) (a b : HostState D × P) (result : Result X ClientFault) → Held (answers_as disks loader hosts user moment) talk a result b → counts_at a b 0
  held_later talk a b result ended = same_counts (disk_faults disks a.0) (loader.faults a.1) 0 refl
  held_later talk a b result wanting = same_counts (disk_faults disks a.0) (loader.faults a.1) 0 refl
  held_later talk a b result (unanswered none) = absurd none
  held_later talk a b result (heard {request = request} {hear = hear} {next = next} reply answer rest) =
      then_counts (disk_faults disks a.0) (disk_faults disks next.0) (disk_faults disks b.0) (loader.faults a.1) (loader.faults next.1) (loader.faults b.1) (io_of reply) 0 0
      (step_counts a next request reply answer) (held_later (hear reply) next b result rest) (omega arith)

  heard_counts : {X : Type 0} (reply : Reply) (result : Result X ClientFault) (a next b : HostState D × P) → (io_of reply ≡ 0) ⊎ (io_of reply ≡ 1) → counts_at a next (io_of reply) → counts_at next b 0 → (io_of reply ≡ 0 → counts_at next b (io_in result)) → counts_at a b (io_in result)
  heard_counts reply result a next b (inl is) one later more =
      then_counts (disk_faults disks a.0) (disk_faults disks next.0) (disk_faults disks b.0) (loader.faults a.1) (loader.faults next.1) (loader.faults b.1) (io_of reply) (io_in result) (io_in result) one (more is) (omega arith)
  heard_counts reply result a next b (inr is) one later more =
      then_counts (disk_faults disks a.0) (disk_faults disks next.0) (disk_faults disks b.0) (loader.faults a.1) (loader.faults next.1) (loader.faults b.1) (io_of reply) 0 (io_in result) one later (let f = few result in omega (arith, is, f))

  -- and rose where Io came of it
  pub held_counts : {X : Type 0} (talk : Talking X) (a b : HostState D × P) (result : Result X ClientFault) → IoByReply talk → Held (answers_as disks loader hosts user moment) talk a result b → counts_at a b (io_in result)
  held_counts talk a b result (at_end none) ended = same_counts (disk_faults disks a.0) (loader.faults a.1) (io_in result) none
  held_counts talk a b result by wanting = same_counts (disk_faults disks a.0) (loader.faults a.1) 0 refl
  held_counts talk a b result by (unanswered none) = absurd none
  held_counts talk a b result (after each) (heard {request = request} {hear = hear} {next = next} reply answer rest) =
      heard_counts reply result a next b (io_test reply) (step_counts a next request reply answer) (held_later (hear reply) next b result rest) (λ is. held_counts (hear reply) next b result (each reply is) rest)

  -- the host keeps its name, its operator and its trees
  pub held_stays : {X : Type 0} (talk : Talking X) (a b : HostState D × P) (result : Result X ClientFault) → Held (answers_as disks loader hosts user moment) talk a result b → StaysHost disks a.0 b.0
  held_stays talk a b result ended = stays_none disks a.0
  held_stays talk a b result wanting = stays_none disks a.0
  held_stays talk a b result (unanswered none) = absurd none
  held_stays talk a b result (heard {request = request} {hear = hear} {next = next} reply answer rest) =
      stays_then disks a.0 next.0 b.0 answer.2.stays (held_stays (hear reply) next b result rest)

  -- each answer is of the kind that was asked for
  answers_kind : (a b : HostState D × P) (request : Request) (reply : Reply) → answers_as disks loader hosts user moment a request (Some reply) b → OfKind request reply
  answers_kind a b request reply step = subst (OfKind request) step.1 (call_kind _ _ _ (record { user = user; request = request }) step.0 step.2.asked.outcome)

  -- a conversation with a host, whole
  pub talks_whole : {X : Type 0} (talk : Talking X) (host after_it : HostState D) (old new : P) (result : Result X ClientFault) → IoByReply talk → ComesTo (Comes Any) talk
      → Held (answers_as disks loader hosts user moment) talk (host, old) result (after_it, new) → TalksTo disks loader hosts user moment talk result host after_it old new
  talks_whole talk host after_it old new result by comes held = record {
    held = held;
    in_kind = never_odd result (held_comes (answers_as disks loader hosts user moment) answers_kind talk (host, old) (after_it, new) result comes held);
    counts = held_counts talk (host, old) (after_it, new) result by held;
    stays = held_stays talk (host, old) (after_it, new) result held;
  }
