-- What each kind of line of a script does to the hosts and to what stands around them. This project's own.
use Rattle.std.specs.Prelude.{◌≡◌, ℕ, ℤ, Bool, List, Some, Result}
use Rattle.up_client.specs.declared.fault.ClientFault.{ClientFault}
use Rattle.up_ends.specs.Telling.{Gives}
use Rattle.up_calls.specs.declared.event.Event.{Event}
use Rattle.up_journal.specs.declared.fault.AppendWhy.{AppendWhy}
use Rattle.up_journal.specs.declared.limits.Limits.{Limits}
use Rattle.up_names.specs.PathNames.{PathName}
use Rattle.up_names.specs.Texts.{UserName}
use Rattle.up_sessions.specs.Asking.{AsksHost}
use Rattle.up_sessions.specs.Opening.{EnrolsAt, OpensNext}
use Rattle.up_sessions.specs.Signing.{SignsOn}
use Rattle.up_sessions.specs.Talking.{GetsAt, PutsAt}
use Rattle.up_sessions.specs.Worlds.{Parties, World, session_at}
use Rattle.up_sessions.specs.declared.fault.LineFault.{LineFault}
use Rattle.up_sessions.specs.declared.opened.Opened.{Opened}
use Rattle.up_wire.specs.declared.requests.Request.{Request}

module _ {D P V C N : Type 0} (who : Parties D P V C N) where
  -- a host is opened, or refused
  pub record HostLine (limits : Limits) (name : List ℕ) (operator : UserName) (owners : List UserName)
      (a : World D P V C N) (result : Result (Unit {0}) LineFault) (b : World D P V C N) : Type 0 where
    pub opens : OpensNext who.disks limits name operator owners a.state result b.state
    pub around : b.around ≡ a.around

  -- a user is enrolled at the host at a place, or refused
  pub record EnrolLine (place : ℕ) (user : UserName) (key : List ℕ) (a : World D P V C N)
      (result : Result ℕ AppendWhy) (b : World D P V C N) : Type 0 where
    pub enrols : EnrolsAt who.disks place user key a.state result b.state
    pub around : b.around ≡ a.around

  -- a user signs on at the host at a place, or is refused; peers and clock stay as they are
  pub record OpenLine (number place : ℕ) (user : UserName) (signature : List ℕ)
      (a : World D P V C N) (result : Result Bool LineFault) (b : World D P V C N) : Type 0 where
    pub signs : SignsOn who.verifiers who.nonces number place user signature a.state
        a.around.verifier a.around.nonces result b.state b.around.verifier b.around.nonces
    pub peers : b.around.peers ≡ a.around.peers
    pub clock : b.around.clock ≡ a.around.clock

  -- A line of an open session reads the clock once: this is the session, and this the moment. Verifier and nonces stay.
  pub record AtMoment (number : ℕ) (a b : World D P V C N) : Type 0 where
    pub opened : Opened
    pub is_open : session_at a.state number ≡ Some opened
    pub moment : ℕ
    pub read : Gives (who.clocks.coming a.around.clock) moment (who.clocks.coming b.around.clock)
    pub verifier : b.around.verifier ≡ a.around.verifier
    pub nonces : b.around.nonces ≡ a.around.nonces

  -- the session's host is asked a request of its user
  pub record RequestLine (number : ℕ) (request : Request) (a : World D P V C N) (e : Event) (b : World D P V C N) : Type 0 where
    pub now : AtMoment number a b
    pub asks : AsksHost who.disks who.peers now.opened.place (record { user = now.opened.session.user; request = request })
        now.moment e a.state a.around.peers b.state b.around.peers

  -- the user of an open session puts a file
  pub record PutLine (number : ℕ) (path : PathName) (time sequence : ℤ) (bytes : List ℕ)
      (a : World D P V C N) (result : Result ℕ ClientFault) (b : World D P V C N) : Type 0 where
    pub now : AtMoment number a b
    pub puts : PutsAt who.disks who.peers now.opened.place now.opened.session.user now.moment
        path time sequence bytes result a.state a.around.peers b.state b.around.peers

  -- the user of an open session gets a file
  pub record GetLine (number : ℕ) (path : PathName) (a : World D P V C N)
      (result : Result (List ℕ) ClientFault) (b : World D P V C N) : Type 0 where
    pub now : AtMoment number a b
    pub gets : GetsAt who.disks who.peers now.opened.place now.opened.session.user
        now.moment path result a.state a.around.peers b.state b.around.peers
