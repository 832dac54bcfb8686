-- What each line of a script does where the script stands, and what it prints. This project's own.
use Rattle.std.specs.Prelude.{◌≡◌, ℕ, ℤ, Bool, true, false, not, nat_lt, ◌&&◌, List, [], ◌++◌, length, position, codes, decimal, Option}
use Rattle.std.specs.Prelude.{Some, None, Result, Ok, Err, is_none}
use Rattle.std.specs.List.{list_all, list_any}
use Rattle.up_client.specs.declared.fault.ClientFault.{ClientFault}
use Rattle.up_client.specs.declared.fault.ClientFault.TheVariants as client
use Rattle.up_disk.specs.declared.disk.Disk as disk
use Rattle.up_ends.specs.Telling.{Gives}
use Rattle.up_ends.specs.declared.clock.Clock as clock
use Rattle.up_ends.specs.declared.nonces.Nonces as nonces
use Rattle.up_ends.specs.declared.verifier.Verifier as verifier
use Rattle.up_host.specs.Alone.{io_of}
use Rattle.up_calls.specs.declared.event.Event.{Event}
use Rattle.up_journal.specs.declared.fault.AppendWhy.TheVariants as append
use Rattle.up_journal.specs.declared.limits.Limits.{Limits}
use Rattle.up_names.specs.PathNames.{PathName}
use Rattle.up_names.specs.Texts.{Text, UserName}
use Rattle.up_peer.specs.declared.loader.Loader as loader
use Rattle.up_sessions.specs.Asking.{AsksHost}
use Rattle.up_sessions.specs.Opening.{EnrolsAt, OpensNext}
use Rattle.up_sessions.specs.Others.{has_tree}
use Rattle.up_sessions.specs.Signing.{SignsOn}
use Rattle.up_sessions.specs.Talking.{GetsAt, PutsAt}
use Rattle.up_sessions.specs.Talking as talking
use Rattle.up_sessions.specs.Worlds.{Hosts, Parties, World, is_named, session_at}
use Rattle.up_sessions.specs.declared.fault.LineFault.TheVariants as fault
use Rattle.up_sessions.specs.declared.opened.Opened.{Opened}
use Rattle.up_text.specs.Replies.{reply_lines}
use Rattle.up_text.specs.Requests.{request_of}
use Rattle.up_text.specs.declared.requests.ClientLine.{ClientLine}
use Rattle.up_text.specs.declared.requests.ClientLine.TheVariants as calls
use Rattle.up_wire.specs.declared.replies.Reply.{Reply}
use Rattle.up_wire.specs.declared.replies.Reply.TheVariants as reply
use Rattle.up_wire.specs.declared.requests.Request.{Request}
use Rattle.up_command.specs.Printed.{all_numbered, ended, got_lines, numbered, put_lines}
use Rattle.up_command.specs.Words.{call_path}
use Rattle.up_script_lines.specs.ScriptLines.{line_of}
use Rattle.up_script_lines.specs.declared.script_lines.NewHost.{NewHost}
use Rattle.up_script_lines.specs.declared.script_lines.NewSession.{NewSession}
use Rattle.up_script_lines.specs.declared.script_lines.NewUser.{NewUser}
use Rattle.up_script_lines.specs.declared.script_lines.ScriptLine.{ScriptLine}
use Rattle.up_script_lines.specs.declared.script_lines.ScriptLine.TheVariants as lines
use Rattle.up_script.specs.declared.stop.LineStop.{LineStop}
use Rattle.up_script.specs.declared.stop.LineStop.TheVariants as stop

-- ---- what a line did, and the text that it prints

-- what a line did, with what is printed of it: a name, the session's number, the count of records of full keys, a reply, or a result
pub data LineDid : Type 0 where
  Nothing : LineDid
  HostOpened : Text → LineDid
  Enrolled : UserName → LineDid
  EnrolFull : ℕ → LineDid
  SignedOn : ℕ → LineDid
  NotSigned : ℕ → LineDid
  NoSession : ℕ → LineDid
  BadPath : ℕ → LineDid
  Replied : ℕ → Reply → LineDid
  Put : ℕ → Result ℕ ClientFault → LineDid
  Got : ℕ → Result (List ℕ) ClientFault → LineDid

-- the text that is printed of what a line did
abbrev pub did_text : LineDid → Text
did_text LineDid.Nothing = []
did_text (LineDid.HostOpened name) = ended (codes "host " ++ name)
did_text (LineDid.Enrolled user) = ended (codes "enrolled " ++ user)
did_text (LineDid.EnrolFull records) = ended (codes "enrol full " ++ decimal records)
did_text (LineDid.SignedOn number) = numbered number (codes "open")
did_text (LineDid.NotSigned number) = numbered number (codes "notsigned")
did_text (LineDid.NoSession number) = numbered number (codes "nosession")
did_text (LineDid.BadPath number) = numbered number (codes "invalid name")
did_text (LineDid.Replied number given) = all_numbered number (reply_lines given)
did_text (LineDid.Put number result) = all_numbered number (put_lines result)
did_text (LineDid.Got number result) = all_numbered number (got_lines result)

-- how many lines `io` are printed of what a line did
abbrev pub io_in : LineDid → ℕ
io_in (LineDid.Replied number given) = io_of given
io_in (LineDid.Put number result) = talking.io_in result
io_in (LineDid.Got number result) = talking.io_in result
io_in _ = 0

-- what came of a line: what it did, or why it was not done
abbrev pub LineResult : Type 0
LineResult = Result LineDid LineStop

-- ---- hosts

-- the place of the host with a name
abbrev pub place_of : {D : Type 0} → Hosts D → Text → Option ℕ
place_of a name = position (is_named name) a.hosts

-- A host is new: there are fewer than 8, none has its name, and none has one of its trees.
abbrev pub is_new : {D : Type 0} → Hosts D → NewHost → Bool
is_new a host =
    nat_lt (length a.hosts) 8 && is_none (place_of a host.name) && list_all (λ owner. not (list_any (has_tree owner) a.hosts)) host.owners

module _ {D : Type 0} (disks : disk.Ghosts D) (limits : Limits) where
  -- `host`: a new one is opened over the next disks, unless one of them fails
  pub data HostCame (host : NewHost) (a : Hosts D) : LineResult → Hosts D → Type 0 where
    opened : {b : Hosts D} → is_new a host ≡ true → OpensNext disks limits host.name host.operator host.owners a (Ok tt) b
        → HostCame host a (Ok (LineDid.HostOpened host.name)) b
    not_new : is_new a host ≡ false → HostCame host a (Err stop.Malformed) a
    failed : {b : Hosts D} → is_new a host ≡ true → OpensNext disks limits host.name host.operator host.owners a (Err fault.Fault) b
        → HostCame host a (Err stop.DiskFault) b
    wanting : {b : Hosts D} → is_new a host ≡ true → OpensNext disks limits host.name host.operator host.owners a (Err fault.OutOfMemory) b
        → HostCame host a (Err stop.OutOfMemory) b

module _ {D : Type 0} (disks : disk.Ghosts D) where
  -- `enrol`: a key record that names no endpoints is put to the keys of the host with the name
  pub data EnrolCame (user : NewUser) (a : Hosts D) : LineResult → Hosts D → Type 0 where
    enrolled : {place position : ℕ} {b : Hosts D} → place_of a user.host ≡ Some place
        → EnrolsAt disks place user.user user.key a (Ok position) b → EnrolCame user a (Ok (LineDid.Enrolled user.user)) b
    full : {place records : ℕ} {b : Hosts D} → place_of a user.host ≡ Some place
        → EnrolsAt disks place user.user user.key a (Err (append.Full records)) b → EnrolCame user a (Ok (LineDid.EnrolFull records)) b
    unknown : place_of a user.host ≡ None → EnrolCame user a (Err stop.Malformed) a
    failed : {place : ℕ} {b : Hosts D} → place_of a user.host ≡ Some place
        → EnrolsAt disks place user.user user.key a (Err append.Fault) b → EnrolCame user a (Err stop.DiskFault) b
    wanting : {place : ℕ} {b : Hosts D} → place_of a user.host ≡ Some place
        → EnrolsAt disks place user.user user.key a (Err append.OutOfMemory) b → EnrolCame user a (Err stop.OutOfMemory) b
    unmade : EnrolCame user a (Err stop.OutOfMemory) a

-- what a line did that opened the session, or did not
abbrev pub did_of_open : ℕ → Bool → LineDid
did_of_open number true = LineDid.SignedOn number
did_of_open number false = LineDid.NotSigned number

module _ {D V N : Type 0} (verifiers : verifier.Ghosts V) (drawn : nonces.Ghosts N) where
  -- `open`: a user signs on at the host with the name, unless the verifier fails
  pub data OpenCame (s : NewSession) (a : Hosts D) (v : V) (n : N) : LineResult → Hosts D → V → N → Type 0 where
    judged : {place : ℕ} {is_open : Bool} {b : Hosts D} {w : V} {m : N} → place_of a s.host ≡ Some place
        → SignsOn verifiers drawn s.number place s.user s.proof a v n (Ok is_open) b w m
        → OpenCame s a v n (Ok (did_of_open s.number is_open)) b w m
    unknown : place_of a s.host ≡ None → OpenCame s a v n (Err stop.Malformed) a v n
    failed : {place : ℕ} {b : Hosts D} {w : V} {m : N} → place_of a s.host ≡ Some place
        → SignsOn verifiers drawn s.number place s.user s.proof a v n (Err fault.Fault) b w m
        → OpenCame s a v n (Err stop.HelperFault) b w m
    wanting : {place : ℕ} {b : Hosts D} {w : V} {m : N} → place_of a s.host ≡ Some place
        → SignsOn verifiers drawn s.number place s.user s.proof a v n (Err fault.OutOfMemory) b w m
        → OpenCame s a v n (Err stop.OutOfMemory) b w m

-- ---- sessions

-- the result of a line that got a reply; want of memory ends the run
abbrev pub result_of_reply : ℕ → Reply → LineResult
result_of_reply number reply.OutOfMemory = Err stop.OutOfMemory
result_of_reply number given = Ok (LineDid.Replied number given)

-- the result of a line that puts a file; want of memory ends the run
abbrev pub result_of_put : ℕ → Result ℕ ClientFault → LineResult
result_of_put number (Err client.OutOfMemory) = Err stop.OutOfMemory
result_of_put number result = Ok (LineDid.Put number result)

-- the result of a line that gets a file; want of memory ends the run
abbrev pub result_of_get : ℕ → Result (List ℕ) ClientFault → LineResult
result_of_get number (Err client.OutOfMemory) = Err stop.OutOfMemory
result_of_get number result = Ok (LineDid.Got number result)

module _ {D P C : Type 0} (disks : disk.Ghosts D) (peers : loader.Ghosts P) (clocks : clock.Ghosts C) where
  -- The words of a request: its host is asked, for the user of the session, at the moment that the clock gives; nothing is done where
  -- the session is not open.
  pub data AskCame (number : ℕ) (words : List Text) (a : Hosts D) (p : P) (c : C) : LineResult → Hosts D → P → C → Type 0 where
    no_session : session_at a number ≡ None → AskCame number words a p c (Ok (LineDid.NoSession number)) a p c
    asked : {opened : Opened} {request : Request} {moment : ℕ} {e : Event} {b : Hosts D} {q : P} {d : C}
        → session_at a number ≡ Some opened → request_of opened.session.user words ≡ Some request
        → Gives (clocks.coming c) moment (clocks.coming d)
        → AsksHost disks peers opened.place (record { user = opened.session.user; request = request }) moment e a p b q
        → AskCame number words a p c (result_of_reply number e.reply) b q d
    wanting : AskCame number words a p c (Err stop.OutOfMemory) a p c

  -- what the client does at one moment for the user of a session
  pub data CallDone (opened : Opened) (number moment : ℕ) (path : PathName)
      (a : Hosts D) (p : P) : ClientLine → LineResult → Hosts D → P → Type 0 where
    put : {name bytes : Text} {time sequence : ℤ} {result : Result ℕ ClientFault} {b : Hosts D} {q : P}
        → PutsAt disks peers opened.place opened.session.user moment path time sequence bytes result a p b q
        → CallDone opened number moment path a p (calls.Put name time sequence bytes) (result_of_put number result) b q
    got : {name : Text} {result : Result (List ℕ) ClientFault} {b : Hosts D} {q : P}
        → GetsAt disks peers opened.place opened.session.user moment path result a p b q
        → CallDone opened number moment path a p (calls.Get name) (result_of_get number result) b q

  -- The client's put or get: the clock is read once, also where the path is none; nothing is done where the session is not open.
  pub data CallCame (number : ℕ) (call : ClientLine) (a : Hosts D) (p : P) (c : C) : LineResult → Hosts D → P → C → Type 0 where
    no_session : session_at a number ≡ None → CallCame number call a p c (Ok (LineDid.NoSession number)) a p c
    bad_path : {opened : Opened} {moment : ℕ} {d : C} → session_at a number ≡ Some opened → call_path call ≡ None
        → Gives (clocks.coming c) moment (clocks.coming d) → CallCame number call a p c (Ok (LineDid.BadPath number)) a p d
    called : {opened : Opened} {path : PathName} {moment : ℕ} {came : LineResult} {b : Hosts D} {q : P} {d : C}
        → session_at a number ≡ Some opened → call_path call ≡ Some path → Gives (clocks.coming c) moment (clocks.coming d)
        → CallDone opened number moment path a p call came b q → CallCame number call a p c came b q d
    wanting : CallCame number call a p c (Err stop.OutOfMemory) a p c

-- ---- a line

module _ {D P V C N : Type 0} (who : Parties D P V C N) (limits : Limits) where
  -- what came of what a line says, among all that stands around the hosts
  abbrev pub SaysCame : World D P V C N → ScriptLine → LineResult → World D P V C N → Type 0
  SaysCame a lines.Silent came b = (came ≡ Ok LineDid.Nothing) × (b ≡ a)
  SaysCame a (lines.Host host) came b = HostCame who.disks limits host a.state came b.state × (b.around ≡ a.around)
  SaysCame a (lines.Enrol user) came b = EnrolCame who.disks user a.state came b.state × (b.around ≡ a.around)
  SaysCame a (lines.Open session) came b =
      OpenCame who.verifiers who.nonces session a.state a.around.verifier a.around.nonces came b.state b.around.verifier b.around.nonces
      × (b.around.peers ≡ a.around.peers) × (b.around.clock ≡ a.around.clock)
  SaysCame a (lines.Request number words) came b =
      AskCame who.disks who.peers who.clocks number words a.state a.around.peers a.around.clock came b.state b.around.peers b.around.clock
      × (b.around.verifier ≡ a.around.verifier) × (b.around.nonces ≡ a.around.nonces)
  SaysCame a (lines.Client number call) came b =
      CallCame who.disks who.peers who.clocks number call a.state a.around.peers a.around.clock came b.state b.around.peers b.around.clock
      × (b.around.verifier ≡ a.around.verifier) × (b.around.nonces ≡ a.around.nonces)

  -- What came of a line: it is malformed by itself; or it says something, of which this came; or there was no memory to read it.
  pub data LineCame (a : World D P V C N) (line : Text) : LineResult → World D P V C N → Type 0 where
    malformed : line_of line ≡ None → LineCame a line (Err stop.Malformed) a
    says : {what : ScriptLine} {came : LineResult} {b : World D P V C N}
        → line_of line ≡ Some what → SaysCame a what came b → LineCame a line came b
    unread : LineCame a line (Err stop.OutOfMemory) a
