-- How a call on a script ends, by what its parts answered.
use Rattle.std.proofs.Common.{◌≡◌, ◌≢◌, ◌≤◌, ◌<◌, ◌+◌, ℕ, ℤ, Bool, true, List, [], ◌∷◌, ◌++◌, ◌⊎◌, inl, inr, length, Option, Some, None, option_map, Result, Ok, Err, refl, sym, ap, subst}
use Rattle.std.proofs.lemmas.Bool.{and_parts, ltb-true}
use Rattle.std.proofs.lemmas.List.Quantifiers.{position-Some}
use Rattle.std.specs.List.{list_all, list_any}
use Rattle.std.specs.Prelude.{IfErr, IfSome, IsSome, OnOk, is_none, is_some, nat_lt, not, position}
use Rattle.std.specs.Result.{IsErrAnd}
use Rattle.up_client.specs.declared.fault.ClientFault.{ClientFault}
use Rattle.up_client.specs.declared.fault.ClientFault.TheVariants as client
use Rattle.up_disk.specs.declared.disk.Disk.{Ghosts}
use Rattle.up_ends.specs.Telling.{Gives}
use Rattle.up_ends.specs.declared.clock.Clock as clock
use Rattle.up_ends.specs.declared.nonces.Nonces as nonces
use Rattle.up_ends.specs.declared.verifier.Verifier as verifier
use Rattle.up_calls.specs.declared.event.Event.{Event}
use Rattle.up_journal.specs.declared.fault.AppendWhy.{AppendWhy}
use Rattle.up_journal.specs.declared.fault.AppendWhy.TheVariants as append
use Rattle.up_journal.specs.declared.limits.Limits.{Limits}
use Rattle.up_names.specs.PathNames.{PathName}
use Rattle.up_names.specs.Texts.{Text, UserName}
use Rattle.up_peer.specs.declared.loader.Loader as loader
use Rattle.up_sessions.proofs.FitLemmas.{fit_room}
use Rattle.up_sessions.specs.Asking.{AsksHost}
use Rattle.up_sessions.specs.Fitting.{IsFit}
use Rattle.up_sessions.specs.Opening.{EnrolsAt, OpensNext}
use Rattle.up_sessions.specs.Others.{has_tree}
use Rattle.up_sessions.specs.Signing.{SignsOn}
use Rattle.up_sessions.specs.Talking.{GetsAt, PutsAt}
use Rattle.up_sessions.specs.Worlds.{Hosts, session_at}
use Rattle.up_sessions.specs.declared.fault.LineFault.{LineFault}
use Rattle.up_sessions.specs.declared.fault.LineFault.TheVariants as fault
use Rattle.up_sessions.specs.declared.opened.Opened.{Opened}
use Rattle.up_text.specs.ClientFaults.{fault_lines}
use Rattle.up_text.specs.Requests.{request_of}
use Rattle.up_text.specs.declared.requests.ClientLine.{ClientLine}
use Rattle.up_text.specs.declared.requests.ClientLine.TheVariants as calls
use Rattle.up_wire.specs.declared.replies.Reply.{Reply}
use Rattle.up_wire.specs.declared.replies.Reply.TheVariants as reply
use Rattle.up_wire.specs.declared.requests.Request.{Request}
use Rattle.up_script.proofs.LineLemmas.{Good, good_of}
use Rattle.up_script.proofs.OwnerLemmas.{owners_few}
use Rattle.up_script_lines.specs.ScriptLines.{are_owners, line_of}
use Rattle.up_script.specs.ScriptRuns.{LineGathered}
use Rattle.up_command.specs.Printed.{all_numbered}
use Rattle.up_command.specs.Words.{call_path}
use Rattle.up_script.specs.Scripts.{AskCame, CallCame, CallDone, LineResult, LineDid, EnrolCame, HostCame, OpenCame, result_of_get, is_new, place_of, result_of_put, result_of_reply, did_text}
use Rattle.up_script_lines.specs.Askable.{IsAskable}
use Rattle.up_script.specs.Turns.{IsGood, result_of_enrol, result_of_host, result_of_open}
use Rattle.up_script_lines.specs.declared.script_lines.NewHost.{NewHost}
use Rattle.up_script_lines.specs.declared.script_lines.NewSession.{NewSession}
use Rattle.up_script_lines.specs.declared.script_lines.NewUser.{NewUser}
use Rattle.up_script_lines.specs.declared.script_lines.ScriptLine.{ScriptLine}
use Rattle.up_script_lines.specs.declared.script_lines.ScriptLine.TheVariants as lines
use Rattle.up_script.specs.declared.stop.LineStop.{LineStop}
use Rattle.up_script.specs.declared.stop.LineStop.TheVariants as stop

-- ---- want of memory

-- there was no memory to do it
pub unmade : (came : LineResult → Type 0) (old new : Text) (result : Result (Unit {0}) LineStop) → came (Err stop.OutOfMemory) → IsErrAnd result (λ why. why ≡ stop.OutOfMemory) → LineGathered came old result new
unmade came old new (Ok done) none is = absurd is
unmade came old new (Err why) none is = subst (λ w. LineGathered came old (Err w) new) (sym is) (inl none)

-- it was done, and there was no memory for its text
pub unsaid : (came : LineResult → Type 0) (did : LineDid) (old new : Text) (result : Result (Unit {0}) LineStop) → came (Ok did) → IsErrAnd result (λ why. why ≡ stop.OutOfMemory) → LineGathered came old result new
unsaid came did old new (Ok done) made is = absurd is
unsaid came did old new (Err why) made is = subst (λ w. LineGathered came old (Err w) new) (sym is) (inr (did, made))

-- ---- hosts

-- where a test finds something, that stands in the list
pub within : {X : Type 0} (p : X → Bool) (xs : List X) (i : ℕ) → position p xs ≡ Some i → i < length xs
within p [] i h = absurd (cc)
within p (x ∷ xs) i h = (position-Some p (x ∷ xs) i x h).0

few_hosts : {D : Type 0} (a : Hosts D) (host : NewHost) → is_new a host ≡ true → length a.hosts < 8
few_hosts a host new =
    ltb-true (length a.hosts) 8 (and_parts (nat_lt (length a.hosts) 8) (is_none (place_of a host.name)) (and_parts _ (list_all (λ owner. not (list_any (has_tree owner) a.hosts)) host.owners) new).0).0

-- there are disks for a new host
pub room_for : {D : Type 0} (disks : Ghosts D) (a : Hosts D) (host : NewHost) → IsFit disks a → is_new a host ≡ true → are_owners host.owners ≡ true → length host.owners + 2 ≤ length a.free
room_for disks a host fit new good = fit_room disks a (length host.owners) fit (few_hosts a host new) (owners_few host.owners good)

-- ---- what came of a call, by what the hosts answered

pub weaker : (came other : LineResult → Type 0) (old new : Text) (result : Result (Unit {0}) LineStop) → ((x : LineResult) → came x → other x) → LineGathered came old result new → LineGathered other old result new
weaker came other old new (Ok done) to h = (h.0, (to (Ok h.0) h.1.0, h.1.1))
weaker came other old new (Err stop.OutOfMemory) to (inl h) = inl (to (Err stop.OutOfMemory) h)
weaker came other old new (Err stop.OutOfMemory) to (inr h) = inr (h.0, to (Ok h.0) h.1)
weaker came other old new (Err stop.Malformed) to h = (to (Err stop.Malformed) h.0, h.1)
weaker came other old new (Err stop.HelperFault) to h = (to (Err stop.HelperFault) h.0, h.1)
weaker came other old new (Err stop.DiskFault) to h = (to (Err stop.DiskFault) h.0, h.1)

-- something was done and said
pub says : (came : LineResult) (did : LineDid) (old new : Text) → came ≡ Ok did → new ≡ old ++ did_text did → (x : LineDid) × ((Ok x ≡ came) × (new ≡ old ++ did_text x))
says came did old new is text = (did, (sym is, text))

-- a host was opened, or was not, under its name
pub host_came : {D : Type 0} (disks : Ghosts D) (limits : Limits) (host : NewHost) (a b : Hosts D) (name : Text) (result : Result (Unit {0}) LineFault) (came : LineResult) → is_new a host ≡ true → OpensNext disks limits name host.operator host.owners a result b → name ≡ host.name → came ≡ result_of_host host.name result → HostCame disks limits host a came b
host_came disks limits host a b name (Ok done) came new opens named said =
    subst (λ x. HostCame disks limits host a x b) (sym said) (HostCame.opened new (subst (λ n. OpensNext disks limits n host.operator host.owners a (Ok tt) b) named opens))
host_came disks limits host a b name (Err fault.Fault) came new opens named said =
    subst (λ x. HostCame disks limits host a x b) (sym said) (HostCame.failed new (subst (λ n. OpensNext disks limits n host.operator host.owners a (Err fault.Fault) b) named opens))
host_came disks limits host a b name (Err fault.OutOfMemory) came new opens named said =
    subst (λ x. HostCame disks limits host a x b) (sym said) (HostCame.wanting new (subst (λ n. OpensNext disks limits n host.operator host.owners a (Err fault.OutOfMemory) b) named opens))

-- a user was enrolled, or was not
pub enrol_came : {D : Type 0} (disks : Ghosts D) (user : NewUser) (a b : Hosts D) (place : ℕ) (result : Result ℕ AppendWhy) (came : LineResult) → place_of a user.host ≡ Some place → EnrolsAt disks place user.user user.key a result b → came ≡ result_of_enrol user.user result → EnrolCame disks user a came b
enrol_came disks user a b place (Ok position) came there enrols said = subst (λ x. EnrolCame disks user a x b) (sym said) (EnrolCame.enrolled there enrols)
enrol_came disks user a b place (Err (append.Full records)) came there enrols said = subst (λ x. EnrolCame disks user a x b) (sym said) (EnrolCame.full there enrols)
enrol_came disks user a b place (Err append.Fault) came there enrols said = subst (λ x. EnrolCame disks user a x b) (sym said) (EnrolCame.failed there enrols)
enrol_came disks user a b place (Err append.OutOfMemory) came there enrols said = subst (λ x. EnrolCame disks user a x b) (sym said) (EnrolCame.wanting there enrols)

-- a user signed on, or did not
pub sign_came : {D V N : Type 0} (verifiers : verifier.Ghosts V) (drawn : nonces.Ghosts N) (s : NewSession) (a b : Hosts D) (v w : V) (n m : N) (place : ℕ) (signature : Text) (result : Result Bool LineFault) (came : LineResult) → place_of a s.host ≡ Some place
    → SignsOn verifiers drawn s.number place s.user signature a v n result b w m → signature ≡ s.proof → came ≡ result_of_open s.number result → OpenCame verifiers drawn s a v n came b w m
sign_came verifiers drawn s a b v w n m place signature (Ok is_open) came there signs same said =
    subst (λ x. OpenCame verifiers drawn s a v n x b w m) (sym said) (OpenCame.judged {is_open = is_open} there (subst (λ x. SignsOn verifiers drawn s.number place s.user x a v n (Ok is_open) b w m) same signs))
sign_came verifiers drawn s a b v w n m place signature (Err fault.Fault) came there signs same said =
    subst (λ x. OpenCame verifiers drawn s a v n x b w m) (sym said) (OpenCame.failed there (subst (λ x. SignsOn verifiers drawn s.number place s.user x a v n (Err fault.Fault) b w m) same signs))
sign_came verifiers drawn s a b v w n m place signature (Err fault.OutOfMemory) came there signs same said =
    subst (λ x. OpenCame verifiers drawn s a v n x b w m) (sym said) (OpenCame.wanting there (subst (λ x. SignsOn verifiers drawn s.number place s.user x a v n (Err fault.OutOfMemory) b w m) same signs))

-- ---- sessions

-- the session of a user that is open
pub record Open (found : Option Opened) (user : UserName) : Type 0 where
  pub opened : Opened
  pub there : found ≡ Some opened
  pub is : opened.session.user ≡ user

pub open_of : (found : Option Opened) (user : UserName) → Some user ≡ option_map (λ (opened : Opened). opened.session.user) found → Open found user
open_of None user h = absurd (cc)
open_of (Some opened) user h = record { opened = opened; there = refl; is = let e : user ≡ opened.session.user = cc in sym e }

pub not_open : (found : Option Opened) → None ≡ option_map (λ (opened : Opened). opened.session.user) found → found ≡ None
not_open None h = refl
not_open (Some opened) h = absurd (cc)

pub is_open : (found : Option Opened) (opened : Opened) → found ≡ Some opened → IsSome found
is_open found opened is = ap is_some is

the_session : (found : Option Opened) → IsSome found → (opened : Opened) × (found ≡ Some opened)
the_session None some = absurd (cc)
the_session (Some opened) some = (opened, refl)

-- what is said of a reply that is no want of memory
pub replied_so : (number : ℕ) (given : Reply) → given ≢ reply.OutOfMemory → result_of_reply number given ≡ Ok (LineDid.Replied number given)
replied_so number reply.OutOfMemory not = absurd (not refl)
replied_so number given not = refl

module _ {D P C : Type 0} (disks : Ghosts D) (peers : loader.Ghosts P) (clocks : clock.Ghosts C) (number : ℕ) (a b : Hosts D) (p q : P) (c d : C) where
  -- a request was answered
  pub ask_came : (words : List Text) (opened : Opened) (user : UserName) (request : Request) (moment : ℕ) (e : Event) → session_at a number ≡ Some opened → opened.session.user ≡ user → Some request ≡ request_of user words → Gives (clocks.coming c) moment (clocks.coming d)
      → IfSome (session_at a number) (λ (one : Opened). AsksHost disks peers one.place (record { user = one.session.user; request = request }) moment e a p b q)
      → AskCame disks peers clocks number words a p c (result_of_reply number e.reply) b q d
  ask_came words opened user request moment e there is asked read asks =
      AskCame.asked there (subst (λ u. request_of u words ≡ Some request) (sym is) (sym asked)) read
      (subst (λ found. IfSome found (λ (one : Opened). AsksHost disks peers one.place (record { user = one.session.user; request = request }) moment e a p b q)) there asks)

  -- the client put a file: what was handed on is what the line says
  pub put_came : (call : ClientLine) (path : PathName) (moment : ℕ) (name bytes content : Text) (time sequence seconds wanted : ℤ) (result : Result ℕ ClientFault) (came : LineResult) → IsSome (session_at a number) → call_path call ≡ Some path → Gives (clocks.coming c) moment (clocks.coming d)
      → call ≡ calls.Put name time sequence bytes → seconds ≡ time → wanted ≡ sequence → content ≡ bytes
      → IfSome (session_at a number) (λ (one : Opened). PutsAt disks peers one.place one.session.user moment path seconds wanted content result a p b q)
      → came ≡ result_of_put number result → CallCame disks peers clocks number call a p c came b q d
  put_came call path moment name bytes content time sequence seconds wanted result came there named read is same_time same_sequence same_bytes puts said =
      let open_at = the_session (session_at a number) there in
      let made : PutsAt disks peers open_at.0.place open_at.0.session.user moment path seconds wanted content result a p b q =
      subst (λ found. IfSome found (λ (one : Opened). PutsAt disks peers one.place one.session.user moment path seconds wanted content result a p b q)) open_at.1 puts in
      let first : PutsAt disks peers open_at.0.place open_at.0.session.user moment path time wanted content result a p b q =
      subst (λ z. PutsAt disks peers open_at.0.place open_at.0.session.user moment path z wanted content result a p b q) same_time made in
      let second : PutsAt disks peers open_at.0.place open_at.0.session.user moment path time sequence content result a p b q =
      subst (λ z. PutsAt disks peers open_at.0.place open_at.0.session.user moment path time z content result a p b q) same_sequence first in
      let third : PutsAt disks peers open_at.0.place open_at.0.session.user moment path time sequence bytes result a p b q =
      subst (λ x. PutsAt disks peers open_at.0.place open_at.0.session.user moment path time sequence x result a p b q) same_bytes second in
      let done : CallDone disks peers clocks open_at.0 number moment path a p (calls.Put name time sequence bytes) (result_of_put number result) b q = CallDone.put third in
      CallCame.called open_at.1 named read
      (subst (λ k. CallDone disks peers clocks open_at.0 number moment path a p k came b q) (sym is)
      (subst (λ x. CallDone disks peers clocks open_at.0 number moment path a p (calls.Put name time sequence bytes) x b q) (sym said) done))

  -- the client got a file
  pub get_came : (call : ClientLine) (path : PathName) (moment : ℕ) (name : Text) (result : Result (List ℕ) ClientFault) (came : LineResult) → IsSome (session_at a number) → call_path call ≡ Some path → Gives (clocks.coming c) moment (clocks.coming d)
      → call ≡ calls.Get name
      → IfSome (session_at a number) (λ (one : Opened). GetsAt disks peers one.place one.session.user moment path result a p b q)
      → came ≡ result_of_get number result → CallCame disks peers clocks number call a p c came b q d
  get_came call path moment name result came there named read is gets said =
      let open_at = the_session (session_at a number) there in
      let done : CallDone disks peers clocks open_at.0 number moment path a p (calls.Get name) (result_of_get number result) b q =
      CallDone.got (subst (λ found. IfSome found (λ (one : Opened). GetsAt disks peers one.place one.session.user moment path result a p b q)) open_at.1 gets) in
      CallCame.called open_at.1 named read
      (subst (λ k. CallDone disks peers clocks open_at.0 number moment path a p k came b q) (sym is)
      (subst (λ x. CallDone disks peers clocks open_at.0 number moment path a p (calls.Get name) x b q) (sym said) done))

-- ---- what is said of a put and a get

put_other : (number : ℕ) (why : ClientFault) → why ≢ client.OutOfMemory → result_of_put number (Err why) ≡ Ok (LineDid.Put number (Err why))
put_other number client.OutOfMemory not = absurd (not refl)
put_other number why not = refl

put_wanting : (number : ℕ) (why : ClientFault) → (Err stop.OutOfMemory ≡ result_of_put number (Err why)) ⊎ ((did : LineDid) × (Ok did ≡ result_of_put number (Err why)))
put_wanting number client.OutOfMemory = inl refl
put_wanting number why = inr (LineDid.Put number (Err why), refl)

-- a put failed
pub put_failed : (number : ℕ) (why : ClientFault) (outcome : Result ℕ ClientFault) (old new : Text) (result : Result (Unit {0}) LineStop) → outcome ≡ Err why → OnOk result ((why ≢ client.OutOfMemory) × (new ≡ old ++ all_numbered number (fault_lines why)))
    → IfErr result (λ w. w ≡ stop.OutOfMemory) → LineGathered (λ came. came ≡ result_of_put number outcome) old result new
put_failed number why outcome old new (Ok done) is said wanting =
    subst (λ r. LineGathered (λ came. came ≡ result_of_put number r) old (Ok done) new) (sym is) (LineDid.Put number (Err why), (sym (put_other number why said.0), said.1))
put_failed number why outcome old new (Err w) is said wanting =
    subst (λ r. LineGathered (λ came. came ≡ result_of_put number r) old (Err w) new) (sym is) (subst (λ x. LineGathered (λ came. came ≡ result_of_put number (Err why)) old (Err x) new) (sym wanting) (put_wanting number why))

got_other : (number : ℕ) (why : ClientFault) → why ≢ client.OutOfMemory → result_of_get number (Err why) ≡ Ok (LineDid.Got number (Err why))
got_other number client.OutOfMemory not = absurd (not refl)
got_other number why not = refl

got_wanting : (number : ℕ) (why : ClientFault) → (Err stop.OutOfMemory ≡ result_of_get number (Err why)) ⊎ ((did : LineDid) × (Ok did ≡ result_of_get number (Err why)))
got_wanting number client.OutOfMemory = inl refl
got_wanting number why = inr (LineDid.Got number (Err why), refl)

-- a get failed
pub got_failed : (number : ℕ) (why : ClientFault) (outcome : Result (List ℕ) ClientFault) (old new : Text) (result : Result (Unit {0}) LineStop) → outcome ≡ Err why → OnOk result ((why ≢ client.OutOfMemory) × (new ≡ old ++ all_numbered number (fault_lines why)))
    → IfErr result (λ w. w ≡ stop.OutOfMemory) → LineGathered (λ came. came ≡ result_of_get number outcome) old result new
got_failed number why outcome old new (Ok done) is said wanting =
    subst (λ r. LineGathered (λ came. came ≡ result_of_get number r) old (Ok done) new) (sym is) (LineDid.Got number (Err why), (sym (got_other number why said.0), said.1))
got_failed number why outcome old new (Err w) is said wanting =
    subst (λ r. LineGathered (λ came. came ≡ result_of_get number r) old (Err w) new) (sym is) (subst (λ x. LineGathered (λ came. came ≡ result_of_get number (Err why)) old (Err x) new) (sym wanting) (got_wanting number why))

-- ---- lines

-- what is known of what a line says
pub good_line : (line : Text) (what : ScriptLine) → line_of line ≡ Some what → IsAskable what → IsGood what
good_line line what is asks = by what (good_of line what is) asks
  where
    by : (one : ScriptLine) → Good one → IsAskable one → IsGood one
    by lines.Silent good askable = tt
    by (lines.Host host) good askable = good
    by (lines.Enrol user) good askable = good
    by (lines.Open session) good askable = good
    by (lines.Request number words) good askable = askable
    by (lines.Client number call) good askable = tt
