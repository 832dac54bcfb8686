-- What came of a line, by what whoever is asked answered.
use Rattle.std.proofs.Common.{◌≡◌, ◌≢◌, ◌↔◌, ℕ, ℤ, List, ◌++◌, ◌⊎◌, inl, inr, Option, Some, Result, Ok, Err, refl, sym, ap, subst}
use Rattle.std.specs.Prelude.{IsErrOf, OnOk}
use Rattle.std.specs.Result.{IsErrAnd}
use Rattle.up_client.specs.Getting.{get_talk}
use Rattle.up_client.specs.Putting.{put_talk}
use Rattle.up_client.specs.Talks.{Held}
use Rattle.up_client.specs.declared.fault.ClientFault.{ClientFault}
use Rattle.up_client.specs.declared.fault.ClientFault.TheVariants as client
use Rattle.up_command.specs.Words.{call_path}
use Rattle.up_names.specs.PathNames.{PathName}
use Rattle.up_names.specs.Texts.{Text, UserName}
use Rattle.up_text.specs.ClientFaults.{fault_lines}
use Rattle.up_text.specs.declared.requests.ClientLine.{ClientLine}
use Rattle.up_text.specs.declared.requests.ClientLine.TheVariants as calls
use Rattle.up_wire.specs.declared.replies.Reply.{Reply}
use Rattle.up_wire.specs.declared.replies.Reply.TheVariants as reply
use Rattle.up_wire.specs.declared.requests.Request.{Request}
use Rattle.up_terminal.specs.Answers.{CallCame, LineResult, LineDid, LineGathered, result_of_get, result_of_put, result_of_answer, did_text}
use Rattle.up_terminal.specs.Lines.{lines_text}
use Rattle.up_terminal.specs.declared.stop.LineStop.{LineStop}
use Rattle.up_terminal.specs.declared.stop.LineStop.TheVariants as stop

-- there was no memory to do it
pub unmade : (came : LineResult → Type 0) (old new : Text) (result : Result (Unit {0}) LineStop) → came (Err stop.OutOfMemory) → IsErrAnd result (λ why. why ≡ stop.OutOfMemory) → LineGathered came old result new
unmade came old new (Ok done) none is = absurd is
unmade came old new (Err why) none is = subst (λ (w : LineStop). LineGathered came old (Err w) new) (sym is) (inl none)

-- it was done, and there was no memory for its text
pub unsaid : (came : LineResult → Type 0) (did : LineDid) (old new : Text) (result : Result (Unit {0}) LineStop) → came (Ok did) → IsErrAnd result (λ why. why ≡ stop.OutOfMemory) → LineGathered came old result new
unsaid came did old new (Ok done) made is = absurd is
unsaid came did old new (Err why) made is = subst (λ (w : LineStop). LineGathered came old (Err w) new) (sym is) (inr (did, made))

pub weaker : (came other : LineResult → Type 0) (old new : Text) (result : Result (Unit {0}) LineStop) → ((x : LineResult) → came x → other x) → LineGathered came old result new → LineGathered other old result new
weaker came other old new (Ok done) to h = (h.0, (to (Ok h.0) h.1.0, h.1.1))
weaker came other old new (Err stop.OutOfMemory) to (inl h) = inl (to (Err stop.OutOfMemory) h)
weaker came other old new (Err stop.OutOfMemory) to (inr h) = inr (h.0, to (Ok h.0) h.1)
weaker came other old new (Err stop.AskFault) to h = (to (Err stop.AskFault) h.0, h.1)

-- something was done and said
pub says : (came : LineResult) (did : LineDid) (old new : Text) → came ≡ Ok did → new ≡ old ++ did_text did → (x : LineDid) × ((Ok x ≡ came) × (new ≡ old ++ did_text x))
says came did old new is text = (did, (sym is, text))

-- what is said of a reply that is no want of memory
pub replied_so : (given : Reply) → given ≢ reply.OutOfMemory → result_of_answer (Some given) ≡ Ok (LineDid.Replied given)
replied_so reply.OutOfMemory not = absurd (not refl)
replied_so given not = refl

-- a fault that is another one than that of a line is none
another : ◌≡◌ {A = Result (Unit {0}) LineStop} (Err stop.OutOfMemory) (Err stop.AskFault) → ⊥
another is = cc

-- ---- what is said of a put and a get

put_other : (why : ClientFault) → why ≢ client.OutOfMemory → why ≢ client.Failed → result_of_put (Err why) ≡ Ok (LineDid.Put (Err why))
put_other client.OutOfMemory wants fails = absurd (wants refl)
put_other client.Failed wants fails = absurd (fails refl)
put_other why wants fails = refl

put_wanting : (why : ClientFault) → why ≢ client.Failed → (Err stop.OutOfMemory ≡ result_of_put (Err why)) ⊎ ((did : LineDid) × (Ok did ≡ result_of_put (Err why)))
put_wanting client.OutOfMemory fails = inl refl
put_wanting client.Failed fails = absurd (fails refl)
put_wanting why fails = inr (LineDid.Put (Err why), refl)

-- a put failed
pub put_failed : (why : ClientFault) (outcome : Result ℕ ClientFault) (old new : Text) (result : Result (Unit {0}) LineStop) → outcome ≡ Err why → OnOk result ((why ≢ client.OutOfMemory) × (why ≢ client.Failed) × (new ≡ old ++ lines_text (fault_lines why)))
    → (IsErrOf result stop.AskFault ↔ (why ≡ client.Failed)) → (IsErrOf result stop.AskFault → new ≡ old) → LineGathered (λ came. came ≡ result_of_put outcome) old result new
put_failed why outcome old new (Ok done) is text failed kept =
    subst (λ (r : Result ℕ ClientFault). LineGathered (λ came. came ≡ result_of_put r) old (Ok done) new) (sym is) (LineDid.Put (Err why), (sym (put_other why text.0 text.1), text.2))
put_failed why outcome old new (Err stop.OutOfMemory) is text failed kept =
    subst (λ (r : Result ℕ ClientFault). LineGathered (λ came. came ≡ result_of_put r) old (Err stop.OutOfMemory) new) (sym is) (put_wanting why (λ fails. another (failed.1 fails)))
put_failed why outcome old new (Err stop.AskFault) is text failed kept =
    subst (λ (r : Result ℕ ClientFault). LineGathered (λ came. came ≡ result_of_put r) old (Err stop.AskFault) new) (sym is) (ap (λ (w : ClientFault). result_of_put (Err w)) (sym (failed.0 refl)), kept refl)

got_other : (why : ClientFault) → why ≢ client.OutOfMemory → why ≢ client.Failed → result_of_get (Err why) ≡ Ok (LineDid.Got (Err why))
got_other client.OutOfMemory wants fails = absurd (wants refl)
got_other client.Failed wants fails = absurd (fails refl)
got_other why wants fails = refl

got_wanting : (why : ClientFault) → why ≢ client.Failed → (Err stop.OutOfMemory ≡ result_of_get (Err why)) ⊎ ((did : LineDid) × (Ok did ≡ result_of_get (Err why)))
got_wanting client.OutOfMemory fails = inl refl
got_wanting client.Failed fails = absurd (fails refl)
got_wanting why fails = inr (LineDid.Got (Err why), refl)

-- a get failed
pub got_failed : (why : ClientFault) (outcome : Result (List ℕ) ClientFault) (old new : Text) (result : Result (Unit {0}) LineStop) → outcome ≡ Err why → OnOk result ((why ≢ client.OutOfMemory) × (why ≢ client.Failed) × (new ≡ old ++ lines_text (fault_lines why)))
    → (IsErrOf result stop.AskFault ↔ (why ≡ client.Failed)) → (IsErrOf result stop.AskFault → new ≡ old) → LineGathered (λ came. came ≡ result_of_get outcome) old result new
got_failed why outcome old new (Ok done) is text failed kept =
    subst (λ (r : Result (List ℕ) ClientFault). LineGathered (λ came. came ≡ result_of_get r) old (Ok done) new) (sym is) (LineDid.Got (Err why), (sym (got_other why text.0 text.1), text.2))
got_failed why outcome old new (Err stop.OutOfMemory) is text failed kept =
    subst (λ (r : Result (List ℕ) ClientFault). LineGathered (λ came. came ≡ result_of_get r) old (Err stop.OutOfMemory) new) (sym is) (got_wanting why (λ fails. another (failed.1 fails)))
got_failed why outcome old new (Err stop.AskFault) is text failed kept =
    subst (λ (r : Result (List ℕ) ClientFault). LineGathered (λ came. came ≡ result_of_get r) old (Err stop.AskFault) new) (sym is) (ap (λ (w : ClientFault). result_of_get (Err w)) (sym (failed.0 refl)), kept refl)

-- ---- what the client did

module _ {S : Type 0} (answers : S → Request → Option Reply → S → Type 0) (user : UserName) where
  -- it put a file: what was handed on is what the line says
  pub put_came : (a b : S) (call : ClientLine) (path : PathName) (name bytes content : Text) (time sequence seconds wanted : ℤ) (result : Result ℕ ClientFault) (came : LineResult) → call_path call ≡ Some path → call ≡ calls.Put name time sequence bytes → seconds ≡ time
      → wanted ≡ sequence → content ≡ bytes → Held answers (put_talk user path seconds wanted content) a result b → came ≡ result_of_put result → CallCame answers user a call came b
  put_came a b call path name bytes content time sequence seconds wanted result came there is same_time same_sequence same_bytes held told =
      let named : call_path (calls.Put name time sequence bytes) ≡ Some path = subst (λ (k : ClientLine). call_path k ≡ Some path) is there in
      let first : Held answers (put_talk user path time wanted content) a result b = subst (λ (z : ℤ). Held answers (put_talk user path z wanted content) a result b) same_time held in
      let second : Held answers (put_talk user path time sequence content) a result b = subst (λ (z : ℤ). Held answers (put_talk user path time z content) a result b) same_sequence first in
      let third : Held answers (put_talk user path time sequence bytes) a result b = subst (λ (x : Text). Held answers (put_talk user path time sequence x) a result b) same_bytes second in
      let done : CallCame answers user a (calls.Put name time sequence bytes) (result_of_put result) b = CallCame.put named third in
      subst (λ (k : ClientLine). CallCame answers user a k came b) (sym is) (subst (λ (x : LineResult). CallCame answers user a (calls.Put name time sequence bytes) x b) (sym told) done)

  -- it got a file
  pub got_came : (a b : S) (call : ClientLine) (path : PathName) (name : Text) (result : Result (List ℕ) ClientFault) (came : LineResult) → call_path call ≡ Some path → call ≡ calls.Get name → Held answers (get_talk path) a result b → came ≡ result_of_get result
      → CallCame answers user a call came b
  got_came a b call path name result came there is held told =
      let named : call_path (calls.Get name) ≡ Some path = subst (λ (k : ClientLine). call_path k ≡ Some path) is there in
      let done : CallCame answers user a (calls.Get name) (result_of_get result) b = CallCame.got named held in
      subst (λ (k : ClientLine). CallCame answers user a k came b) (sym is) (subst (λ (x : LineResult). CallCame answers user a (calls.Get name) x b) (sym told) done)
