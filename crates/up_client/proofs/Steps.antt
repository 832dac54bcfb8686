-- What one reply says on the way to the end of all links.
use Rattle.std.specs.Prelude.{IsErrOf}
use Rattle.std.proofs.Common.{◌≡◌, ◌≢◌, ◌≤◌, ◌-◌, ◌∙◌, ℕ, suc, zero, Bool, true, false, nat_lt, if◌then◌else◌, length, Option, Some, None, Result, Ok, Err, refl, sym, subst, arith}
use Rattle.up_names.specs.PathNames.{PathName, canonical}
use Rattle.up_wire.specs.declared.requests.Request.{Request}
use Rattle.up_wire.specs.declared.replies.Done.{Done}
use Rattle.up_wire.specs.declared.replies.Reply.{Reply}
use Rattle.up_client.specs.declared.ask.Ask.{Ghosts}
use Rattle.up_client.specs.declared.fault.ClientFault.{ClientFault}
use Rattle.up_client.specs.declared.fault.ClientFault.TheVariants as faults
use Rattle.up_client.specs.declared.links.Step.{Step}
use Rattle.up_client.specs.declared.links.Step.TheVariants as steps
use Rattle.up_client.specs.Links.{following, leads_to, led, next_to, short, step_of, step_to}
use Rattle.up_client.specs.Replies.{◌>>=◌, outcome}
use Rattle.up_client.specs.Talks.{Meant, Talks, and_then, done, reply_to}
use Rattle.up_client.proofs.Following.{follow_ended, follow_led}
use Rattle.up_client.proofs.Holding.{IsAnswered, outcome_answered, talks_meant, talks_stop, talks_then}

-- what is meant is meant
pub meant_same : {X : Type 0} (result meant : Result X ClientFault) → result ≡ meant → Meant result meant
meant_same (Ok x) meant is = sym is
meant_same (Err fault) meant is = λ other. sym is

-- the first of two was meant, and the second is of it
pub meant_then : {X Y : Type 0} (first : Result X ClientFault) (more : X → Result Y ClientFault) (x : X) (result : Result Y ClientFault)
    → first ≡ Ok x → result ≡ more x → Meant result (first >>= more)
meant_then {X} first more x result was is = subst (λ (r : Result X ClientFault). Meant result (r >>= more)) (sym was) (meant_same result (more x) is)

-- the fault of the first of two was meant
pub meant_stop : {X Y : Type 0} (first : Result X ClientFault) (more : X → Result Y ClientFault) (fault : ClientFault)
    → (fault ≢ faults.OutOfMemory → first ≡ Err fault) → fault ≢ faults.OutOfMemory → (first >>= more) ≡ Err fault
meant_stop {X} first more fault was other = subst (λ (r : Result X ClientFault). (r >>= more) ≡ Err fault) (sym (was other)) refl

failed_in : {X : Type 0} (fault : ClientFault) → IsErrOf {T = X} (Err fault) faults.Failed → fault ≡ faults.Failed
failed_in fault is = cc

-- what is meant is no want of an answer, and so is its fault
not_failed : {X : Type 0} (meant : Result X ClientFault) (fault : ClientFault) → IsAnswered meant → (fault ≢ faults.OutOfMemory → meant ≡ Err fault) → IsAnswered {X = X} (Err fault)
not_failed {X} meant fault answered is failed =
    let here : fault ≡ faults.Failed = failed_in fault failed in
    let same : meant ≡ Err fault = is (λ none. cc) in
    answered (subst (λ (r : Result X ClientFault). IsErrOf r faults.Failed) (sym same) failed)

-- a fault of the outcome
undone : (r : Result Done ClientFault) (fault : ClientFault) → (r >>= (λ (d : Done). Ok (steps.Done d))) ≡ Err fault → r ≡ Err fault
undone (Ok d) fault is = absurd (cc)
undone (Err other) fault is = cc

-- a fault of the path
unfit : (r : Result PathName ClientFault) (reply : Reply) (fault : ClientFault) → ((r >>= (λ (fit : PathName). Ok (Some fit))) >>= step_of reply) ≡ Err fault → r ≡ Err fault
unfit (Ok fit) reply fault is = absurd (cc)
unfit (Err other) reply fault is = cc

abbrev stopped : {X : Type 0} → ClientFault → Result X ClientFault
stopped fault = Err fault

too_many : (fault : ClientFault) → stopped {X = Step} faults.TooManyLinks ≡ Err fault → stopped {X = Done} faults.TooManyLinks ≡ Err fault
too_many fault is = cc

tested_answered : (long : Bool) (path : PathName) → IsAnswered (if long then Err faults.TooLong else Ok path)
tested_answered true path failed = cc
tested_answered false path failed = cc

fit_answered : (path : PathName) → IsAnswered (short path)
fit_answered path = tested_answered (nat_lt 4096 (length (canonical path))) path

-- the outcome was done
done_in : (r : Result Done ClientFault) (d : Done) → (r >>= (λ (e : Done). Ok (steps.Done e))) ≡ Ok (steps.Done d) → r ≡ Ok d
done_in (Ok e) d is = cc
done_in (Err fault) d is = absurd (cc)

not_on : (r : Result Done ClientFault) (next : PathName) → (r >>= (λ (e : Done). Ok (steps.Done e))) ≡ Ok (steps.On next) → ⊥
not_on (Ok e) next is = cc
not_on (Err fault) next is = cc

not_done : (r : Result PathName ClientFault) (reply : Reply) (d : Done) → ((r >>= (λ (fit : PathName). Ok (Some fit))) >>= step_of reply) ≡ Ok (steps.Done d) → ⊥
not_done (Ok fit) reply d is = cc
not_done (Err fault) reply d is = cc

fit_in : (r : Result PathName ClientFault) (reply : Reply) (next : PathName) → ((r >>= (λ (fit : PathName). Ok (Some fit))) >>= step_of reply) ≡ Ok (steps.On next) → r ≡ Ok next
fit_in (Ok fit) reply next is = cc
fit_in (Err fault) reply next is = absurd (cc)

-- it is done only where the reply leads nowhere
ended_at : (more : ℕ) (o : Option PathName) (reply : Reply) (d : Done) → (next_to more o >>= step_of reply) ≡ Ok (steps.Done d) → (o ≡ None) × (outcome reply ≡ Ok d)
ended_at more None reply d is = (refl, done_in (outcome reply) d is)
ended_at zero (Some to) reply d is = absurd (cc)
ended_at (suc more) (Some to) reply d is = absurd (not_done (short to) reply d is)

-- it goes on only of one more
pub on_some : (more : ℕ) (o : Option PathName) (reply : Reply) (next : PathName) → (next_to more o >>= step_of reply) ≡ Ok (steps.On next) → 1 ≤ more
on_some more None reply next is = absurd (not_on (outcome reply) next is)
on_some zero (Some to) reply next is = absurd (cc)
on_some (suc more) (Some to) reply next is = grind (arith)

less_of : (more : ℕ) → 1 ≤ more → more ≡ suc (more - 1)
less_of more some = grind (arith)

-- the step, by what it is
pub stepped : (more : ℕ) (path : PathName) (reply : Reply) (step other : Step) → step_to more path reply ≡ Ok step → step ≡ other → step_to more path reply ≡ Ok other
stepped more path reply step other was is = was ∙ (λ j. Ok (is j))

-- the same, of the step itself
pub on_some_step : (more : ℕ) (path : PathName) (reply : Reply) (step : Step) (next : PathName) → step_to more path reply ≡ Ok step → step ≡ steps.On next → 1 ≤ more
on_some_step more path reply step next was is = on_some more (leads_to path reply) reply next (was ∙ (λ j. Ok (is j)))

module _ {S : Type 0} (asked : Ghosts S) (same : (a : S) → asked.tied a a) (joined : (a b c : S) → asked.tied a b → asked.tied b c → asked.tied a c) (request : PathName → Request) where
  -- the outcome is a fault, or memory was wanting
  fault_ended : (b : S) (reply : Reply) (fault : ClientFault) → (fault ≢ faults.OutOfMemory → (outcome reply >>= (λ (d : Done). Ok (steps.Done d))) ≡ Err fault)
      → Talks asked (done (outcome reply)) b (Err fault) b
  fault_ended b reply fault meant =
      let is : fault ≢ faults.OutOfMemory → outcome reply ≡ Err fault = λ other. undone (outcome reply) fault (meant other) in
      talks_meant asked same joined (Err fault) (outcome reply) b (not_failed (outcome reply) fault (outcome_answered reply) is) is

  fault_last : (b : S) (reply : Reply) (fault : ClientFault) (o : Option PathName) → (fault ≢ faults.OutOfMemory → (next_to 0 o >>= step_of reply) ≡ Err fault)
      → Talks asked (led o (λ next. done (Err faults.TooManyLinks)) reply) b (Err fault) b
  fault_last b reply fault None meant = fault_ended b reply fault meant
  fault_last b reply fault (Some to) meant =
      let is : fault ≢ faults.OutOfMemory → stopped {X = Done} faults.TooManyLinks ≡ Err fault = λ other. too_many fault (meant other) in
      talks_meant asked same joined (Err fault) (Err faults.TooManyLinks) b (not_failed (stopped {X = Done} faults.TooManyLinks) fault (λ failed. cc) is) is

  fault_more : (more : ℕ) (b : S) (reply : Reply) (fault : ClientFault) (o : Option PathName) → (fault ≢ faults.OutOfMemory → (next_to (suc more) o >>= step_of reply) ≡ Err fault)
      → Talks asked (led o (λ next. and_then (done (short next)) (following request more)) reply) b (Err fault) b
  fault_more more b reply fault None meant = fault_ended b reply fault meant
  fault_more more b reply fault (Some to) meant =
      let is : fault ≢ faults.OutOfMemory → short to ≡ Err fault = λ other. unfit (short to) reply fault (meant other) in
      talks_stop asked same joined (done (short to)) (following request more) b b fault
      (talks_meant asked same joined (Err fault) (short to) b (not_failed (short to) fault (fit_answered to) is) is)

  -- a step that is a fault
  pub step_fault : (more : ℕ) (path : PathName) (a b : S) (reply : Reply) (fault : ClientFault)
      → Talks asked (reply_to (request path)) a (Ok reply) b → (fault ≢ faults.OutOfMemory → step_to more path reply ≡ Err fault) → Talks asked (following request more path) a (Err fault) b
  unfolding following
  step_fault zero path a b reply fault first meant =
      talks_then asked same joined (reply_to (request path)) (λ reply. led (leads_to path reply) (λ next. done (Err faults.TooManyLinks)) reply) a b b reply (Err fault) first
      (fault_last b reply fault (leads_to path reply) meant)
  step_fault (suc more) path a b reply fault first meant =
      talks_then asked same joined (reply_to (request path)) (λ reply. led (leads_to path reply) (λ next. and_then (done (short next)) (following request more)) reply) a b b reply (Err fault) first
      (fault_more more b reply fault (leads_to path reply) meant)

  -- a step that is done
  pub step_done : (more : ℕ) (path : PathName) (a b : S) (reply : Reply) (d : Done)
      → Talks asked (reply_to (request path)) a (Ok reply) b → step_to more path reply ≡ Ok (steps.Done d) → Talks asked (following request more path) a (Ok d) b
  step_done more path a b reply d first is =
      let ended : (leads_to path reply ≡ None) × (outcome reply ≡ Ok d) = ended_at more (leads_to path reply) reply d is in
      subst (λ (r : Result Done ClientFault). Talks asked (following request more path) a r b) ended.1 (follow_ended asked same joined request more path a b reply first ended.0)

  on_led : (more : ℕ) (path next : PathName) (a b c : S) (reply : Reply) (result : Result Done ClientFault) (o : Option PathName) → leads_to path reply ≡ o
      → Talks asked (reply_to (request path)) a (Ok reply) b → (next_to (suc more) o >>= step_of reply) ≡ Ok (steps.On next)
      → Talks asked (following request more next) b result c → Talks asked (following request (suc more) path) a result c
  on_led more path next a b c reply result None was first is after = absurd (not_on (outcome reply) next is)
  on_led more path next a b c reply result (Some to) was first is after =
      follow_led asked same joined request more path to a b c reply result first was
      (talks_then asked same joined (done (short to)) (following request more) b b c next result
      (talks_meant asked same joined (Ok next) (short to) b (λ failed. cc) (fit_in (short to) reply next is)) after)

  -- a step that goes on
  pub step_on : (more : ℕ) (path next : PathName) (a b c : S) (reply : Reply) (result : Result Done ClientFault)
      → Talks asked (reply_to (request path)) a (Ok reply) b → step_to more path reply ≡ Ok (steps.On next)
      → Talks asked (following request (more - 1) next) b result c → Talks asked (following request more path) a result c
  step_on more path next a b c reply result first is after =
      let was : more ≡ suc (more - 1) = less_of more (on_some more (leads_to path reply) reply next is) in
      let here : step_to (suc (more - 1)) path reply ≡ Ok (steps.On next) = subst (λ (m : ℕ). step_to m path reply ≡ Ok (steps.On next)) was is in
      subst (λ (m : ℕ). Talks asked (following request m path) a result c) (sym was) (on_led (more - 1) path next a b c reply result (leads_to path reply) refl first here after)
