-- Conversations, one after the other.
use Rattle.std.proofs.Common.{◌≡◌, ◌≢◌, Option, Result, Ok, Err, sym, subst}
use Rattle.std.specs.Prelude.{IsErrOf}
use Rattle.up_lists.proofs.Causes.{HasCause-then, HasCause-same, HasCause-weaker, StaysUnless-more, StaysUnless-same, StaysUnless-then}
use Rattle.up_wire.specs.declared.requests.Request.{Request}
use Rattle.up_wire.specs.declared.replies.Reply.{Reply}
use Rattle.up_wire.specs.declared.replies.Reply.TheVariants as replies
use Rattle.up_client.specs.declared.ask.Ask.{Ghosts}
use Rattle.up_client.specs.declared.fault.ClientFault.{ClientFault}
use Rattle.up_client.specs.declared.fault.ClientFault.TheVariants as faults
use Rattle.up_client.specs.declared.fault.ClientFault.TheVariants.{OutOfMemory, Failed}
use Rattle.up_client.specs.Replies.{outcome}
use Rattle.up_client.specs.Talks.{Talking, Talks, Held, Meant, and_then, done, ended, wanting, unanswered, heard}

module _ {S : Type 0} (answers : S → Request → Option Reply → S → Type 0) where
  -- the one ended well, and then the other was held
  pub held_then : {X Y : Type 0} (talk : Talking X) (more : X → Talking Y) (a b c : S) (x : X) (result : Result Y ClientFault)
      → Held answers talk a (Ok x) b → Held answers (more x) b result c → Held answers (and_then talk more) a result c
  held_then talk more a b c x result ended after = after
  held_then talk more a b c x result (heard {request = request} {hear = hear} {next = next} reply answer rest) after =
      heard reply answer (held_then (hear reply) more next b c x result rest after)

  -- the one ended with a fault, and so do both
  pub held_stop : {X Y : Type 0} (talk : Talking X) (more : X → Talking Y) (a b : S) (fault : ClientFault)
      → Held answers talk a (Err fault) b → Held answers (and_then talk more) a (Err fault) b
  held_stop talk more a b fault ended = ended
  held_stop talk more a b fault wanting = wanting
  held_stop talk more a b fault (unanswered none) = unanswered none
  held_stop talk more a b fault (heard {request = request} {hear = hear} {next = next} reply answer rest) =
      heard reply answer (held_stop (hear reply) more next b fault rest)

-- what is meant is no want of an answer
abbrev pub IsAnswered : {X : Type 0} → Result X ClientFault → Type 0
IsAnswered meant = IsErrOf meant Failed → ⊥

-- what was meant, held at once; or want of memory
pub held_meant : {S X : Type 0} (answers : S → Request → Option Reply → S → Type 0) (result meant : Result X ClientFault) (a : S) → Meant result meant → Held answers (done meant) a result a
held_meant answers (Ok x) meant a is = subst (λ m. Held answers (done m) a (Ok x) a) (sym is) ended
held_meant answers (Err fault) meant a is = held_fault fault is
  where
    as_it_is : (fault : ClientFault) → (fault ≢ OutOfMemory) → (fault ≢ OutOfMemory → meant ≡ Err fault) → Held answers (done meant) a (Err fault) a
    as_it_is fault other is = subst (λ m. Held answers (done m) a (Err fault) a) (sym (is other)) ended

    held_fault : (fault : ClientFault) → (fault ≢ OutOfMemory → meant ≡ Err fault) → Held answers (done meant) a (Err fault) a
    held_fault (faults.Refused reply) is = as_it_is _ (λ e. cc) is
    held_fault faults.TooManyLinks is = as_it_is _ (λ e. cc) is
    held_fault faults.TooLong is = as_it_is _ (λ e. cc) is
    held_fault faults.IsDir is = as_it_is _ (λ e. cc) is
    held_fault faults.NoRead is = as_it_is _ (λ e. cc) is
    held_fault (faults.Opaque packing) is = as_it_is _ (λ e. cc) is
    held_fault (faults.Elsewhere i) is = as_it_is _ (λ e. cc) is
    held_fault (faults.BadSize i wanted got) is = as_it_is _ (λ e. cc) is
    held_fault (faults.Corrupt wanted got) is = as_it_is _ (λ e. cc) is
    held_fault faults.Failed is = as_it_is _ (λ e. cc) is
    held_fault faults.Odd is = as_it_is _ (λ e. cc) is
    held_fault faults.OutOfMemory is = wanting

module _ {S : Type 0} (asked : Ghosts S) (same : (a : S) → asked.tied a a) (joined : (a b c : S) → asked.tied a b → asked.tied b c → asked.tied a c) where
  -- nothing was asked, and what came of it is no want of an answer
  still : {X : Type 0} (talk : Talking X) (result : Result X ClientFault) (a : S) → IsAnswered result → Held asked.answers talk a result a → Talks asked talk a result a
  still talk result a none held = record {
    held = held;
    cause = HasCause-same (asked.faults a) (IsErrOf result Failed) (λ failed. absurd (none failed));
    quiet = StaysUnless-same (asked.faults a) (IsErrOf result Failed);
    tie = same a;
  }

  -- what is done at once
  pub talks_done : {X : Type 0} (result : Result X ClientFault) (a : S) → IsAnswered result → Talks asked (done result) a result a
  talks_done result a none = still (done result) result a none ended

  -- the same, or want of memory
  pub talks_meant : {X : Type 0} (result meant : Result X ClientFault) (a : S) → IsAnswered result → Meant result meant → Talks asked (done meant) a result a
  talks_meant result meant a none is = still (done meant) result a none (held_meant asked.answers result meant a is)

  -- memory was wanting
  pub talks_wanting : {X : Type 0} (talk : Talking X) (a : S) → Talks asked talk a (Err OutOfMemory) a
  talks_wanting talk a = still talk (Err OutOfMemory) a (λ failed. cc) wanting

  -- the one ended well, and then the other was held
  pub talks_then : {X Y : Type 0} (talk : Talking X) (more : X → Talking Y) (a b c : S) (x : X) (result : Result Y ClientFault)
      → Talks asked talk a (Ok x) b → Talks asked (more x) b result c → Talks asked (and_then talk more) a result c
  talks_then {X} {Y} talk more a b c x result first after = record {
    held = held_then asked.answers talk more a b c x result first.held after.held;
    cause = HasCause-then (asked.faults a) (asked.faults b) (asked.faults c) _ _ first.cause after.cause;
    quiet = StaysUnless-then (asked.faults a) (asked.faults b) (asked.faults c) (IsErrOf {T = X} (Ok x) Failed) (IsErrOf result Failed) (IsErrOf result Failed) first.quiet (λ failed. absurd (cc)) after.quiet (λ failed. failed);
    tie = joined a b c first.tie after.tie;
  }

  -- the one ended with a fault, and so do both
  pub talks_stop : {X Y : Type 0} (talk : Talking X) (more : X → Talking Y) (a b : S) (fault : ClientFault)
      → Talks asked talk a (Err fault) b → Talks asked (and_then talk more) a (Err fault) b
  talks_stop {X} {Y} talk more a b fault first = record {
    held = held_stop asked.answers talk more a b fault first.held;
    cause = HasCause-weaker (asked.faults a) (asked.faults b) (IsErrOf {T = X} (Err fault) Failed) (IsErrOf {T = Y} (Err fault) Failed) first.cause (λ failed. cc);
    quiet = StaysUnless-more (asked.faults a) (asked.faults b) (IsErrOf {T = X} (Err fault) Failed) (IsErrOf {T = Y} (Err fault) Failed) first.quiet (λ failed. cc);
    tie = first.tie;
  }

-- no reply is a want of an answer
pub outcome_answered : (reply : Reply) → IsAnswered (outcome reply)
outcome_answered (replies.Ok d) failed = cc
outcome_answered replies.OutOfMemory failed = cc
outcome_answered (replies.Invalid what) failed = cc
outcome_answered replies.WrongHost failed = cc
outcome_answered (replies.FollowLink entry) failed = cc
outcome_answered replies.Private failed = cc
outcome_answered (replies.Permission right) failed = cc
outcome_answered replies.NotExist failed = cc
outcome_answered replies.NotDir failed = cc
outcome_answered replies.IsDir failed = cc
outcome_answered replies.Exist failed = cc
outcome_answered (replies.BadSequence n) failed = cc
outcome_answered replies.NotEmpty failed = cc
outcome_answered (replies.BadBlock reference) failed = cc
outcome_answered (replies.BadText n) failed = cc
outcome_answered (replies.TooLarge n) failed = cc
outcome_answered (replies.Full n) failed = cc
outcome_answered replies.Io failed = cc
