-- A user signs on.
use Rattle.std.proofs.Common.{◌≡◌, ℕ, List, Some, Err, refl, subst}
use Rattle.std.specs.Prelude.{slice_get}
use Rattle.up_ends.specs.Telling.{Gives}
use Rattle.up_ends.specs.declared.nonces.Nonces as nonces
use Rattle.up_ends.specs.declared.verifier.Verifier as verifier
use Rattle.up_lists.proofs.Causes.{HasCause-same, StaysUnless-same}
use Rattle.up_lists.specs.Counts.{HasCause, StaysUnless}
use Rattle.up_host.specs.Alone.{HostState}
use Rattle.up_keys.specs.Records.{record_in}
use Rattle.up_names.specs.Texts.{UserName}
use Rattle.up_sessions.specs.Signing.{Challenges, IsJudged, JudgesBy, Signed, SignsOn, is_open, signed_on}
use Rattle.up_sessions.specs.Worlds.{Hosts}
use Rattle.up_sessions.specs.declared.fault.LineFault.TheVariants as line
use Rattle.up_sign.specs.SigningOn.{Signing, message_of}
use Rattle.up_talk.specs.Challenges.{signing_of}
use Rattle.up_wire.specs.declared.keys.KeyRecord.{KeyRecord}

-- a sign-on was begun for a record's user
begun : (host : List ℕ) (card : KeyRecord) (challenge : List ℕ) (sign_on : Signing) → sign_on.user ≡ card.user → sign_on.key ≡ card.key → sign_on.message ≡ message_of host card.user challenge → sign_on ≡ signing_of host card challenge
begun host card challenge sign_on user key message = λ j. record { user = user j; key = key j; message = message j }

module _ {V N : Type 0} (verifiers : verifier.Ghosts V) (drawn : nonces.Ghosts N) where
  -- and its signature was judged
  pub challenged : (host : List ℕ) (card : KeyRecord) (signature challenge : List ℕ) (sign_on : Signing) (v w : V) (n m : N) (signed : Signed) → Gives (drawn.coming n) challenge (drawn.coming m)
      → sign_on.user ≡ card.user → sign_on.key ≡ card.key → sign_on.message ≡ message_of host card.user challenge → IsJudged verifiers sign_on signature v signed w
      → HasCause (verifiers.faults v) (verifiers.faults w) (signed ≡ Err line.Fault) → StaysUnless (verifiers.faults v) (verifiers.faults w) (signed ≡ Err line.Fault) → Challenges verifiers drawn host card signature v n signed w m
  challenged host card signature challenge sign_on v w n m signed next user key message judged counts quiet = record {
    challenge = challenge;
    next = next;
    judged = subst (λ s. IsJudged verifiers s signature v signed w) (begun host card challenge sign_on user key message) judged;
    counts = counts;
    quiet = quiet;
  }

  -- or it was not begun, for want of memory
  pub not_begun : (host : List ℕ) (card : KeyRecord) (signature challenge : List ℕ) (v : V) (n m : N) → Gives (drawn.coming n) challenge (drawn.coming m) → Challenges verifiers drawn host card signature v n (Err line.OutOfMemory) v m
  not_begun host card signature challenge v n m next = record {
    challenge = challenge;
    next = next;
    judged = refl;
    counts = HasCause-same (verifiers.faults v) _ (λ is. absurd (other is));
    quiet = StaysUnless-same (verifiers.faults v) _;
  }
    where
      other : ◌≡◌ {A = Signed} (Err line.OutOfMemory) (Err line.Fault) → ⊥
      other is = cc

  -- a user signed on at a host, or tried to
  pub signs_on : {D : Type 0} (number place : ℕ) (user : UserName) (signature : List ℕ) (a b : Hosts D) (host : HostState D) (v w : V) (n m : N) (signed : Signed) → slice_get a.hosts place ≡ Some host
      → JudgesBy verifiers drawn host.name (record_in host.keys.state.log user) signature v n signed w m → b ≡ signed_on number place signed a → SignsOn verifiers drawn number place user signature a v n (is_open signed) b w m
  signs_on number place user signature a b host v w n m signed at judged after = record {
    host = host;
    there = at;
    signed = signed;
    judged = judged;
    after = after;
    result_is = refl;
  }
