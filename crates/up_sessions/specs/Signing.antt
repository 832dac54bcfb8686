-- A user signs on at a host of a script. This project's own.
use Rattle.std.specs.Prelude.{◌≡◌, ℕ, Bool, List, [], ◌∷◌, is_some, slice_get, Option, Some, None, Result, Ok, Err}
use Rattle.up_ends.specs.Telling.{Gives, Grew}
use Rattle.up_ends.specs.declared.nonces.Nonces as nonces
use Rattle.up_ends.specs.declared.verifier.Verdict.TheVariants.{Yes, No}
use Rattle.up_ends.specs.declared.verifier.Verifier as verifier
use Rattle.up_lists.specs.Counts.{HasCause, StaysUnless}
use Rattle.up_host.specs.Alone.{HostState}
use Rattle.up_keys.specs.Records.{record_in}
use Rattle.up_names.specs.Texts.{UserName}
use Rattle.up_sessions.specs.Worlds.{Hosts, with_session}
use Rattle.up_sessions.specs.declared.fault.LineFault.{LineFault}
use Rattle.up_sessions.specs.declared.fault.LineFault.TheVariants as fault
use Rattle.up_sign.specs.SigningOn.{Signing, judged_of}
use Rattle.up_talk.specs.Challenges.{signing_of}
use Rattle.up_wire.specs.declared.keys.KeyRecord.{KeyRecord}

-- what came of a sign-on: who has signed on, or nobody, or why that was not found out
abbrev pub Signed : Type 0
Signed = Result (Option Signing) LineFault

-- The verifier's Yes makes a session, and its No makes none. It may have failed, and on want of memory nobody was asked.
abbrev pub IsJudged : {V : Type 0} → verifier.Ghosts V → Signing → List ℕ → V → Signed → V → Type 0
IsJudged verifiers signing signature v (Ok (Some session)) w =
    (session ≡ signing) × Grew (verifiers.judged v) (verifiers.judged w) (judged_of signing signature Yes ∷ [])
IsJudged verifiers signing signature v (Ok None) w = Grew (verifiers.judged v) (verifiers.judged w) (judged_of signing signature No ∷ [])
IsJudged verifiers signing signature v (Err fault.Fault) w = verifiers.judged w ≡ verifiers.judged v
IsJudged verifiers signing signature v (Err fault.OutOfMemory) w = w ≡ v

-- the next challenge was drawn for a record's user, and the signature was judged; the verifier's count rose only where its fault is told
pub record Challenges {V N : Type 0} (verifiers : verifier.Ghosts V) (drawn : nonces.Ghosts N) (host : List ℕ)
    (card : KeyRecord) (signature : List ℕ) (v : V) (n : N) (signed : Signed) (w : V) (m : N) : Type 0 where
  pub challenge : List ℕ
  pub next : Gives (drawn.coming n) challenge (drawn.coming m)
  pub judged : IsJudged verifiers (signing_of host card challenge) signature v signed w
  pub counts : HasCause (verifiers.faults v) (verifiers.faults w) (signed ≡ Err fault.Fault)
  pub quiet : StaysUnless (verifiers.faults v) (verifiers.faults w) (signed ≡ Err fault.Fault)

-- A sign-on is judged by the user's key record; where there is none, nobody has signed on, no challenge is drawn, and nobody is asked.
abbrev pub JudgesBy : {V N : Type 0} → verifier.Ghosts V → nonces.Ghosts N
    → List ℕ → Option KeyRecord → List ℕ → V → N → Signed → V → N → Type 0
JudgesBy verifiers drawn host (Some card) signature v n signed w m = Challenges verifiers drawn host card signature v n signed w m
JudgesBy verifiers drawn host None signature v n signed w m = (signed ≡ Ok None) × (w ≡ v) × (m ≡ n)

-- The hosts after a sign-on: the number has the new session, or none; and where it was not found out who has signed on, all is as before.
abbrev pub signed_on : {D : Type 0} → ℕ → ℕ → Signed → Hosts D → Hosts D
signed_on number place (Ok (Some session)) a = with_session number (Some (record { place = place; session = session })) a
signed_on number place (Ok None) a = with_session number None a
signed_on number place (Err why) a = a

-- whether a session is open after a sign-on, or why that was not found out
abbrev pub is_open : Signed → Result Bool LineFault
is_open (Ok session) = Ok (is_some session)
is_open (Err why) = Err why

-- A user signed on, or tried to, at the host at a place: the session at the number is open, or is not.
pub record SignsOn {D V N : Type 0} (verifiers : verifier.Ghosts V) (drawn : nonces.Ghosts N) (number place : ℕ) (user : UserName)
    (signature : List ℕ) (a : Hosts D) (v : V) (n : N) (result : Result Bool LineFault) (b : Hosts D) (w : V) (m : N) : Type 0 where
  pub host : HostState D
  pub there : slice_get a.hosts place ≡ Some host
  pub signed : Signed
  pub judged : JudgesBy verifiers drawn host.name (record_in host.keys.state.log user) signature v n signed w m
  pub after : b ≡ signed_on number place signed a
  pub result_is : result ≡ is_open signed
