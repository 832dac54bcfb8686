-- What the parts of a connection do. This project's own.
use Rattle.std.specs.Prelude.{◌≡◌, ◌≢◌, ◌<◌, ◌+◌, ◌⊎◌, ℕ, Bool, true, false, List, [], ◌∷◌, ◌++◌, length, Option, Some, None}
use Rattle.std.specs.Prelude.{Result, Ok, Err}
use Rattle.up_bytes.specs.declared.fields.Fields as fields
use Rattle.up_ends.specs.Telling.{Coming, Gives, Grew}
use Rattle.std.specs.Io.KnownBytes.{Appends}
use Rattle.up_ends.specs.Writing.{Going, WritesPart}
use Rattle.up_ends.specs.declared.fault.Failed.{Failed}
use Rattle.up_lists.specs.Counts.{HasCause, Rose}
use Rattle.up_ends.specs.declared.verifier.Judged.{Judged}
use Rattle.up_ends.specs.declared.verifier.Verdict.TheVariants.{Yes, No}
use Rattle.up_ends.specs.declared.clock.Clock as clock
use Rattle.up_ends.specs.declared.ends.Sink as sink
use Rattle.up_ends.specs.declared.ends.Source as source
use Rattle.up_ends.specs.declared.nonces.Nonces as nonces
use Rattle.up_ends.specs.declared.verifier.Verifier as verifier
use Rattle.up_frame.specs.Stream.{IsPartial, frame}
use Rattle.up_names.specs.Texts.{UserName}
use Rattle.up_sign.specs.SigningOn.{Signing, judged_of}
use Rattle.up_talk.specs.Around.{Around, Ends, Parties, World}
use Rattle.up_talk.specs.Challenges.{Draws, Greets, Unmet}
use Rattle.up_talk.specs.Incoming.{Held}
use Rattle.up_talk.specs.Limits.{longest}
use Rattle.up_talk.specs.Messages.{Fits, ToClient, payload_from, payload_to}
use Rattle.up_talk.specs.Talks.{CountsSame, CountsStay, EndsBy, HasRead, IsUnfit, Talks, bytes_from, bytes_to, is_cut}
use Rattle.up_talk.specs.Transcripts.{Standing, Transcript, may_come}
use Rattle.up_talk.specs.declared.answers.Answers as answers
use Rattle.up_talk.specs.declared.end.TalkEnd.{TalkEnd}
use Rattle.up_talk.specs.declared.end.TalkEnd.TheVariants as talk
use Rattle.up_talk.specs.declared.fault.Stop.{Stop}
use Rattle.up_talk.specs.declared.fault.Stop.TheVariants as stop
use Rattle.up_talk.specs.declared.message.FromClient.{FromClient}
use Rattle.up_talk.specs.declared.message.FromClient.TheVariants as says
use Rattle.up_talk.specs.declared.stage.Stage.{Stage}
use Rattle.up_talk.specs.declared.stage.Stage.TheVariants as stages
use Rattle.up_wire.specs.Spelling.{FitsClient, client, server}
use Rattle.up_wire.specs.declared.keys.KeyRecord.{KeyRecord}
use Rattle.up_wire.specs.declared.messages.ClientFrame.{ClientFrame}
use Rattle.up_wire.specs.declared.messages.ClientFrame.TheVariants as clients
use Rattle.up_wire.specs.declared.messages.ServerFrame.TheVariants as servers

-- ---- what a connection stands among, of its parts

-- what is known of a connection's parties, of what each of them tells
abbrev pub parties : {A V C N Q R : Type 0} → answers.Ghosts A Q R → fields.Ghosts R
    → verifier.Ghosts V → clock.Ghosts C → nonces.Ghosts N → Parties A V C N Q R
parties answerers spelled verifiers clocks drawn = record {
  name = answerers.name;
  looked = answerers.looked;
  asking = answerers.asking;
  fits = answerers.fits;
  answering = spelled.spelling;
  asked = answerers.asked;
  tied = answerers.tied;
  judged = verifiers.judged;
  verifier_faults = verifiers.faults;
  moments = clocks.coming;
  challenges = drawn.coming;
}

-- what stands around a connection
abbrev pub around : {A V C N : Type 0} → A → V → C → N → Around A V C N
around answerer verifier clock nonces = record { answerer = answerer; verifier = verifier; clock = clock; nonces = nonces }

-- the two ends of a connection, by what source and sink tell
abbrev pub ends : {S K : Type 0} → source.Ghosts S → sink.Ghosts K → S → K → Ends
ends sources sinks from to = record {
  left = sources.left from;
  given = sources.given from;
  read_faults = sources.faults from;
  held = sinks.held to;
  write_faults = sinks.faults to;
}

-- the two ends of a connection, whose source has come to this
abbrev pub ends_at : {K : Type 0} → Option (List ℕ) → ℕ → ℕ → sink.Ghosts K → K → Ends
ends_at left given faults sinks to =
    record { left = left; given = given; read_faults = faults; held = sinks.held to; write_faults = sinks.faults to }

-- all that a connection stands among
abbrev pub world : {A V C N : Type 0} → Around A V C N → Ends → World A V C N
world among at = record { around = among; ends = at }

-- how a connection at a stage stands
abbrev pub standing_at : Stage → Standing
standing_at stages.Unsaid = Standing.Unsaid
standing_at (stages.Challenged signing) = Standing.Challenged signing
standing_at (stages.Signed signing) = Standing.Signed signing

-- ---- what a payload says

-- whether it is a message by which a user signs on
abbrev pub is_greeting : ClientFrame → Bool
is_greeting (clients.Hello text) = true
is_greeting (clients.Proof signature) = true
is_greeting other = false

-- the message of a sign-on that has this payload, or none has it
abbrev pub Greeting : {Q : Type 0} → List ℕ → Option (FromClient Q) → Type 0
Greeting payload (Some (says.Hello text)) = (client (clients.Hello text) ≡ payload) × FitsClient (clients.Hello text)
Greeting payload (Some (says.Proof signature)) = (client (clients.Proof signature) ≡ payload) × FitsClient (clients.Proof signature)
Greeting payload (Some (says.Ask question)) = ⊥
Greeting payload (Some says.Bye) = ⊥
Greeting payload None = (f : ClientFrame) → is_greeting f ≡ true → FitsClient f → client f ≢ payload

-- the question that has this payload, or Bye, or none of them has it
abbrev pub AsksOrBye : {Q : Type 0} → (Q → List ℕ) → (Q → Type 0) → List ℕ → Option (FromClient Q) → Type 0
AsksOrBye asking fits payload (Some (says.Hello text)) = ⊥
AsksOrBye asking fits payload (Some (says.Proof signature)) = ⊥
AsksOrBye asking fits payload (Some (says.Ask question)) = (asking question ≡ payload) × fits question
AsksOrBye asking fits payload (Some says.Bye) = client clients.Bye ≡ payload
AsksOrBye {Q} asking fits payload None = (client clients.Bye ≢ payload) × ((question : Q) → fits question → asking question ≢ payload)

-- What a client says to a connection that stands so, by a payload; or it is the payload of nothing that may come.
module _ {Q : Type 0} (asking : Q → List ℕ) (fits : Q → Type 0) where
  -- this payload says this to a connection that stands so
  pub record SaysThis (standing : Standing) (payload : List ℕ) (f : FromClient Q) : Type 0 where
    pub spelled : payload_from asking f ≡ payload
    pub fit : Fits fits f
    pub unfit : may_come standing f ≡ false → IsUnfit asking fits standing payload

  -- What a client says to a connection that stands so, by a payload; or it is the payload of nothing that may come.
  abbrev pub Says : Standing → List ℕ → Option (FromClient Q) → Type 0
  Says standing payload (Some f) = SaysThis standing payload f
  Says standing payload None = IsUnfit asking fits standing payload

-- ---- one frame, by its kind

-- one frame stands behind what was made
abbrev pub Puts : List ℕ → List ℕ → List ℕ → Type 0
Puts out payload new = new ≡ out ++ frame payload

-- what was gathered is written where it is much, and kept where it is not; after a fault none is kept
abbrev pub FlushCame : {K : Type 0} → sink.Ghosts K → List ℕ → K → Result (Unit {0}) Failed → List ℕ → K → Type 0
FlushCame sinks out to (Ok done) now after =
    ((now ≡ out) × (after ≡ to)) ⊎ ((now ≡ []) × Appends (sinks.held to) (sinks.held after) out × (sinks.faults after ≡ sinks.faults to))
FlushCame sinks out to (Err failed) now after =
    (now ≡ []) × WritesPart (sinks.held to) (sinks.held after) out
    × HasCause (sinks.faults to) (sinks.faults after) ⊥ × Rose (sinks.faults to) (sinks.faults after)

-- the user is told that it is refused, unless there is no memory
abbrev pub Refuses : List ℕ → Result (Unit {0}) Stop → List ℕ → Type 0
Refuses out (Err stop.NotSigned) new = Puts out (server servers.NotSigned) new
Refuses out (Err stop.OutOfMemory) new = new ≡ out
Refuses out other new = ⊥

-- what may come does not ask which questions there are
abbrev pub comes : Stage → FromClient (Unit {0}) → Bool
comes stage f = may_come (standing_at stage) f

module _ {A N : Type 0} (name : A → List ℕ) (looked : A → UserName → Option KeyRecord → A → Type 0)
    (coming : N → Option (Coming (List ℕ))) where
  -- a user is challenged, or refused
  abbrev pub ChallengeCame : UserName → A → N → List ℕ → Result (Unit {0}) Stop → Stage → A → N → List ℕ → Type 0
  ChallengeCame user a n out (Ok done) then b m new =
      (signing : Signing) ×
      ((nonce : List ℕ) × (Draws name looked coming user a n signing nonce b m × (then ≡ stages.Challenged signing)
      × Puts out (server (servers.Challenge nonce)) new))
  ChallengeCame user a n out (Err stop.NotSigned) then b m new = looked a user None b × (m ≡ n) × Puts out (server servers.NotSigned) new
  ChallengeCame user a n out (Err stop.OutOfMemory) then b m new =
      (new ≡ out) ×
      (((b ≡ a) × (m ≡ n)) ⊎ ((looked a user None b × (m ≡ n))
      ⊎ ((signing : Signing) × ((nonce : List ℕ) × Draws name looked coming user a n signing nonce b m))))
  ChallengeCame user a n out (Err stop.Unfit) then b m new = ⊥
  ChallengeCame user a n out (Err stop.Bye) then b m new = ⊥
  ChallengeCame user a n out (Err stop.HelperFault) then b m new = ⊥

  -- Hello
  abbrev pub HelloCame : List ℕ → Stage → A → N → List ℕ → Result (Unit {0}) Stop → Stage → A → N → List ℕ → Type 0
  HelloCame text stage a n out (Ok done) then b m new =
      (stage ≡ stages.Unsaid) ×
      ((signing : Signing) × ((nonce : List ℕ) × (Greets name looked coming text a n signing nonce b m
      × (then ≡ stages.Challenged signing) × Puts out (server (servers.Challenge nonce)) new)))
  HelloCame text stage a n out (Err stop.Unfit) then b m new = (comes stage (says.Hello text) ≡ false) × (b ≡ a) × (m ≡ n) × (new ≡ out)
  HelloCame text stage a n out (Err stop.NotSigned) then b m new =
      (stage ≡ stages.Unsaid) × Unmet name looked coming text a n b m × Puts out (server servers.NotSigned) new
  HelloCame text stage a n out (Err stop.OutOfMemory) then b m new =
      (stage ≡ stages.Unsaid) × (new ≡ out) ×
      (((b ≡ a) × (m ≡ n)) ⊎ (Unmet name looked coming text a n b m
      ⊎ ((signing : Signing) × ((nonce : List ℕ) × Greets name looked coming text a n signing nonce b m))))
  HelloCame text stage a n out (Err stop.Bye) then b m new = ⊥
  HelloCame text stage a n out (Err stop.HelperFault) then b m new = ⊥

module _ {V : Type 0} (judged : V → Option (List Judged)) where
  -- the signature is judged
  abbrev pub JudgeCame : List ℕ → Signing → V → List ℕ → Result (Unit {0}) Stop → Stage → V → List ℕ → Type 0
  JudgeCame signature signing v out (Ok done) then w new =
      (then ≡ stages.Signed signing) × Grew (judged v) (judged w) (judged_of signing signature Yes ∷ [])
      × Puts out (server servers.Welcome) new
  JudgeCame signature signing v out (Err stop.NotSigned) then w new =
      Grew (judged v) (judged w) (judged_of signing signature No ∷ []) × Puts out (server servers.NotSigned) new
  JudgeCame signature signing v out (Err stop.HelperFault) then w new = (judged w ≡ judged v) × (new ≡ out)
  JudgeCame signature signing v out (Err stop.OutOfMemory) then w new =
      (new ≡ out) ×
      (Grew (judged v) (judged w) (judged_of signing signature Yes ∷ []) ⊎ Grew (judged v) (judged w) (judged_of signing signature No ∷ []))
  JudgeCame signature signing v out (Err stop.Unfit) then w new = ⊥
  JudgeCame signature signing v out (Err stop.Bye) then w new = ⊥

  -- Proof
  abbrev pub ProofCame : List ℕ → Stage → V → List ℕ → Result (Unit {0}) Stop → Stage → V → List ℕ → Type 0
  ProofCame signature stage v out (Ok done) then w new =
      (signing : Signing) ×
      ((stage ≡ stages.Challenged signing) × (then ≡ stages.Signed signing)
      × Grew (judged v) (judged w) (judged_of signing signature Yes ∷ []) × Puts out (server servers.Welcome) new)
  ProofCame signature stage v out (Err stop.Unfit) then w new = (comes stage (says.Proof signature) ≡ false) × (w ≡ v) × (new ≡ out)
  ProofCame signature stage v out (Err stop.NotSigned) then w new =
      (signing : Signing) ×
      ((stage ≡ stages.Challenged signing) × Grew (judged v) (judged w) (judged_of signing signature No ∷ [])
      × Puts out (server servers.NotSigned) new)
  ProofCame signature stage v out (Err stop.HelperFault) then w new =
      (signing : Signing) × ((stage ≡ stages.Challenged signing) × (judged w ≡ judged v) × (new ≡ out))
  ProofCame signature stage v out (Err stop.OutOfMemory) then w new =
      (signing : Signing) ×
      ((stage ≡ stages.Challenged signing) × (new ≡ out) × (Grew (judged v) (judged w) (judged_of signing signature Yes ∷ [])
      ⊎ Grew (judged v) (judged w) (judged_of signing signature No ∷ [])))
  ProofCame signature stage v out (Err stop.Bye) then w new = ⊥

module _ {A C Q R : Type 0} (answering : R → List ℕ) (calls : A → UserName → Q → ℕ → R → A → Type 0) (coming : C → Option (Coming ℕ)) where
  -- a question is answered
  pub record Replied (question : Q) (stage : Stage) (a : A) (c : C) (answer : R) (b : A) (d : C) : Type 0 where
    pub signing : Signing
    pub stage_is : stage ≡ stages.Signed signing
    pub moment : ℕ
    pub read : Gives (coming c) moment (coming d)
    pub asked : calls a signing.user question moment answer b

  -- what came of a question: it is answered, or may not come now, or there was no memory for the answer
  abbrev pub AskCame : Q → Stage → A → C → List ℕ → Result (Unit {0}) Stop → A → C → List ℕ → Type 0
  AskCame question stage a c out (Ok done) b d new =
      (answer : R) × (Replied question stage a c answer b d × Puts out (answering answer) new)
  AskCame question stage a c out (Err stop.Unfit) b d new =
      (may_come (standing_at stage) (says.Ask question) ≡ false) × (b ≡ a) × (d ≡ c) × (new ≡ out)
  AskCame question stage a c out (Err stop.OutOfMemory) b d new = (answer : R) × (Replied question stage a c answer b d × (new ≡ out))
  AskCame question stage a c out (Err stop.NotSigned) b d new = ⊥
  AskCame question stage a c out (Err stop.HelperFault) b d new = ⊥
  AskCame question stage a c out (Err stop.Bye) b d new = ⊥

-- Bye
abbrev pub ByeCame : Stage → Result (Unit {0}) Stop → Type 0
ByeCame stage (Err stop.Bye) = comes stage says.Bye ≡ true
ByeCame stage (Err stop.Unfit) = comes stage says.Bye ≡ false
ByeCame stage other = ⊥

-- how a connection ends at the frame at this place
abbrev pub end_at : Stop → ℕ → TalkEnd
end_at stop.Unfit place = talk.BadFrame place
end_at stop.Bye place = talk.Ended
end_at stop.NotSigned place = talk.NotSigned
end_at stop.HelperFault place = talk.HelperFault
end_at stop.OutOfMemory place = talk.OutOfMemory

-- how it ends with its input: with no byte left, or within a frame, after so many bytes
abbrev pub IsEndOf : Held → TalkEnd → Type 0
IsEndOf incoming talk.Ended = length incoming.bytes ≡ 0
IsEndOf incoming (talk.Cut n) = (0 < length incoming.bytes) × (n ≡ incoming.handled + length incoming.bytes)
IsEndOf incoming other = ⊥

-- ---- one frame

module _ {A V C N Q R : Type 0} (who : Parties A V C N Q R) where
  -- of a connection so far, what came of one frame more
  abbrev pub HandledFrom : Around A V C N → Standing → List (FromClient Q) → List (ToClient R) → Around A V C N
      → FromClient Q → List ℕ → Result (Unit {0}) Stop → Standing → Around A V C N → List ℕ → Type 0
  HandledFrom a standing came made b f out (Ok done) then c new =
      (sent : ToClient R) × (Transcript who a then (came ++ f ∷ []) (made ++ sent ∷ []) c × Puts out (payload_to who.answering sent) new)
  HandledFrom a standing came made b f out (Err stop.Unfit) then c new = (may_come standing f ≡ false) × (c ≡ b) × (new ≡ out)
  HandledFrom a standing came made b f out (Err stop.Bye) then c new = (f ≡ says.Bye) × (may_come standing f ≡ true) × (c ≡ b) × (new ≡ out)
  HandledFrom a standing came made b f out (Err stop.NotSigned) then c new =
      Transcript who a Standing.Refused (came ++ f ∷ []) (made ++ ToClient.NotSigned ∷ []) c × Puts out (server servers.NotSigned) new
  HandledFrom a standing came made b f out (Err stop.HelperFault) then c new =
      Transcript who a Standing.Failed (came ++ f ∷ []) made c × (new ≡ out)
  HandledFrom a standing came made b f out (Err stop.OutOfMemory) then c new =
      (new ≡ out) × ((c ≡ b) ⊎ ((last : Standing) × ((sent : ToClient R) × Transcript who a last (came ++ f ∷ []) (made ++ sent ∷ []) c)))

  -- what a client said was handled, whatever came before it on the connection
  abbrev pub Handled : Standing → Around A V C N → FromClient Q → List ℕ
      → Result (Unit {0}) Stop → Standing → Around A V C N → List ℕ → Type 0
  Handled standing b f out result then c new =
      (a : Around A V C N) (came : List (FromClient Q)) (made : List (ToClient R))
      → Transcript who a standing came made b → HandledFrom a standing came made b f out result then c new

  -- ---- a connection so far, and at its end

  -- some frames came, and bytes behind them; what was made for them was written, but for these bytes
  pub record Talking (a b : World A V C N) (standing : Standing) (incoming : Held) (unwritten : List ℕ) : Type 0 where
    pub came : List (FromClient Q)
    pub made : List (ToClient R)
    pub transcript : Transcript who a.around standing came made b.around
    pub has_read : HasRead who a b came incoming.bytes
    pub place : incoming.handled ≡ length (bytes_from who came)
    pub going : Going a.ends.held b.ends.held unwritten (bytes_to who made)
    pub counts : CountsSame who a b
    pub tie : who.tied a.around.answerer b.around.answerer

  -- a connection has ended, and these bytes are still to be written; where a write fault has ended it, none are
  pub record Ending (a b : World A V C N) (unwritten : List ℕ) (end : TalkEnd) : Type 0 where
    pub came : List (FromClient Q)
    pub made : List (ToClient R)
    pub standing : Standing
    pub rest : List ℕ
    pub transcript : Transcript who a.around standing came made b.around
    pub has_read : HasRead who a b came rest
    pub ends : EndsBy who a b standing (bytes_from who came) rest end
    pub lost : List ℕ
    pub kept : is_cut end ≡ false → lost ≡ []
    pub going : Going a.ends.held b.ends.held (unwritten ++ lost) (bytes_to who made)
    pub counts : CountsStay who a b end
    pub tie : who.tied a.around.answerer b.around.answerer

  -- a connection goes on, or has ended
  abbrev pub GoesOn : World A V C N → World A V C N → Standing → Held → List ℕ → Result (Unit {0}) TalkEnd → Type 0
  GoesOn a b standing incoming unwritten (Ok done) = Talking a b standing incoming unwritten
  GoesOn a b standing incoming unwritten (Err end) = Ending a b unwritten end

  -- all is written, and no whole frame is left
  pub record Waiting (a b : World A V C N) (standing : Standing) (incoming : Held) (unwritten : List ℕ) : Type 0 where
    pub talking : Talking a b standing incoming unwritten
    pub written : unwritten ≡ []
    pub partial : IsPartial longest incoming.bytes

  -- a whole connection, with its answerer tied
  pub record Talked (a b : World A V C N) (end : TalkEnd) : Type 0 where
    pub talks : Talks who a b end
    pub tie : who.tied a.around.answerer b.around.answerer

  -- one more turn of a connection: it waits for more, or it ended
  abbrev pub Turned : World A V C N → World A V C N → Standing → Held → List ℕ → Result (Unit {0}) TalkEnd → Type 0
  Turned a b standing incoming unwritten (Ok done) = Waiting a b standing incoming unwritten
  Turned a b standing incoming unwritten (Err end) = Talked a b end
