-- What was said on a connection, and what came of it. This project's own.
use Rattle.std.specs.Prelude.{◌≡◌, ℕ, Bool, true, false, List, [], ◌∷◌, map}
use Rattle.up_ends.specs.Telling.{Gives, Grew}
use Rattle.up_ends.specs.declared.verifier.Verdict.{Verdict}
use Rattle.up_ends.specs.declared.verifier.Verdict.TheVariants.{Yes, No}
use Rattle.up_lists.specs.Runs.{Run}
use Rattle.up_names.specs.Texts.{UserName}
use Rattle.up_sign.specs.SigningOn.{Signing, judged_of}
use Rattle.up_talk.specs.Around.{Around, Parties}
use Rattle.up_talk.specs.Challenges.{Greets, Unmet}
use Rattle.up_talk.specs.Messages.{ToClient}
use Rattle.up_talk.specs.declared.message.FromClient.{FromClient}
use Rattle.up_talk.specs.declared.message.FromClient.TheVariants as says

-- How a connection stands: nobody has said who it is; a user was challenged; a user has signed on; who said hello was refused; or the
-- verifier failed.
pub data Standing : Type 0 where
  Unsaid : Standing
  Challenged : Signing → Standing
  Signed : Signing → Standing
  Refused : Standing
  Failed : Standing

-- what a client may say then: Hello, then Proof, then questions and Bye
abbrev pub may_come : {Q : Type 0} → Standing → FromClient Q → Bool
may_come Standing.Unsaid (says.Hello text) = true
may_come (Standing.Challenged signing) (says.Proof signature) = true
may_come (Standing.Signed signing) (says.Ask question) = true
may_come (Standing.Signed signing) says.Bye = true
may_come _ _ = false

module _ {A V C N Q R : Type 0} (who : Parties A V C N Q R) where
  -- ---- sign-on

  -- Who said hello is no user, or has no key record. Neither the verifier nor the clock was asked.
  pub record IsUnknown (a : Around A V C N) (text : List ℕ) (b : Around A V C N) : Type 0 where
    pub unmet : Unmet who.name who.looked who.challenges text a.answerer a.nonces b.answerer b.nonces
    pub verifier : b.verifier ≡ a.verifier
    pub clock : b.clock ≡ a.clock

  -- The user has a key record, and the next nonce was drawn for a challenge. Neither the verifier nor the clock was asked.
  pub record IsChallenged (a : Around A V C N) (text : List ℕ) (signing : Signing) (nonce : List ℕ) (b : Around A V C N) : Type 0 where
    pub greets : Greets who.name who.looked who.challenges text a.answerer a.nonces signing nonce b.answerer b.nonces
    pub verifier : b.verifier ≡ a.verifier
    pub clock : b.clock ≡ a.clock

  -- The verifier was asked whether the signature is that of the challenge by the key of that record, and this was its verdict.
  pub record IsJudged (a : Around A V C N) (text : List ℕ) (signing : Signing)
      (nonce signature : List ℕ) (verdict : Verdict) (b : Around A V C N) : Type 0 where
    pub before : Around A V C N
    pub challenged : IsChallenged a text signing nonce before
    pub judged : Grew (who.judged before.verifier) (who.judged b.verifier) (judged_of signing signature verdict ∷ [])
    pub rest : b ≡ record before { verifier = b.verifier }

  -- the verifier was asked of a signature, and failed
  pub record IsUnjudged (a : Around A V C N) (text : List ℕ) (signing : Signing) (nonce : List ℕ) (b : Around A V C N) : Type 0 where
    pub before : Around A V C N
    pub challenged : IsChallenged a text signing nonce before
    pub judged : who.judged b.verifier ≡ who.judged before.verifier
    pub rest : b ≡ record before { verifier = b.verifier }

  -- ---- questions

  -- A question of a user is answered, at the moment that the clock gives.
  pub record Answered (user : UserName) (a : Around A V C N) (question : Q) (answer : R) (b : Around A V C N) : Type 0 where
    pub moment : ℕ
    pub read : Gives (who.moments a.clock) moment (who.moments b.clock)
    pub asked : who.asked a.answerer user question moment answer b.answerer
    pub verifier : b.verifier ≡ a.verifier
    pub nonces : b.nonces ≡ a.nonces

  -- ---- the whole

  -- a challenge was sent
  pub record IsMet (a : Around A V C N) (signing : Signing) (came : List (FromClient Q))
      (made : List (ToClient R)) (b : Around A V C N) : Type 0 where
    pub text : List ℕ
    pub nonce : List ℕ
    pub came_is : came ≡ says.Hello text ∷ []
    pub made_is : made ≡ ToClient.Challenge nonce ∷ []
    pub challenged : IsChallenged a text signing nonce b

  -- the user has signed on, and some questions were answered, one after the other
  pub record IsServed (a : Around A V C N) (signing : Signing) (came : List (FromClient Q))
      (made : List (ToClient R)) (b : Around A V C N) : Type 0 where
    pub text : List ℕ
    pub nonce : List ℕ
    pub signature : List ℕ
    pub questions : List Q
    pub answers : List R
    pub before : Around A V C N
    pub came_is : came ≡ says.Hello text ∷ (says.Proof signature ∷ map says.Ask questions)
    pub made_is : made ≡ ToClient.Challenge nonce ∷ (ToClient.Welcome ∷ map ToClient.Answer answers)
    pub judged : IsJudged a text signing nonce signature Yes before
    pub run : Run (Answered signing.user) before questions answers b

  -- who said hello was refused: it has no key record, or the verdict was No
  pub data IsRefused (a : Around A V C N) (came : List (FromClient Q)) (made : List (ToClient R)) (b : Around A V C N) : Type 0 where
    unknown : {text : List ℕ} → came ≡ says.Hello text ∷ [] → made ≡ ToClient.NotSigned ∷ [] → IsUnknown a text b → IsRefused a came made b
    denied : {text nonce signature : List ℕ} {signing : Signing} → came ≡ says.Hello text ∷ (says.Proof signature ∷ [])
        → made ≡ ToClient.Challenge nonce ∷ (ToClient.NotSigned ∷ [])
        → IsJudged a text signing nonce signature No b → IsRefused a came made b

  -- the verifier failed
  pub record IsFailed (a : Around A V C N) (came : List (FromClient Q)) (made : List (ToClient R)) (b : Around A V C N) : Type 0 where
    pub text : List ℕ
    pub nonce : List ℕ
    pub signature : List ℕ
    pub signing : Signing
    pub came_is : came ≡ says.Hello text ∷ (says.Proof signature ∷ [])
    pub made_is : made ≡ ToClient.Challenge nonce ∷ []
    pub unjudged : IsUnjudged a text signing nonce b

  -- From a on, this came, this was made for it, the connection then stands so, and has left b.
  abbrev pub Transcript : Around A V C N → Standing → List (FromClient Q) → List (ToClient R) → Around A V C N → Type 0
  Transcript a Standing.Unsaid came made b = (came ≡ []) × (made ≡ []) × (b ≡ a)
  Transcript a (Standing.Challenged signing) came made b = IsMet a signing came made b
  Transcript a (Standing.Signed signing) came made b = IsServed a signing came made b
  Transcript a Standing.Refused came made b = IsRefused a came made b
  Transcript a Standing.Failed came made b = IsFailed a came made b
