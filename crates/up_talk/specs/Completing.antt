-- A connection on which nothing is amiss ends well. This project's own.
use Rattle.std.specs.Prelude.{◌≡◌, ◌<◌, ◌⊎◌, ℕ, List, [], ◌∷◌, ◌++◌, length, map, Some, None, Ok}
use Rattle.std.specs.List.{AllByRecursion}
use Rattle.up_ends.specs.Telling.{Grew}
use Rattle.up_ends.specs.declared.verifier.Judged.{Judged}
use Rattle.up_ends.specs.declared.verifier.Verdict.TheVariants.{Yes}
use Rattle.up_frame.specs.Stream.{IsPayload}
use Rattle.up_lists.specs.Counts.{Rose}
use Rattle.up_names.specs.Texts.{UserName}
use Rattle.up_names.specs.UserNames.{user_of}
use Rattle.up_talk.specs.Around.{Parties, World}
use Rattle.up_talk.specs.Limits.{longest, most_turns}
use Rattle.up_talk.specs.Messages.{Fits, payload_from}
use Rattle.up_talk.specs.Talks.{Talks, bytes_from}
use Rattle.up_talk.specs.declared.end.TalkEnd.{TalkEnd}
use Rattle.up_talk.specs.declared.end.TalkEnd.TheVariants as talk
use Rattle.up_talk.specs.declared.message.FromClient.{FromClient}
use Rattle.up_talk.specs.declared.message.FromClient.TheVariants as says

-- a client signs on and asks
abbrev pub asks_all : {Q : Type 0} → List ℕ → List ℕ → List Q → List (FromClient Q)
asks_all text signature questions = says.Hello text ∷ (says.Proof signature ∷ map says.Ask questions)

module _ {A V C N Q R : Type 0} (who : Parties A V C N Q R) where
  -- The source has the frames of a client that signs on, asks and perhaps says Bye, of fewer than 2^40 bytes. The text is that of a user
  -- whose key record a look finds, no verdict was another than Yes, and nothing failed.
  pub record IsInOrder (a b : World A V C N) (text signature : List ℕ) (questions : List Q) (last : List (FromClient Q)) : Type 0 where
    pub last_is : (last ≡ []) ⊎ (last ≡ says.Bye ∷ [])
    pub told : a.ends.left ≡ Some (bytes_from who (asks_all text signature questions ++ last))
    pub few : length (bytes_from who (asks_all text signature questions ++ last)) < most_turns
    pub fits : AllByRecursion (λ f. Fits who.fits f × IsPayload longest (payload_from who.asking f))
        (asks_all text signature questions ++ last)
    pub user : UserName
    pub user_is : user_of text ≡ Ok user
    pub known : (c : A) → who.looked a.around.answerer user None c → ⊥
    pub verdicts : (judged : Judged)
        → Grew (who.judged a.around.verifier) (who.judged b.around.verifier) (judged ∷ []) → judged.verdict ≡ Yes
    pub no_read_failed : Rose a.ends.read_faults b.ends.read_faults → ⊥
    pub no_write_failed : Rose a.ends.write_faults b.ends.write_faults → ⊥
    pub no_verdict_failed : Rose (who.verifier_faults a.around.verifier) (who.verifier_faults b.around.verifier) → ⊥

  -- The connection ended after the last frame, and all that was asked came and was answered; or there was no memory.
  abbrev pub Completes : World A V C N → World A V C N → List (FromClient Q) → TalkEnd → Type 0
  Completes a b asked talk.Ended = (talks : Talks who a b talk.Ended) × (talks.came ≡ asked)
  Completes a b asked talk.OutOfMemory = Unit {0}
  Completes a b asked other = ⊥
