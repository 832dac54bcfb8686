-- A peer in memory that gives answers of a list. This project's own.
use Rattle.std.specs.Prelude.{ℕ, List, [], ◌∷◌, ◌++◌, drop}
use Rattle.up_lists.specs.Counts.{count_after}
use Rattle.up_peer.specs.declared.answers.PeerAnswer.{PeerAnswer}
use Rattle.up_peer.specs.declared.answers.PeerAnswer.TheVariants.{Got, Nothing, Failed}
use Rattle.up_peer.specs.declared.answers.PeerCall.{PeerCall}
use Rattle.up_peer.specs.declared.answers.PeerQuestion.{PeerQuestion}

-- the answers still to come, what was asked so far, and how often the answer was a failure
pub record AnswerList : Type 0 where
  pub coming : List PeerAnswer
  pub calls : List PeerCall
  pub faults : ℕ

-- the next answer: nothing, once the list is used up
abbrev pub next_answer : List PeerAnswer → PeerAnswer
next_answer [] = Nothing
next_answer (answer ∷ rest) = answer

-- a count of failures after this answer
abbrev pub faults_after : ℕ → PeerAnswer → ℕ
faults_after count (Got bytes) = count
faults_after count Nothing = count
faults_after count Failed = count_after count 1

-- after a call that asks this
abbrev pub after_call : AnswerList → PeerQuestion → AnswerList
after_call peer question = record {
  coming = drop 1 peer.coming;
  calls = peer.calls ++ (record { question = question; answer = next_answer peer.coming }) ∷ [];
  faults = faults_after peer.faults (next_answer peer.coming);
}
