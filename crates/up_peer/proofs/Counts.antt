-- Counts of failures: what a call without an answer leaves, and what an answer adds.
use Rattle.std.proofs.Common.{◌≡◌, ℕ, Result, Ok, Err, IsErr, ap}
use Rattle.up_lists.specs.Counts.{HasCause, StaysUnless}
use Rattle.up_lists.proofs.Causes.{HasCause-same, HasCause-weaker, StaysUnless-more}

-- an error is no answer
pub no_answer : {A E : Type 0} (result : Result A E) (answer : A) → IsErr result → result ≡ Ok answer → ⊥
no_answer (Ok x) answer err is = absurd (cc)
no_answer (Err e) answer err is = cc

-- a call without an answer leaves the count
pub counts_stay : {A E : Type 0} (count : ℕ) (result : Result A E) (answer : A) → IsErr result → HasCause count count (result ≡ Ok answer)
counts_stay count result answer err = HasCause-same count (result ≡ Ok answer) (λ is. absurd (no_answer result answer err is))

-- what is the cause of an answer is the cause of its result
pub counts_of : {A E : Type 0} (before now : ℕ) (given answer : A) → HasCause before now (given ≡ answer) → HasCause before now (◌≡◌ {A = Result A E} (Ok given) (Ok answer))
counts_of {A} {E} before now given answer counts = HasCause-weaker before now (given ≡ answer) (◌≡◌ {A = Result A E} (Ok given) (Ok answer)) counts same
  where
    same : ◌≡◌ {A = Result A E} (Ok given) (Ok answer) → given ≡ answer
    same is = cc

-- and so it is where the count is as before
pub quiet_of : {A E : Type 0} (before now : ℕ) (given answer : A) → StaysUnless before now (given ≡ answer) → StaysUnless before now (◌≡◌ {A = Result A E} (Ok given) (Ok answer))
quiet_of {A} {E} before now given answer quiet = StaysUnless-more before now (given ≡ answer) (◌≡◌ {A = Result A E} (Ok given) (Ok answer)) quiet (ap Ok)
