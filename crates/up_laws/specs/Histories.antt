-- Two trees under two lists of turns. This project's own.
use Rattle.std.specs.Prelude.{◌≡◌, ℕ, suc, ◌+◌, Bool, ◌&&◌, if◌then◌else◌, List, [], ◌∷◌, ◌++◌, length, take, fold, All}
use Rattle.std.specs.Prelude.{Option, Some, None, Result, IfOk}
use Rattle.std.specs.Option.{option_map}
use Rattle.std.specs.Str.{bytes_eq}
use Rattle.up_names.specs.Texts.{UserName}
use Rattle.up_disk.specs.declared.disk.Disk.{Ghosts}
use Rattle.up_lists.specs.Runs.{Run}
use Rattle.up_policy.specs.Loadings.{Loading}
use Rattle.up_wire.specs.declared.replies.Reply.{Reply}
use Rattle.up_log_tree.specs.Logs.{Log}
use Rattle.up_tree.specs.States.{State}
use Rattle.up_answers.specs.Agreement.{Agree}
use Rattle.up_answers.specs.Laws.{InStep, Turn, after_turn}
use Rattle.up_laws.specs.Turns.{IsMade, one_stops}
use Rattle.up_laws.specs.declared.turns.Pairs.{Pairs}

-- a turn of each list was made on its tree
abbrev pub AreMade : {D E : Type 0} → Ghosts D → Ghosts E → State D × State E → Turn × Turn → Reply × Reply → State D × State E → Type 0
AreMade one two old turns replies new = IsMade one turns.0 old.0 new.0 replies.0 × IsMade two turns.1 old.1 new.1 replies.1

-- both turns are the user's
abbrev pub are_of : UserName → Turn × Turn → Bool
are_of user turns = bytes_eq turns.0.user user && bytes_eq turns.1.user user

-- of the replies to some first turns, those to the user
abbrev pub kept : UserName → List (Turn × Turn) → List (Reply × Reply) → List (Reply × Reply)
kept user [] replies = []
kept user (turns ∷ more) [] = []
kept user (turns ∷ more) (replies ∷ rest) = if are_of user turns then replies ∷ kept user more rest else kept user more rest

-- the number, from 0, of the first turn whose replies stop the run
abbrev pub first_stop : List (Turn × Turn) → List (Reply × Reply) → Option ℕ
first_stop [] replies = None
first_stop (turns ∷ more) [] = None
first_stop (turns ∷ more) (replies ∷ rest) = if one_stops turns replies then Some 0 else option_map suc (first_stop more rest)

-- A turn of each list was made. Its pair of replies was kept behind the others where both turns are the user's, and it is told whether
-- it stops the run.
pub record TakesTurns {D E F : Type 0} (one : Ghosts D) (two : Ghosts E) (user : UserName) (turns : Turn × Turn)
    (old new : State D × State E) (before after : List (Reply × Reply)) (result : Result Bool F) : Type 0 where
  pub replies : Reply × Reply
  pub made : AreMade one two old turns replies new
  pub kept : IfOk result (λ stopped. after ≡ (if are_of user turns then before ++ replies ∷ [] else before))
  pub stopped : IfOk result (λ stopped. stopped ≡ one_stops turns replies)

-- The first n turns of two lists were made, and none stopped the run.
pub record IsGoing {D E : Type 0} (one : Ghosts D) (two : Ghosts E) (user : UserName) (turns : List (Turn × Turn))
    (old now : State D × State E) (replies : List (Reply × Reply)) (n : ℕ) : Type 0 where
  pub made : List (Reply × Reply)
  pub run : Run (AreMade one two) old (take n turns) made now
  pub told : replies ≡ kept user turns made
  pub goes_on : first_stop turns made ≡ None

-- Turns of two lists were made, one after the other. The pairs are the replies to the user, in order, of those that were made; and
-- these are all, or those up to the first that stops the run. Where memory is wanted, some first turns were made all the same.
pub record IsPlayed {D E F : Type 0} (one : Ghosts D) (two : Ghosts E) (user : UserName)
    (turns : List (Turn × Turn)) (old new : State D × State E) (result : Result Pairs F) : Type 0 where
  pub made : List (Reply × Reply)
  pub run : Run (AreMade one two) old (take (length made) turns) made new
  pub replies : IfOk result (λ pairs. pairs.replies ≡ kept user turns made)
  pub stopped : IfOk result (λ pairs. pairs.stopped ≡ first_stop turns made)
  pub whole : IfOk result (λ pairs. pairs.stopped ≡ None → length made ≡ length turns)
  pub last : IfOk result (λ pairs. (n : ℕ) → pairs.stopped ≡ Some n → length made ≡ n + 1)

-- the log after some turns
abbrev pub after_turns : Log → List Turn → Log
after_turns log turns = fold after_turn log turns

-- The two logs, and what they became by two lists of turns that nothing stopped: they are those after all turns. Logs that agree for the
-- user and some loadings at the start, under lists that are in step, give the user pairs of equal replies, and still agree.
pub record ArePlayedAlike (user : UserName) (first second : List Turn) (one two one' two' : Log) (pairs : Pairs) : Type 0 where
  pub first_log : pairs.stopped ≡ None → one' ≡ after_turns one first
  pub second_log : pairs.stopped ≡ None → two' ≡ after_turns two second
  pub same : pairs.stopped ≡ None → (loadings : List Loading) → Agree user loadings one two
      → InStep user loadings one two first second → All (λ pair. pair.0 ≡ pair.1) pairs.replies
  pub kept : pairs.stopped ≡ None → (loadings : List Loading) → Agree user loadings one two
      → InStep user loadings one two first second → Agree user loadings one' two'
