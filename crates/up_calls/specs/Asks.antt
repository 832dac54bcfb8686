-- How a loader is asked for a list of things, one after the other: for each of them no question, or one with its answer. This
-- project's own.
use Rattle.std.specs.Prelude.{◌≡◌, ℕ, Bool, true, List, [], ◌∷◌, ◌++◌}
use Rattle.std.specs.List.{flat_map, list_any}
use Rattle.up_lists.specs.Counts.{HasCause, StaysUnless}
use Rattle.up_lists.specs.Runs.{Run}

-- somebody was asked exactly these questions, in order, and its count rose where an answer is a failure, and nowhere else
pub record Asks {L Q A X : Type 0} (step : L → Q → A → L → Type 0) (faults : L → ℕ) (tied : L → L → Type 0)
    (is_failed : A → Bool) (question : X → List Q) (answer : X → List A) (old new : L) (things : List X) : Type 0 where
  pub asked : Run step old (flat_map question things) (flat_map answer things) new
  pub counts : HasCause (faults old) (faults new) (list_any is_failed (flat_map answer things) ≡ true)
  pub quiet : StaysUnless (faults old) (faults new) (list_any is_failed (flat_map answer things) ≡ true)
  pub tie : tied old new

-- somebody was asked some questions
pub record Tries {L Q A : Type 0} (step : L → Q → A → L → Type 0) (faults : L → ℕ) (tied : L → L → Type 0) (old new : L) : Type 0 where
  pub questions : List Q
  pub answers : List A
  pub asked : Run step old questions answers new
  pub counts : HasCause (faults old) (faults new) ⊥
  pub tie : tied old new

-- each item of a list, by those before it
abbrev pub EachAfter : {X : Type 0} → (List X → X → Type 0) → List X → List X → Type 0
EachAfter P before [] = Unit {0}
EachAfter P before (x ∷ xs) = P before x × EachAfter P (before ++ x ∷ []) xs
