-- Calls, one after the other. This project's own.
use Rattle.std.specs.Prelude.{◌≡◌, List, [], ◌∷◌}

-- From a on, each question got its answer by a step, one after the other, and left b. Lists of two lengths are no run.
abbrev pub Run : {W Q A : Type 0} → (W → Q → A → W → Type 0) → W → List Q → List A → W → Type 0
Run step a [] [] b = b ≡ a
Run step a (question ∷ questions) (answer ∷ answers) b = (next : _) × (step a question answer next × Run step next questions answers b)
Run step a [] (answer ∷ answers) b = ⊥
Run step a (question ∷ questions) [] b = ⊥
