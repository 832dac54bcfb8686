-- Loadings as lists of names with answers.
use Rattle.std.proofs.Common.{◌≡◌, Bool, List, [], ◌∷◌, ◌++◌, ap, Some, None, true, false, cond, refl}
use Rattle.indexmap.specs.IndexMap.{insert_entry}
use Rattle.up_names.specs.PathNames.{PathName}
use Rattle.up_names.specs.PathOrder.{path_eq}
use Rattle.up_policy.specs.declared.load_answer.LoadAnswer.{LoadAnswer}
use Rattle.up_policy.specs.Loadings.{answer_for}

before_first : (entry : PathName × LoadAnswer) (loaded : List (PathName × LoadAnswer)) (name : PathName) (answer : LoadAnswer) (same : Bool)
    → (answer_for loaded name ≡ None → insert_entry path_eq loaded name answer ≡ loaded ++ (name, answer) ∷ [])
    → cond same (Some entry.1) (answer_for loaded name) ≡ None
    → cond same ((entry.0, answer) ∷ loaded) (entry ∷ insert_entry path_eq loaded name answer) ≡ entry ∷ (loaded ++ (name, answer) ∷ [])
before_first entry loaded name answer true rest h = absurd (cc)
before_first entry loaded name answer false rest h = ap (λ all. entry ∷ all) (rest h)

-- a name that has no answer yet goes to the end
pub new_at_end : (loaded : List (PathName × LoadAnswer)) (name : PathName) (answer : LoadAnswer) → answer_for loaded name ≡ None → insert_entry path_eq loaded name answer ≡ loaded ++ (name, answer) ∷ []
new_at_end [] name answer h = refl
new_at_end (entry ∷ loaded) name answer h = before_first entry loaded name answer (path_eq name entry.0) (new_at_end loaded name answer) h
