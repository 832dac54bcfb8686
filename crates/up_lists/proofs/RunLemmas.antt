-- Calls, one after the other, for every loop over calls.
use Rattle.std.proofs.Common.{◌≡◌, ◌<◌, ◌+◌, ℕ, List, [], ◌∷◌, ◌++◌, length, take, refl, sym, ap, subst, ◌∙◌, arith}
use Rattle.std.proofs.Math.ListN.{get_or}
use Rattle.std.proofs.lemmas.List.{take_more}
use Rattle.up_lists.specs.Runs.{Run}

module _ {W Q A : Type 0} (step : W → Q → A → W → Type 0) where
  -- one run after another
  pub Run-append : (a b c : W) (qs rs : List Q) (xs ys : List A) → Run step a qs xs b → Run step b rs ys c → Run step a (qs ++ rs) (xs ++ ys) c
  Run-append a b c [] rs [] ys one two = subst (λ w. Run step w rs ys c) one two
  Run-append a b c (q ∷ qs) rs (x ∷ xs) ys one two = (one.0, (one.1.0, Run-append one.0 b c qs rs xs ys one.1.1 two))
  Run-append a b c [] rs (x ∷ xs) ys one two = absurd one
  Run-append a b c (q ∷ qs) rs [] ys one two = absurd one

  -- one call more
  pub Run-snoc : (a b c : W) (qs : List Q) (q : Q) (xs : List A) (x : A) → Run step a qs xs b → step b q x c → Run step a (qs ++ q ∷ []) (xs ++ x ∷ []) c
  Run-snoc a b c qs q xs x run last = Run-append a b c qs (q ∷ []) xs (x ∷ []) run (c, (last, refl))

  -- a loop over questions goes on by one
  pub Run-taken : (a b c : W) (qs : List Q) (i : ℕ) (q : Q) (xs : List A) (x : A) → Run step a (take i qs) xs b → i < length qs → q ≡ get_or qs i q → step b q x c
      → Run step a (take (i + 1) qs) (xs ++ x ∷ []) c
  Run-taken a b c qs i q xs x run within is last =
      subst (λ taken. Run step a taken (xs ++ x ∷ []) c) (sym (take_more qs i q within ∙ ap (λ item. take i qs ++ item ∷ []) (sym is))) (Run-snoc a b c (take i qs) q xs x run last)

  -- each question has one answer
  pub length-Run : (a b : W) (qs : List Q) (xs : List A) → Run step a qs xs b → length xs ≡ length qs
  length-Run a b [] [] run = refl
  length-Run a b (q ∷ qs) (x ∷ xs) run = let rest = length-Run run.0 b qs xs run.1.1 in omega arith
  length-Run a b [] (x ∷ xs) run = absurd run
  length-Run a b (q ∷ qs) [] run = absurd run

-- the same run seen through another state, where each step of one is a step of the other
pub Run-image : {W V Q A : Type 0} (f : W → V) (step : W → Q → A → W → Type 0) (other : V → Q → A → V → Type 0)
    → ((a : W) (q : Q) (x : A) (b : W) → step a q x b → other (f a) q x (f b))
    → (a b : W) (qs : List Q) (xs : List A) → Run step a qs xs b → Run other (f a) qs xs (f b)
Run-image f step other each a b [] [] run = ap f run
Run-image f step other each a b (q ∷ qs) (x ∷ xs) run = (f run.0, (each a q x run.0 run.1.0, Run-image f step other each run.0 b qs xs run.1.1))
Run-image f step other each a b [] (x ∷ xs) run = absurd run
Run-image f step other each a b (q ∷ qs) [] run = absurd run
