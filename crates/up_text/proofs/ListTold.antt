-- Things of a list are read again, one by one.
use Rattle.std.proofs.Common.{◌≡◌, ◌≢◌, ◌∙◌, ℕ, false, List, [], ◌∷◌, map, Option, Some, codes, cond, if◌then◌else◌, refl, sym, ap}
use Rattle.std.specs.List.{join_by, list_any, slice_split, AllByRecursion}
use Rattle.up_text.specs.Lists.{◌>>=◌, is_comma, is_no_list}
use Rattle.up_text.proofs.JoinLemmas.{split_joined}
use Rattle.up_text.proofs.WordLemmas.{no-dash_from}

abbrev pub all_of : {W X : Type 0} → (W → Option X) → List W → Option (List X)
all_of read [] = Some []
all_of read (word ∷ more) = do
  first ← read word
  others ← all_of read more
  Some (first ∷ others)

both_there : {X : Type 0} (found : Option X) (others : Option (List X)) (x : X) (xs : List X) → found ≡ Some x → others ≡ Some xs → (found >>= λ first. others >>= λ more. Some (first ∷ more)) ≡ Some (x ∷ xs)
both_there found others x xs is same =
    ap (λ first. first >>= λ first. others >>= λ more. Some (first ∷ more)) is ∙ ap (λ more. more >>= λ more. Some (x ∷ more)) same

pub all_again : {W X : Type 0} (read : W → Option X) (f : X → W) (g : X → X) (Fits : X → Type 0) → ((x : X) → Fits x → read (f x) ≡ Some (g x)) → (xs : List X) → AllByRecursion Fits xs → all_of read (map f xs) ≡ Some (map g xs)
all_again read f g Fits each [] all = refl
all_again read f g Fits each (x ∷ xs) all =
    both_there (read (f x)) (all_of read (map f xs)) (g x) (map g xs) (each x all.0) (all_again read f g Fits each xs all.1)

-- a word that is a list: `-`, or things parted by commas
abbrev pub list_in : {X : Type 0} → (List ℕ → Option X) → List ℕ → Option (List X)
list_in read word = if is_no_list word then Some [] else all_of read (slice_split is_comma word)

first_same : {x y : List ℕ} {xs ys : List (List ℕ)} → x ∷ xs ≡ y ∷ ys → x ≡ y
first_same is = cc

pub list_again : {X : Type 0} (read : List ℕ → Option X) (f : X → List ℕ) (g : X → X) (Fits : X → Type 0) → ((x : X) → Fits x → read (f x) ≡ Some (g x)) → ((x : X) → Fits x → list_any is_comma (f x) ≡ false) → ((x : X) → Fits x → f x ≢ 45 ∷ []) → (x : X) (xs : List X) → AllByRecursion Fits (x ∷ xs) → list_in read (join_by f (codes ",") (x ∷ xs)) ≡ Some (map g (x ∷ xs))
list_again read f g Fits each no_comma no_dash x xs all =
    let word = join_by f (codes ",") (x ∷ xs) in
    let split : slice_split is_comma word ≡ f x ∷ map f xs = split_joined is_comma 44 refl f x xs (no_comma x all.0) Fits no_comma all.1 in
    let other : word ≢ 45 ∷ [] = λ is. no_dash x all.0 (first_same (sym split ∙ ap (slice_split is_comma) is)) in
    ap (λ none. cond none (Some []) (all_of read (slice_split is_comma word))) (no-dash_from word other)
    ∙ ap (all_of read) split ∙ all_again read f g Fits each (x ∷ xs) all
