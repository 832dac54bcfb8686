-- What is joined is cut there again.
use Rattle.std.proofs.Common.{◌≡◌, ◌∙◌, ℕ, Bool, true, false, List, [], ◌∷◌, ◌++◌, map, refl, ap}
use Rattle.std.specs.List.{join_by, list_any, onto_first, slice_split, AllByRecursion}
use Rattle.std.proofs.lemmas.Bool.{or_parts}
use Rattle.std.proofs.lemmas.List.{append-nil}
use Rattle.std.proofs.lemmas.List.Splits.{slice_split-cons_no, slice_split-cons_yes}
use Rattle.up_names.proofs.CutLemmas.{slice_split-whole}

split_at_mark : (p : ℕ → Bool) (xs : List ℕ) (y : ℕ) (ys : List ℕ) → list_any p xs ≡ false → p y ≡ true → slice_split p (xs ++ y ∷ ys) ≡ xs ∷ slice_split p ys
split_at_mark p [] y ys none marked = slice_split-cons_yes p y ys marked
split_at_mark p (x ∷ xs) y ys none marked =
    let parts = or_parts (p x) (list_any p xs) none in
    slice_split-cons_no p x (xs ++ y ∷ ys) parts.0 ∙ ap (onto_first x) (split_at_mark p xs y ys parts.1 marked)

-- things joined by a byte that stands in none of them
pub split_joined : {X : Type 0} (p : ℕ → Bool) (c : ℕ) → p c ≡ true → (f : X → List ℕ) → (x : X) (xs : List X) → list_any p (f x) ≡ false → (free : X → Type 0) → ((z : X) → free z → list_any p (f z) ≡ false) → AllByRecursion free xs → slice_split p (join_by f (c ∷ []) (x ∷ xs)) ≡ f x ∷ map f xs
split_joined p c marked f x [] first free each all =
    ap (slice_split p) (append-nil (f x)) ∙ slice_split-whole p (f x) first
split_joined p c marked f x (z ∷ zs) first free each all =
    split_at_mark p (f x) c (join_by f (c ∷ []) (z ∷ zs)) first marked
    ∙ ap (λ rest. f x ∷ rest) (split_joined p c marked f z zs (each z all.0) free each all.1)

pub map_same : {X : Type 0} (xs : List X) → map (λ x. x) xs ≡ xs
map_same [] = refl
map_same (x ∷ xs) = ap (λ more. x ∷ more) (map_same xs)

-- two facts of each
pub all_both : {X : Type 0} (P Q : X → Type 0) (xs : List X) → AllByRecursion P xs → AllByRecursion Q xs → AllByRecursion (λ x. P x × Q x) xs
all_both P Q [] of_p of_q = tt
all_both P Q (x ∷ xs) of_p of_q = ((of_p.0, of_q.0), all_both P Q xs of_p.1 of_q.1)

pub all_mapped : {X Y : Type 0} (P : X → Type 0) (Q : Y → Type 0) (f : X → Y) → ((x : X) → P x → Q (f x)) → (xs : List X) → AllByRecursion P xs → AllByRecursion Q (map f xs)
all_mapped P Q f each [] all = tt
all_mapped P Q f each (x ∷ xs) all = (each x all.0, all_mapped P Q f each xs all.1)

pub all_weaker : {X : Type 0} (P Q : X → Type 0) → ((x : X) → P x → Q x) → (xs : List X) → AllByRecursion P xs → AllByRecursion Q xs
all_weaker P Q each [] all = tt
all_weaker P Q each (x ∷ xs) all = (each x all.0, all_weaker P Q each xs all.1)
