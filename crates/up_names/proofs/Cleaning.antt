-- A reader that keeps a stack meets the rule for `..`: over any pieces and any test `up`.
use Rattle.std.proofs.Common.{◌≡◌, ℕ, zero, suc, ◌+◌, ◌-◌, ◌<◌, ◌≤◌, Bool, true, false, cond, not, ◌&&◌, leb, List, [], ◌∷◌, ◌++◌, map, length, take, refl, sym, ap, subst, ◌∙◌, arith, count_by, zero-add}
use Rattle.std.specs.List.{list_all}
use Rattle.std.proofs.lemmas.Bool.{leb-true, leb-false, le-leb, lt-leb, and_parts, and_from, cond_both, not-true}
use Rattle.std.proofs.lemmas.List.{append_assoc, append-nil, length-append, length-take, take-append-le, take_all, take-take}
use Rattle.std.proofs.lemmas.List.Folds.{list_all-map}
use Rattle.std.proofs.lemmas.List.Sums.{sum_by-cons}
use Rattle.up_names.specs.PathNames.{runs, has_no_surplus, staying}

-- the kept pieces after one more: `up` drops the last of them, another piece is kept
abbrev pub stepped : {X : Type 0} → (X → Bool) → List X → X → List X
stepped up kept piece = cond (up piece) (take (length kept - 1) kept) (kept ++ piece ∷ [])

-- the kept pieces after all of these
abbrev pub walk : {X : Type 0} → (X → Bool) → List X → List X → List X
walk up kept [] = kept
walk up kept (piece ∷ rest) = walk up (stepped up kept piece) rest

-- how many of the pieces before them these pieces drop
abbrev debt : {X : Type 0} → (X → Bool) → List X → ℕ
debt up [] = 0
debt up (piece ∷ rest) = cond (up piece) (suc (debt up rest)) (debt up rest - 1)

same_leb : (a b c d : ℕ) → (a ≤ b → c ≤ d) → (c ≤ d → a ≤ b) → leb a b ≡ leb c d
same_leb a b c d there back =
    elim (leb a b) as (λ t. leb a b ≡ t → t ≡ leb c d) [
      | true ↦ λ e. sym (le-leb c d (there (leb-true a b e)))
      | false ↦ λ e. elim (leb c d) as (λ t. leb c d ≡ t → false ≡ t) [
        | true ↦ λ f. sym e ∙ le-leb a b (back (leb-true c d f))
        | false ↦ λ _. refl
      ] refl
    ] refl

list_all_same : {X : Type 0} (f g : X → Bool) → ((x : X) → f x ≡ g x) → (xs : List X) → list_all f xs ≡ list_all g xs
list_all_same f g same [] = refl
list_all_same f g same (x ∷ xs) = ap (λ t. t && list_all f xs) (same x) ∙ ap (λ t. g x && t) (list_all_same f g same xs)

module _ {X : Type 0} (up : X → Bool) where
  abbrev names : List X → ℕ
  names run = count_by (λ piece. not (up piece)) run

  -- the run has at most k `up` beyond its names
  abbrev within : ℕ → List X → Bool
  within k run = leb (count_by up run) (k + names run)

  ups-cons : (piece : X) (run : List X) (b : Bool) → up piece ≡ b → count_by up (piece ∷ run) ≡ cond b 1 0 + count_by up run
  ups-cons piece run b e = sum_by-cons (λ x. cond (up x) 1 0) piece run ∙ ap (λ t. cond t 1 0 + count_by up run) e

  names-cons : (piece : X) (run : List X) (b : Bool) → up piece ≡ b → names (piece ∷ run) ≡ cond (not b) 1 0 + names run
  names-cons piece run b e = sum_by-cons (λ x. cond (not (up x)) 1 0) piece run ∙ ap (λ t. cond (not t) 1 0 + names run) e

  within-up : (k : ℕ) (piece : X) (run : List X) → up piece ≡ true → within (suc k) (piece ∷ run) ≡ within k run
  within-up k piece run e =
      let ups = ups-cons piece run true e in
      let named = names-cons piece run true e in
      same_leb _ _ _ _ (λ h. omega arith) (λ h. omega arith)

  within-name : (k : ℕ) (piece : X) (run : List X) → up piece ≡ false → within k (piece ∷ run) ≡ within (suc k) run
  within-name k piece run e =
      let ups = ups-cons piece run false e in
      let named = names-cons piece run false e in
      same_leb _ _ _ _ (λ h. omega arith) (λ h. omega arith)

  -- what `all_within` says of these pieces and of any k
  abbrev Counts : List X → Type 0
  Counts ps = (k : ℕ) → list_all (within k) (runs ps) ≡ leb (debt up ps) k

  later : (j k : ℕ) (piece : X) (rest : List X) → ((run : List X) → within k (piece ∷ run) ≡ within j run) → list_all (within k) (map (λ run. piece ∷ run) (runs rest)) ≡ list_all (within j) (runs rest)
  later j k piece rest same =
      list_all-map (within k) (λ run. piece ∷ run) (runs rest) ∙ list_all_same (λ run. within k (piece ∷ run)) (within j) same (runs rest)

  within-nil : (k : ℕ) → within k [] ≡ true
  within-nil k = le-leb _ _ (omega arith)

  all_within-up : (k : ℕ) (piece : X) (rest : List X) → up piece ≡ true → Counts rest → list_all (within k) (runs (piece ∷ rest)) ≡ leb (suc (debt up rest)) k
  all_within-up zero piece rest e counts =
      let ups = ups-cons piece [] true e in
      let named = names-cons piece [] true e in
      ap (λ t. t && list_all (within 0) (map (λ run. piece ∷ run) (runs rest))) (lt-leb _ _ (omega arith)) ∙ sym (lt-leb _ _ (omega arith))
  all_within-up (suc j) piece rest e counts =
      ap (λ t. t && list_all (within (suc j)) (map (λ run. piece ∷ run) (runs rest))) (within-up j piece [] e ∙ within-nil j)
      ∙ later j (suc j) piece rest (λ run. within-up j piece run e)
      ∙ counts j
      ∙ same_leb _ _ _ _ (λ h. omega arith) (λ h. omega arith)

  all_within-name : (k : ℕ) (piece : X) (rest : List X) → up piece ≡ false → Counts rest → list_all (within k) (runs (piece ∷ rest)) ≡ leb (debt up rest - 1) k
  all_within-name k piece rest e counts =
      ap (λ t. t && list_all (within k) (map (λ run. piece ∷ run) (runs rest))) (within-name k piece [] e ∙ within-nil (suc k))
      ∙ later (suc k) k piece rest (λ run. within-name k piece run e)
      ∙ counts (suc k)
      ∙ same_leb _ _ _ _ (λ h. omega arith) (λ h. omega arith)

  -- each run that begins with the first piece has at most k `up` beyond its names: exactly where at most k pieces are dropped
  all_within : (ps : List X) → Counts ps
  all_within [] k = sym (le-leb 0 k (omega arith))
  all_within (piece ∷ rest) k =
      elim (up piece) as (λ b. up piece ≡ b → list_all (within k) (runs (piece ∷ rest)) ≡ leb (cond b (suc (debt up rest)) (debt up rest - 1)) k) [
        | true ↦ λ e. all_within-up k piece rest e (all_within rest)
        | false ↦ λ e. all_within-name k piece rest e (all_within rest)
      ] refl

  -- a run has more `up` than names exactly where a piece before is dropped
  has_no_surplus-is : (ps : List X) → has_no_surplus up ps ≡ leb (debt up ps) 0
  has_no_surplus-is ps =
      list_all_same (λ run. leb (count_by up run) (names run)) (within 0) (λ run. ap (leb (count_by up run)) (sym (zero-add (names run)))) (runs ps)
      ∙ all_within ps 0

  -- the front of the kept pieces that stays, and the names that stay of the rest
  abbrev left_of : List X → List X → List X
  left_of kept ps = take (length kept - debt up ps) kept ++ staying up ps

  left_of-up : (kept rest : List X) → left_of (take (length kept - 1) kept) rest ≡ take (length kept - suc (debt up rest)) kept ++ staying up rest
  left_of-up kept rest =
      let short = length-take (length kept - 1) kept in
      ap (λ front. front ++ staying up rest) (
      take-take (length (take (length kept - 1) kept) - debt up rest) (length kept - 1) kept (omega arith)
      ∙ ap (λ n. take n kept) (omega arith))

  left_of-kept : (kept : List X) (piece : X) (rest : List X) → debt up rest ≡ 0 → left_of (kept ++ piece ∷ []) rest ≡ take (length kept - (debt up rest - 1)) kept ++ (piece ∷ staying up rest)
  left_of-kept kept piece rest none =
      ap (λ front. front ++ staying up rest) (take_all _ (kept ++ piece ∷ []) (omega arith))
      ∙ append_assoc kept (piece ∷ []) (staying up rest)
      ∙ ap (λ front. front ++ (piece ∷ staying up rest)) (sym (take_all _ kept (omega arith)))

  left_of-dropped : (kept : List X) (piece : X) (rest : List X) → 0 < debt up rest → left_of (kept ++ piece ∷ []) rest ≡ take (length kept - (debt up rest - 1)) kept ++ staying up rest
  left_of-dropped kept piece rest some =
      let long = length-append kept (piece ∷ []) in
      ap (λ front. front ++ staying up rest) (
      take-append-le (length (kept ++ piece ∷ []) - debt up rest) kept (piece ∷ []) (omega arith)
      ∙ ap (λ n. take n kept) (omega arith))

  left_of-name : (kept : List X) (piece : X) (rest : List X) → up piece ≡ false → left_of (kept ++ piece ∷ []) rest ≡ left_of kept (piece ∷ rest)
  left_of-name kept piece rest e =
      let Kept : Bool → Bool → Type 0 = λ b t. left_of (kept ++ piece ∷ []) rest
      ≡ take (length kept - cond b (suc (debt up rest)) (debt up rest - 1)) kept ++ cond (not b && t) (piece ∷ staying up rest) (staying up rest) in
      let at_name : (t : Bool) → has_no_surplus up rest ≡ t → Kept false t =
      λ t h. elim t as (λ t. has_no_surplus up rest ≡ t → Kept false t) [
        | true ↦ λ h. left_of-kept kept piece rest (let none : debt up rest ≤ 0 = leb-true _ _ (sym (has_no_surplus-is rest) ∙ h) in omega arith)
        | false ↦ λ h. left_of-dropped kept piece rest (leb-false _ _ (sym (has_no_surplus-is rest) ∙ h))
      ] h in
      subst (λ b. Kept b (has_no_surplus up rest)) (sym e) (at_name (has_no_surplus up rest) refl)

  -- what the stack holds in the end
  pub walk-is : (kept ps : List X) → walk up kept ps ≡ left_of kept ps
  walk-is kept [] = sym (append-nil _ ∙ take_all _ kept (omega arith))
  walk-is kept (piece ∷ rest) =
      elim (up piece) as (λ b. up piece ≡ b → walk up (cond b (take (length kept - 1) kept) (kept ++ piece ∷ [])) rest ≡ left_of kept (piece ∷ rest)) [
        | true ↦ λ e. walk-is (take (length kept - 1) kept) rest ∙ left_of-up kept rest ∙ at_up kept piece rest e
        | false ↦ λ e. walk-is (kept ++ piece ∷ []) rest ∙ left_of-name kept piece rest e
      ] refl
    where
      at_up : (kept : List X) (piece : X) (rest : List X) → up piece ≡ true → take (length kept - suc (debt up rest)) kept ++ staying up rest ≡ left_of kept (piece ∷ rest)
      at_up kept piece rest e =
          subst (λ b. take (length kept - suc (debt up rest)) kept ++ staying up rest
          ≡ take (length kept - cond b (suc (debt up rest)) (debt up rest - 1)) kept ++ cond (not b && has_no_surplus up rest) (piece ∷ staying up rest) (staying up rest)) (sym e) refl

  -- from an empty stack: the names that stay
  pub walk-staying : (ps : List X) → walk up [] ps ≡ staying up ps
  walk-staying ps = walk-is [] ps ∙ ap (λ front. front ++ staying up ps) (take_all _ [] (omega arith))

  -- what stays is among the pieces
  pub staying-all : (test : X → Bool) (ps : List X) → list_all test ps ≡ true → list_all test (staying up ps) ≡ true
  staying-all test [] all = refl
  staying-all test (piece ∷ rest) all =
      let both = and_parts (test piece) (list_all test rest) all in
      let behind = staying-all test rest both.1 in
      cond_both (not (up piece) && has_no_surplus up rest) (piece ∷ staying up rest) (staying up rest) (λ kept. list_all test kept ≡ true) (λ _. and_from (test piece) _ both.0 behind) (λ _. behind)

  -- and no `up`
  pub staying-names : (ps : List X) → list_all (λ piece. not (up piece)) (staying up ps) ≡ true
  staying-names [] = refl
  staying-names (piece ∷ rest) =
      let behind = staying-names rest in
      cond_both (not (up piece) && has_no_surplus up rest) (piece ∷ staying up rest) (staying up rest) (λ kept. list_all (λ piece. not (up piece)) kept ≡ true)
      (λ h. and_from (not (up piece)) _ (and_parts (not (up piece)) _ h).0 behind) (λ _. behind)

  walk-names : (kept ps : List X) → list_all (λ piece. not (up piece)) ps ≡ true → walk up kept ps ≡ kept ++ ps
  walk-names kept [] all = sym (append-nil kept)
  walk-names kept (piece ∷ rest) all =
      let both = and_parts (not (up piece)) (list_all (λ piece. not (up piece)) rest) all in
      ap (λ b. walk up (cond b (take (length kept - 1) kept) (kept ++ piece ∷ [])) rest) (not-true _ both.0)
      ∙ walk-names (kept ++ piece ∷ []) rest both.1
      ∙ append_assoc kept (piece ∷ []) rest

  -- names alone all stay
  pub staying-only_names : (ps : List X) → list_all (λ piece. not (up piece)) ps ≡ true → staying up ps ≡ ps
  staying-only_names ps all = sym (walk-staying ps) ∙ walk-names [] ps all
