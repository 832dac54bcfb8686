-- Records, gathered one after the other.
use Rattle.std.proofs.Common.{◌≡◌, ◌+◌, ◌-◌, ℕ, zero, suc, List, [], ◌∷◌, ◌++◌, length, take, drop, refl, sym, ap, ◌∙◌, arith, slice_get, Some, min}
use Rattle.std.specs.Prelude.{map}
use Rattle.std.proofs.lemmas.List.{length-drop, take_min}
use Rattle.up_entry.specs.Spelling as spelling
use Rattle.up_entry.specs.declared.records.Rec.{Rec}
use Rattle.up_feed.specs.Feeding.{batch_in, texts_of}
use Rattle.up_log_tree.specs.Changes.{record_at}
use Rattle.up_shared.proofs.Pairs.{length_map, some_none, some_same}

-- the next item is the next of those that are taken
next_taken : {X : Type 0} (xs : List X) (n : ℕ) (x : X) → slice_get xs n ≡ Some x → take (suc n) xs ≡ take n xs ++ x ∷ []
next_taken [] n x is = absurd (some_none x (sym is))
next_taken (y ∷ ys) zero x is = ap (λ z. z ∷ []) (some_same y x is)
next_taken (y ∷ ys) (suc n) x is = ap (λ l. y ∷ l) (next_taken ys n x is)

get_dropped : {X : Type 0} (xs : List X) (from at : ℕ) → slice_get (drop from xs) at ≡ slice_get xs (from + at)
get_dropped xs zero at = ap (slice_get xs) (let same : at ≡ 0 + at = omega arith in same)
get_dropped [] (suc from) at = refl
get_dropped (x ∷ xs) (suc from) at =
    let further : suc from + at ≡ suc (from + at) = omega arith in
    get_dropped xs from at ∙ sym (ap (slice_get (x ∷ xs)) further)

get_mapped : {X Y : Type 0} (f : X → Y) (xs : List X) (i : ℕ) (x : X) → slice_get xs i ≡ Some x → slice_get (map f xs) i ≡ Some (f x)
get_mapped f [] i x is = absurd (some_none x (sym is))
get_mapped f (y ∷ ys) zero x is = ap (λ z. Some (f z)) (some_same y x is)
get_mapped f (y ∷ ys) (suc i) x is = get_mapped f ys i x is

-- one record more
pub batch_grows : (from at : ℕ) (log : List Rec) (rec : Rec) → record_at log (from + at + 1) ≡ Some rec
    → take (at + 1) (drop from (texts_of log)) ≡ take at (drop from (texts_of log)) ++ spelling.rec rec ∷ []
batch_grows from at log rec is =
    let place : from + at + 1 ≡ suc (from + at) = omega arith in
    let more : at + 1 ≡ suc at = omega arith in
    ap (λ n. take n (drop from (texts_of log))) more
    ∙ next_taken (drop from (texts_of log)) at (spelling.rec rec)
    (get_dropped (texts_of log) from at ∙ get_mapped spelling.rec log (from + at) rec (sym (ap (record_at log) place) ∙ is))

-- all of them
pub batch_whole : (from more : ℕ) (log : List Rec) → more ≡ min 64 (length log - from) → take more (drop from (texts_of log)) ≡ batch_in from log
batch_whole from more log is =
    let texts = drop from (texts_of log) in
    let long : length texts ≡ length log - from = length-drop from (texts_of log) ∙ ap (λ n. n - from) (length_map spelling.rec log) in
    ap (λ n. take n texts) (is ∙ ap (λ n. min 64 n) (sym long)) ∙ take_min 64 texts
