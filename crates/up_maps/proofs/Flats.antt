-- What an edit of one piece leaves of the whole list, and of the places of the pieces.
use Rattle.std.proofs.Common.{◌≡◌, ℕ, zero, suc, ◌+◌, ◌-◌, ◌<◌, ◌≤◌, List, [], ◌∷◌, ◌++◌, length, drop, get_or, set, refl, ap, sym, ◌∙◌, arith, length-append}
use Rattle.std.proofs.lemmas.List.{append_assoc, drop-drop, drop_at, drop-append-le}
use Rattle.std.proofs.lemmas.List.Edits.{insert-append_left, insert-append_right, remove-append_left, remove-append_right}
use Rattle.std.specs.List.{insert, remove, slice_get}
use Rattle.up_maps.specs.Joined.{joined, before}

before-suc : {X : Type 0} (ps : List (List X)) (p : ℕ) → p < length ps → before ps (suc p) ≡ before ps p + length (get_or ps p [])
before-suc [] p l = grind arith
before-suc (q ∷ ps) zero l = omega arith
before-suc (q ∷ ps) (suc p) l = omega (arith, before-suc ps p (omega arith))

pub before-next : {X : Type 0} (ps : List (List X)) (p : ℕ) → p < length ps → before ps (p + 1) ≡ before ps p + length (get_or ps p [])
before-next ps p l = let e : p + 1 ≡ suc p = omega arith in ap (before ps) e ∙ before-suc ps p l

pub before-all : {X : Type 0} (ps : List (List X)) → before ps (length ps) ≡ length (joined ps)
before-all [] = refl
before-all (q ∷ ps) = omega (arith, before-all ps, length-append q (joined ps))

pub before-le : {X : Type 0} (ps : List (List X)) (k : ℕ) → before ps k ≤ length (joined ps)
before-le ps zero = omega arith
before-le [] (suc k) = omega arith
before-le (q ∷ ps) (suc k) = omega (arith, before-le ps k, length-append q (joined ps))

slice_get-right : {X : Type 0} (xs ys : List X) (i : ℕ) → slice_get (xs ++ ys) (length xs + i) ≡ slice_get ys i
slice_get-right [] ys i = let e : 0 + i ≡ i = omega arith in ap (slice_get ys) e
slice_get-right (x ∷ xs) ys i = let e : suc (length xs) + i ≡ suc (length xs + i) = omega arith in ap (slice_get (x ∷ (xs ++ ys))) e ∙ slice_get-right xs ys i

slice_get-left : {X : Type 0} (xs ys : List X) (i : ℕ) → i < length xs → slice_get (xs ++ ys) i ≡ slice_get xs i
slice_get-left [] ys i l = grind arith
slice_get-left (x ∷ xs) ys zero l = refl
slice_get-left (x ∷ xs) ys (suc i) l = slice_get-left xs ys i (omega arith)

-- the j-th item of the p-th piece
pub joined-at : {X : Type 0} (ps : List (List X)) (p j : ℕ) → p < length ps → j < length (get_or ps p []) → slice_get (joined ps) (before ps p + j) ≡ slice_get (get_or ps p []) j
joined-at [] p j l m = grind arith
joined-at (q ∷ ps) zero j l m = let e : 0 + j ≡ j = omega arith in ap (slice_get (q ++ joined ps)) e ∙ slice_get-left q (joined ps) j m
joined-at (q ∷ ps) (suc p) j l m =
    let e : length q + before ps p + j ≡ length q + (before ps p + j) = omega arith in
    ap (slice_get (q ++ joined ps)) e ∙ slice_get-right q (joined ps) (before ps p + j) ∙ joined-at ps p j (omega arith) m

-- an insert into the p-th piece
pub joined-insert : {X : Type 0} (ps : List (List X)) (p j : ℕ) (x : X) → p < length ps → j ≤ length (get_or ps p []) → joined (set ps p (insert (get_or ps p []) j x)) ≡ insert (joined ps) (before ps p + j) x
joined-insert [] p j x l m = grind arith
joined-insert (q ∷ ps) zero j x l m = let e : 0 + j ≡ j = omega arith in sym (ap (λ k. insert (q ++ joined ps) k x) e ∙ insert-append_left q (joined ps) j x m)
joined-insert (q ∷ ps) (suc p) j x l m =
    let e : length q + before ps p + j - length q ≡ before ps p + j = omega arith in
    let step = insert-append_right q (joined ps) (length q) (length q + before ps p + j) x refl (omega arith) in
    ap (λ l. q ++ l) (joined-insert ps p j x (omega arith) m ∙ ap (λ k. insert (joined ps) k x) (sym e)) ∙ sym step

-- a removal from the p-th piece
pub joined-remove : {X : Type 0} (ps : List (List X)) (p j : ℕ) → p < length ps → j < length (get_or ps p []) → joined (set ps p (remove (get_or ps p []) j)) ≡ remove (joined ps) (before ps p + j)
joined-remove [] p j l m = grind arith
joined-remove (q ∷ ps) zero j l m = let e : 0 + j ≡ j = omega arith in sym (ap (λ k. remove (q ++ joined ps) k) e ∙ remove-append_left q (joined ps) j m)
joined-remove (q ∷ ps) (suc p) j l m =
    let e : length q + before ps p + j - length q ≡ before ps p + j = omega arith in
    let step = remove-append_right q (joined ps) (length q) (length q + before ps p + j) refl (omega arith) in
    ap (λ l. q ++ l) (joined-remove ps p j (omega arith) m ∙ ap (λ k. remove (joined ps) k) (sym e)) ∙ sym step

-- the places after the p-th piece became q
pub before-set_low : {X : Type 0} (ps : List (List X)) (p k : ℕ) (q : List X) → k ≤ p → before (set ps p q) k ≡ before ps k
before-set_low ps p zero q l = refl
before-set_low [] p (suc k) q l = refl
before-set_low (r ∷ ps) zero (suc k) q l = grind arith
before-set_low (r ∷ ps) (suc p) (suc k) q l = omega (arith, before-set_low ps p k q (omega arith))

pub before-set_high : {X : Type 0} (ps : List (List X)) (p k : ℕ) (q : List X) → p < k → p < length ps → before (set ps p q) k + length (get_or ps p []) ≡ before ps k + length q
before-set_high [] p k q l m = grind arith
before-set_high (r ∷ ps) p zero q l m = grind arith
before-set_high (r ∷ ps) zero (suc k) q l m = omega arith
before-set_high (r ∷ ps) (suc p) (suc k) q l m = omega (arith, before-set_high ps p k q (omega arith) (omega arith))

-- the p-th piece cut in two
pub joined-split : {X : Type 0} (ps : List (List X)) (p : ℕ) (front back : List X) → p < length ps → front ++ back ≡ get_or ps p [] → joined (insert (set ps p front) (suc p) back) ≡ joined ps
joined-split [] p front back l e = grind arith
joined-split (q ∷ ps) zero front back l e = sym (append_assoc front back (joined ps)) ∙ ap (λ l. l ++ joined ps) e
joined-split (q ∷ ps) (suc p) front back l e = ap (λ l. q ++ l) (joined-split ps p front back (omega arith) e)

pub before-split_low : {X : Type 0} (ps : List (List X)) (p k : ℕ) (front back : List X) → p < length ps → k ≤ p → before (insert (set ps p front) (suc p) back) k ≡ before ps k
before-split_low ps p zero front back l m = refl
before-split_low [] p (suc k) front back l m = grind arith
before-split_low (q ∷ ps) zero (suc k) front back l m = grind arith
before-split_low (q ∷ ps) (suc p) (suc k) front back l m = omega (arith, before-split_low ps p k front back (omega arith) (omega arith))

pub before-split_at : {X : Type 0} (ps : List (List X)) (p : ℕ) (front back : List X) → p < length ps → before (insert (set ps p front) (suc p) back) (suc p) ≡ before ps p + length front
before-split_at [] p front back l = grind arith
before-split_at (q ∷ ps) zero front back l = omega arith
before-split_at (q ∷ ps) (suc p) front back l = omega (arith, before-split_at ps p front back (omega arith))

pub before-split_high : {X : Type 0} (ps : List (List X)) (p k : ℕ) (front back : List X) → p < length ps → front ++ back ≡ get_or ps p [] → p < k → before (insert (set ps p front) (suc p) back) (suc k) ≡ before ps k
before-split_high [] p k front back l e m = grind arith
before-split_high (q ∷ ps) p zero front back l e m = grind arith
before-split_high (q ∷ ps) zero (suc k) front back l e m = omega (arith, length-append front back, ap length e)
before-split_high (q ∷ ps) (suc p) (suc k) front back l e m = omega (arith, before-split_high ps p k front back (omega arith) e (omega arith))

-- a piece of one item taken away
pub joined-take : {X : Type 0} (ps : List (List X)) (p : ℕ) → p < length ps → length (get_or ps p []) ≡ 1 → joined (remove ps p) ≡ remove (joined ps) (before ps p)
joined-take [] p l e = grind arith
joined-take ([] ∷ ps) zero l e = grind arith
joined-take ((x ∷ []) ∷ ps) zero l e = refl
joined-take ((x ∷ (y ∷ q)) ∷ ps) zero l e = grind arith
joined-take (q ∷ ps) (suc p) l e =
    let n : length q + before ps p - length q ≡ before ps p = omega arith in
    let step = remove-append_right q (joined ps) (length q) (length q + before ps p) refl (omega arith) in
    ap (λ l. q ++ l) (joined-take ps p (omega arith) e ∙ ap (λ k. remove (joined ps) k) (sym n)) ∙ sym step

pub before-take_low : {X : Type 0} (ps : List (List X)) (p k : ℕ) → k ≤ p → before (remove ps p) k ≡ before ps k
before-take_low ps p zero m = refl
before-take_low [] zero (suc k) m = grind arith
before-take_low [] (suc p) (suc k) m = refl
before-take_low (q ∷ ps) zero (suc k) m = grind arith
before-take_low (q ∷ ps) (suc p) (suc k) m = omega (arith, before-take_low ps p k (omega arith))

pub before-take_high : {X : Type 0} (ps : List (List X)) (p k : ℕ) → p < length ps → length (get_or ps p []) ≡ 1 → p ≤ k → before (remove ps p) k + 1 ≡ before ps (suc k)
before-take_high [] p k l e m = grind arith
before-take_high (q ∷ ps) zero k l e m = omega (arith, e)
before-take_high (q ∷ ps) (suc p) zero l e m = grind arith
before-take_high (q ∷ ps) (suc p) (suc k) l e m = omega (arith, before-take_high ps p k (omega arith) e (omega arith))

drop-right : {X : Type 0} (xs ys : List X) (n : ℕ) → drop (length xs + n) (xs ++ ys) ≡ drop n ys
drop-right xs ys n = sym (drop-drop n (length xs) (xs ++ ys)) ∙ ap (drop n) (drop_at xs ys (length xs) refl)

joined-from : {X : Type 0} (ps : List (List X)) (p j : ℕ) → p < length ps → j ≤ length (get_or ps p []) → drop (before ps p + j) (joined ps) ≡ drop j (get_or ps p []) ++ joined (drop (suc p) ps)
joined-from [] p j l m = grind arith
joined-from (q ∷ ps) zero j l m = let e : 0 + j ≡ j = omega arith in ap (λ k. drop k (q ++ joined ps)) e ∙ drop-append-le j q (joined ps) m
joined-from (q ∷ ps) (suc p) j l m =
    let e : length q + before ps p + j ≡ length q + (before ps p + j) = omega arith in
    ap (λ k. drop k (q ++ joined ps)) e ∙ drop-right q (joined ps) (before ps p + j) ∙ joined-from ps p j (omega arith) m

-- the items from a place on, as far as they lie in one piece
pub run_joined : {X : Type 0} (ps : List (List X)) (p j i : ℕ) (r : List X) → p < length ps → j ≤ length (get_or ps p []) → before ps p + j ≡ i → r ≡ drop j (get_or ps p [])
    → drop i (joined ps) ≡ r ++ drop (i + length r) (joined ps)
run_joined ps p j i r l m place is =
    let whole = ap (λ k. drop k (joined ps)) (sym place) ∙ joined-from ps p j l m ∙ ap (λ l. l ++ joined (drop (suc p) ps)) (sym is) in
    let after = sym (drop-drop (length r) i (joined ps)) ∙ ap (drop (length r)) whole ∙ drop_at r (joined (drop (suc p) ps)) (length r) refl in
    whole ∙ ap (λ l. r ++ l) (sym after)

-- where nothing is listed there is no piece
pub joined-none : {X : Type 0} (ps : List (List X)) → ((k : ℕ) → k < length ps → 0 < length (get_or ps k [])) → joined ps ≡ [] → ps ≡ []
joined-none [] filled none = refl
joined-none (p ∷ ps) filled none = absurd (omega (arith, filled 0 (omega arith), ap length none, length-append p (joined ps)))
