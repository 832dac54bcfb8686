-- The places of the pieces after an edit of one piece.
use Rattle.std.proofs.Common.{◌≡◌, ℕ, zero, suc, ◌+◌, ◌-◌, ◌<◌, ◌≤◌, List, [], ◌∷◌, ◌++◌, length, take, drop, get_or, set, ap, sym, subst, ◌∙◌, inl, inr, arith, length-set}
use Rattle.std.proofs.lemmas.List.{get_or_read, length-take-le, length-drop, take-append-drop}
use Rattle.std.proofs.lemmas.List.Edits.{length-insert, get_or-insert_below, get_or-insert_at, get_or-insert_above, length-remove, get_or-remove_below, get_or-remove_above}
use Rattle.std.proofs.Common.{get_or-set_same, get_or-set_other, length-append, append-nil, refl}
use Rattle.std.proofs.lemmas.Bool.{cases_lt}
use Rattle.std.specs.List.{insert, remove, slice_get}
use Rattle.up_maps.specs.Joined.{joined, before, Placed}
use Rattle.up_maps.proofs.Flats.{before-next, before-all, before-le, before-set_low, before-set_high, joined-insert, joined-remove, joined-at, joined-split, before-split_low, before-split_at, before-split_high, before-take_low, before-take_high, joined-none}

-- the place i falls into the piece p
pub located : {X : Type 0} (ps : List (List X)) (ss : List ℕ) (p i : ℕ) → Placed ps ss → p < length ss → (p + 1 < length ss → i < get_or ss (p + 1) 0) → i < length (joined ps)
    → i < get_or ss p 0 + length (get_or ps p [])
located ps ss p i placed l last m =
    let here = placed.at p (omega (arith, placed.same)) in
    let next = before-next ps p (omega (arith, placed.same)) in
    elim (cases_lt (p + 1) (length ss)) [
      | inl more ↦ omega (arith, last more, placed.at (p + 1) (omega (arith, placed.same)))
      | inr end ↦ let e : p + 1 ≡ length ps = omega (arith, placed.same) in omega (arith, before-all ps, ap (before ps) e)
    ]

pub located_end : {X : Type 0} (ps : List (List X)) (ss : List ℕ) (p i : ℕ) → Placed ps ss → p < length ss → (p + 1 < length ss → i < get_or ss (p + 1) 0) → i ≤ length (joined ps)
    → i ≤ get_or ss p 0 + length (get_or ps p [])
located_end ps ss p i placed l last m =
    let here = placed.at p (omega (arith, placed.same)) in
    let next = before-next ps p (omega (arith, placed.same)) in
    elim (cases_lt (p + 1) (length ss)) [
      | inl more ↦ omega (arith, last more, placed.at (p + 1) (omega (arith, placed.same)))
      | inr end ↦ let e : p + 1 ≡ length ps = omega (arith, placed.same) in omega (arith, before-all ps, ap (before ps) e)
    ]

pub places_small : {X : Type 0} (ps : List (List X)) (ss : List ℕ) (n k : ℕ) → Placed ps ss → length (joined ps) < n → k < length ss → get_or ss k 0 < n
places_small ps ss n k placed small l = omega (arith, placed.at k (omega (arith, placed.same)), before-le ps k)

before-positive : {X : Type 0} (ps : List (List X)) (k : ℕ) → 0 < k → k < length ps → 0 < length (get_or ps 0 []) → 0 < before ps k
before-positive [] k o l f = grind arith
before-positive (q ∷ ps) zero o l f = grind arith
before-positive (q ∷ ps) (suc k) o l f = omega (arith, f)

pub places_large : {X : Type 0} (ps : List (List X)) (ss : List ℕ) (k : ℕ) → Placed ps ss → 0 < k → k < length ss → 0 < get_or ss k 0
places_large ps ss k placed o l =
    let same = placed.same in
    omega (arith, placed.at k (omega arith), before-positive ps k o (omega arith) (placed.filled 0 (omega arith)))

-- the p-th piece, read as r, became q
pub put_joined : {X : Type 0} (ps : List (List X)) (p j : ℕ) (x : X) (q r : List X) → p < length ps → j ≤ length (get_or ps p []) → r ≡ get_or ps p r → q ≡ insert r j x
    → joined (set ps p q) ≡ insert (joined ps) (before ps p + j) x
put_joined ps p j x q r l m read is =
    let e = is ∙ ap (λ (l : List _). insert l j x) (get_or_read ps p r l read []) in
    ap (λ l. joined (set ps p l)) e ∙ joined-insert ps p j x l m

pub take_joined : {X : Type 0} (ps : List (List X)) (p j : ℕ) (q r : List X) → p < length ps → j < length (get_or ps p []) → r ≡ get_or ps p r → q ≡ remove r j
    → joined (set ps p q) ≡ remove (joined ps) (before ps p + j)
take_joined ps p j q r l m read is =
    let e = is ∙ ap (λ (l : List _). remove l j) (get_or_read ps p r l read []) in
    ap (λ l. joined (set ps p l)) e ∙ joined-remove ps p j l m

filled-set : {X : Type 0} (ps : List (List X)) (p : ℕ) (q : List X) → p < length ps → 0 < length q → ((k : ℕ) → k < length ps → 0 < length (get_or ps k [])) → (k : ℕ) → k < length (set ps p q) → 0 < length (get_or (set ps p q) k [])
filled-set [] p q l o f k m = grind arith
filled-set (r ∷ ps) zero q l o f zero m = o
filled-set (r ∷ ps) zero q l o f (suc k) m = f (suc k) m
filled-set (r ∷ ps) (suc p) q l o f zero m = f 0 (omega arith)
filled-set (r ∷ ps) (suc p) q l o f (suc k) m = filled-set ps p q (omega arith) o (λ n b. f (suc n) (omega arith)) k (omega arith)

pub placed_raised : {X : Type 0} (ps : List (List X)) (ss ts : List ℕ) (p : ℕ) (q : List X) → Placed ps ss → p < length ps → length q ≡ length (get_or ps p []) + 1 → length ts ≡ length ss
    → ((k : ℕ) → k < p + 1 → get_or ts k 0 ≡ get_or ss k 0) → ((k : ℕ) → p + 1 ≤ k → k < length ss → get_or ts k 0 ≡ get_or ss k 0 + 1) → Placed (set ps p q) ts
placed_raised ps ss ts p q placed l long size low high =
    let n = length-set ps p q in
    let same = placed.same in
    record {
      same = omega arith;
      at = λ k b. elim (cases_lt k (p + 1)) [
        | inl below ↦ low k below ∙ placed.at k (omega arith) ∙ sym (before-set_low ps p k q (omega arith))
        | inr above ↦ omega (arith, high k above (omega arith), placed.at k (omega arith), before-set_high ps p k q (omega arith) l)
      ];
      filled = filled-set ps p q l (omega arith) placed.filled;
    }

pub placed_lowered : {X : Type 0} (ps : List (List X)) (ss ts : List ℕ) (p : ℕ) (q : List X) → Placed ps ss → p < length ps → length q + 1 ≡ length (get_or ps p []) → 0 < length q → length ts ≡ length ss
    → ((k : ℕ) → k < p + 1 → get_or ts k 0 ≡ get_or ss k 0) → ((k : ℕ) → p + 1 ≤ k → k < length ss → get_or ts k 0 + 1 ≡ get_or ss k 0) → Placed (set ps p q) ts
placed_lowered ps ss ts p q placed l long some size low high =
    let n = length-set ps p q in
    let same = placed.same in
    record {
      same = omega arith;
      at = λ k b. elim (cases_lt k (p + 1)) [
        | inl below ↦ low k below ∙ placed.at k (omega arith) ∙ sym (before-set_low ps p k q (omega arith))
        | inr above ↦ omega (arith, high k above (omega arith), placed.at k (omega arith), before-set_high ps p k q (omega arith) l)
      ];
      filled = filled-set ps p q l some placed.filled;
    }

-- the piece p, read as r, cut in two
pub record Cut {X : Type 0} (ps ns : List (List X)) (p : ℕ) (front back : List X) : Type 0 where
  pub within : p < length ps
  pub whole : front ++ back ≡ get_or ps p []
  pub some : 0 < length front
  pub rest : 0 < length back
  pub is : ns ≡ insert (set ps p front) (suc p) back

pub cut_made : {X : Type 0} (ps ns : List (List X)) (p : ℕ) (front back r : List X) → p < length ps → 256 < length (get_or ps p []) → r ≡ get_or ps p r → front ≡ take 256 r → back ≡ drop 256 r
    → ns ≡ insert (set ps p front) (p + 1) back → Cut ps ns p front back
cut_made ps ns p front back r l long read first second is =
    let e : r ≡ get_or ps p [] = get_or_read ps p r l read [] in
    let n : length r ≡ length (get_or ps p []) = ap length e in
    let s : p + 1 ≡ suc p = omega arith in
    record {
      within = l;
      whole = ap (λ l. l ++ back) first ∙ ap (λ l. take 256 r ++ l) second ∙ take-append-drop 256 r ∙ e;
      some = omega (arith, ap length first, length-take-le 256 r (omega arith));
      rest = omega (arith, ap length second, length-drop 256 r);
      is = is ∙ ap (λ k. insert (set ps p front) k back) s;
    }

pub cut_joined : {X : Type 0} (ps ns : List (List X)) (p : ℕ) (front back : List X) → Cut ps ns p front back → joined ns ≡ joined ps
cut_joined ps ns p front back cut = ap joined cut.is ∙ joined-split ps p front back cut.within cut.whole

pub cut_low : {X : Type 0} (ps ns : List (List X)) (p k : ℕ) (front back : List X) → Cut ps ns p front back → k ≤ p → before ns k ≡ before ps k
cut_low ps ns p k front back cut l = ap (λ l. before l k) cut.is ∙ before-split_low ps p k front back cut.within l

pub cut_at : {X : Type 0} (ps ns : List (List X)) (p : ℕ) (front back : List X) → Cut ps ns p front back → before ns (p + 1) ≡ before ps p + length front
cut_at ps ns p front back cut =
    let s : p + 1 ≡ suc p = omega arith in
    ap (before ns) s ∙ ap (λ l. before l (suc p)) cut.is ∙ before-split_at ps p front back cut.within

cut_high : {X : Type 0} (ps ns : List (List X)) (p k : ℕ) (front back : List X) → Cut ps ns p front back → p < k → before ns (suc k) ≡ before ps k
cut_high ps ns p k front back cut l = ap (λ l. before l (suc k)) cut.is ∙ before-split_high ps p k front back cut.within cut.whole l

filled-insert : {X : Type 0} (ps : List (List X)) (p : ℕ) (q : List X) → p ≤ length ps → 0 < length q → ((k : ℕ) → k < length ps → 0 < length (get_or ps k [])) → (k : ℕ) → k < length (insert ps p q) → 0 < length (get_or (insert ps p q) k [])
filled-insert ps zero q l o f zero m = o
filled-insert ps zero q l o f (suc k) m = f k (omega arith)
filled-insert [] (suc p) q l o f k m = grind arith
filled-insert (r ∷ ps) (suc p) q l o f zero m = f 0 (omega arith)
filled-insert (r ∷ ps) (suc p) q l o f (suc k) m = filled-insert ps p q (omega arith) o (λ n b. f (suc n) (omega arith)) k (omega arith)

pub placed_cut : {X : Type 0} (ps ns : List (List X)) (ss ts : List ℕ) (p start : ℕ) (front back : List X) → Placed ps ss → Cut ps ns p front back → start ≡ get_or ss p 0 + length front → ts ≡ insert ss (p + 1) start
    → Placed ns ts
placed_cut {X} ps ns ss ts p start front back placed cut begins is =
    let same = placed.same in
    let n1 = length-set ps p front in
    let n2 = length-insert (set ps p front) (suc p) back (omega (arith, cut.within)) in
    let n3 = ap length cut.is in
    let n4 = length-insert ss (p + 1) start (omega (arith, cut.within)) in
    let n5 = ap length is in
    record {
      same = omega arith;
      at = λ k b. elim (cases_lt k (p + 1)) [
        | inl below ↦ ap (λ l. get_or l k 0) is ∙ get_or-insert_below ss (p + 1) start 0 k below (omega (arith, cut.within)) ∙ placed.at k (omega (arith, cut.within)) ∙ sym (cut_low ps ns p k front back cut (omega arith))
        | inr above ↦ elim (cases_lt (p + 1) k) [
          | inl over ↦
              let e : k ≡ k - 1 + 1 = omega arith in
              let f : k ≡ suc (k - 1) = omega arith in
              ap (λ l. get_or l k 0) is ∙ ap (λ j. get_or (insert ss (p + 1) start) j 0) e ∙ get_or-insert_above ss (p + 1) start 0 (k - 1) (omega arith) (omega (arith, cut.within))
              ∙ placed.at (k - 1) (omega arith) ∙ sym (ap (before ns) f ∙ cut_high ps ns p (k - 1) front back cut (omega arith))
          | inr under ↦
              let e : k ≡ p + 1 = omega arith in
              ap (λ l. get_or l k 0) is ∙ ap (λ j. get_or (insert ss (p + 1) start) j 0) e ∙ get_or-insert_at ss (p + 1) start 0 (omega (arith, cut.within))
              ∙ begins ∙ ap (λ j. j + length front) (placed.at p cut.within) ∙ sym (ap (before ns) e ∙ cut_at ps ns p front back cut)
        ]
      ];
      filled = λ k b. subst (λ (l : List (List X)). k < length l → 0 < length (get_or l k [])) (sym cut.is) (filled-insert (set ps p front) (suc p) back (omega (arith, cut.within)) cut.rest (filled-set ps p front cut.within cut.some placed.filled) k) b;
    }

-- the piece p of one item, taken away
filled-remove : {X : Type 0} (ps : List (List X)) (p : ℕ) → p < length ps → ((k : ℕ) → k < length ps → 0 < length (get_or ps k [])) → (k : ℕ) → k < length (remove ps p) → 0 < length (get_or (remove ps p) k [])
filled-remove [] p l f k m = grind arith
filled-remove (r ∷ ps) zero l f k m = f (suc k) (omega arith)
filled-remove (r ∷ ps) (suc p) l f zero m = f 0 (omega arith)
filled-remove (r ∷ ps) (suc p) l f (suc k) m = filled-remove ps p (omega arith) (λ n b. f (suc n) (omega arith)) k (omega arith)

pub placed_taken : {X : Type 0} (ps : List (List X)) (ss ms ts : List ℕ) (p : ℕ) → Placed ps ss → p < length ps → length (get_or ps p []) ≡ 1 → ms ≡ remove ss p → length ts ≡ length ms
    → ((k : ℕ) → k < p → get_or ts k 0 ≡ get_or ms k 0) → ((k : ℕ) → p ≤ k → k < length ms → get_or ts k 0 + 1 ≡ get_or ms k 0) → Placed (remove ps p) ts
placed_taken ps ss ms ts p placed l one is size low high =
    let same = placed.same in
    let n1 = length-remove ps p l in
    let n2 = length-remove ss p (omega arith) in
    let n3 = ap length is in
    record {
      same = omega arith;
      at = λ k b. elim (cases_lt k p) [
        | inl below ↦ low k below ∙ ap (λ l. get_or l k 0) is ∙ get_or-remove_below ss p 0 k below (omega arith) ∙ placed.at k (omega arith) ∙ sym (before-take_low ps p k (omega arith))
        | inr above ↦
            let e : k + 1 ≡ suc k = omega arith in
            let h = high k above (omega arith) in
            let g : get_or ms k 0 ≡ get_or ss (k + 1) 0 = ap (λ l. get_or l k 0) is ∙ get_or-remove_above ss p 0 k above (omega arith) in
            omega (arith, h, g, placed.at (k + 1) (omega arith), ap (before ps) e, before-take_high ps p k l one above)
      ];
      filled = filled-remove ps p l placed.filled;
    }

pub places_large_after : {X : Type 0} (ps : List (List X)) (ss ms : List ℕ) (p k : ℕ) → Placed ps ss → p < length ps → ms ≡ remove ss p → p ≤ k → k < length ms → 0 < get_or ms k 0
places_large_after ps ss ms p k placed l is above m =
    let same = placed.same in
    let n2 = length-remove ss p (omega arith) in
    let n3 = ap length is in
    let g : get_or ms k 0 ≡ get_or ss (k + 1) 0 = ap (λ l. get_or l k 0) is ∙ get_or-remove_above ss p 0 k above (omega arith) in
    omega (arith, g, places_large ps ss (k + 1) placed (omega arith) (omega arith))

-- the piece p and the next, joined
join_undone : {X : Type 0} (ps : List (List X)) (p : ℕ) (q : List X) → suc p < length ps → insert (set (set (remove ps (suc p)) p q) p (get_or ps p [])) (suc p) (get_or ps (suc p) []) ≡ ps
join_undone [] p q l = absurd (omega arith)
join_undone (f ∷ []) zero q l = absurd (omega arith)
join_undone (f ∷ (b ∷ ps)) zero q l = refl
join_undone (r ∷ ps) (suc p) q l = ap (λ rest. r ∷ rest) (join_undone ps p q (omega arith))

-- the joined piece, cut in two, gives the pieces of before
pub join_made : {X : Type 0} (ps ms ns : List (List X)) (p : ℕ) (front back q : List X) → (ss : List ℕ) → Placed ps ss → p + 1 < length ps → ms ≡ remove ps (p + 1) → front ≡ get_or ms p front
    → back ≡ get_or ps (p + 1) back → q ≡ front ++ back → ns ≡ set ms p q → Cut ns ps p front back
join_made ps ms ns p front back q ss placed l taken first second both is =
    let s : p + 1 ≡ suc p = omega arith in
    let n1 = length-remove ps (p + 1) l in
    let n2 = ap length taken in
    let n3 = length-set ms p q in
    let n4 = ap length is in
    let front_is : front ≡ get_or ps p [] = get_or_read ms p front (omega arith) first [] ∙ ap (λ l. get_or l p []) taken ∙ get_or-remove_below ps (p + 1) [] p (omega arith) l in
    let back_is : back ≡ get_or ps (suc p) [] = get_or_read ps (p + 1) back l second [] ∙ ap (λ k. get_or ps k []) s in
    let made : ns ≡ set (remove ps (suc p)) p q = is ∙ ap (λ l. set l p q) (taken ∙ ap (remove ps) s) in
    record {
      within = omega arith;
      whole = sym both ∙ sym (get_or-set_same ms p q [] (omega arith)) ∙ ap (λ l. get_or l p []) (sym is);
      some = omega (arith, ap length front_is, placed.filled p (omega arith));
      rest = omega (arith, ap length back_is, ap (λ k. length (get_or ps k [])) s, placed.filled (p + 1) l);
      is = sym (ap (λ l. insert (set l p front) (suc p) back) made ∙ ap (λ f. insert (set (set (remove ps (suc p)) p q) p f) (suc p) back) front_is
          ∙ ap (insert (set (set (remove ps (suc p)) p q) p (get_or ps p [])) (suc p)) back_is ∙ join_undone ps p q (omega arith));
    }

filled-joined : {X : Type 0} (ns ps : List (List X)) (p : ℕ) (front back : List X) → Cut ns ps p front back → ((k : ℕ) → k < length ps → 0 < length (get_or ps k [])) → (k : ℕ) → k < length ns → 0 < length (get_or ns k [])
filled-joined {X} ns ps p front back cut filled k l =
    let n1 = length-set ns p front in
    let n2 = length-insert (set ns p front) (suc p) back (omega (arith, cut.within)) in
    let n3 = ap length cut.is in
    let at_p : length (get_or ns p []) ≡ length (front ++ back) = ap length (sym cut.whole) in
    elim (cases_lt k p) [
      | inl below ↦
          let differs : k ≡ p → ⊥ = λ e. omega arith in
          let same : get_or ps k [] ≡ get_or ns k [] = ap (λ l. get_or l k []) cut.is ∙ get_or-insert_below (set ns p front) (suc p) back [] k (omega arith) (omega (arith, cut.within)) ∙ get_or-set_other ns p k front [] differs in
          omega (arith, ap length same, filled k (omega arith))
      | inr above ↦ elim (cases_lt p k) [
        | inl over ↦
            let differs : k ≡ p → ⊥ = λ e. omega arith in
            let same : get_or ps (k + 1) [] ≡ get_or ns k [] = ap (λ l. get_or l (k + 1) []) cut.is ∙ get_or-insert_above (set ns p front) (suc p) back [] k (omega arith) (omega (arith, cut.within)) ∙ get_or-set_other ns p k front [] differs in
            omega (arith, ap length same, filled (k + 1) (omega arith))
        | inr under ↦
            let e : k ≡ p = omega arith in
            omega (arith, ap (λ j. length (get_or ns j [])) e, at_p, length-append front back, cut.some)
      ]
    ]

-- the places after that
pub placed_joined : {X : Type 0} (ps ns : List (List X)) (ss ts : List ℕ) (p : ℕ) (front back : List X) → Placed ps ss → Cut ns ps p front back → ts ≡ remove ss (p + 1) → Placed ns ts
placed_joined {X} ps ns ss ts p front back placed cut is =
    let same = placed.same in
    let n1 = length-set ns p front in
    let n2 = length-insert (set ns p front) (suc p) back (omega (arith, cut.within)) in
    let n3 = ap length cut.is in
    let n4 = length-remove ss (p + 1) (omega (arith, cut.within)) in
    let n5 = ap length is in
    record {
      same = omega arith;
      at = λ k b. elim (cases_lt k (p + 1)) [
        | inl below ↦ ap (λ l. get_or l k 0) is ∙ get_or-remove_below ss (p + 1) 0 k below (omega (arith, cut.within)) ∙ placed.at k (omega arith) ∙ cut_low ns ps p k front back cut (omega arith)
        | inr above ↦
            let e : k + 1 ≡ suc k = omega arith in
            ap (λ l. get_or l k 0) is ∙ get_or-remove_above ss (p + 1) 0 k above (omega (arith, cut.within)) ∙ placed.at (k + 1) (omega arith) ∙ ap (before ps) e ∙ cut_high ns ps p k front back cut (omega arith)
      ];
      filled = filled-joined ns ps p front back cut placed.filled;
    }

-- the first piece, where there was none
pub record Started {X : Type 0} (pieces : List (List X)) (starts : List ℕ) (items : List X) : Type 0 where
  pub placed : Placed pieces starts
  pub listed : joined pieces ≡ items

one_at : {X : Type 0} (q : List X) (k : ℕ) → k < 1 → get_or (0 ∷ []) k 0 ≡ before (q ∷ []) k
one_at q zero l = refl
one_at q (suc k) l = absurd (omega arith)

one_filled : {X : Type 0} (q : List X) → 0 < length q → (k : ℕ) → k < 1 → 0 < length (get_or (q ∷ []) k [])
one_filled q some zero l = some
one_filled q some (suc k) l = absurd (omega arith)

pub started : {X : Type 0} (ps ns : List (List X)) (ss ts : List ℕ) (q items : List X) → Placed ps ss → joined ps ≡ [] → ns ≡ ps ++ q ∷ [] → ts ≡ ss ++ 0 ∷ [] → q ≡ items → 0 < length items → Started ns ts items
started {X} ps ns ss ts q items placed none pieces places is some =
    let no_piece : ps ≡ [] = joined-none ps placed.filled none in
    let no_place : ss ≡ [] = no_items ss (omega (arith, placed.same, ap length no_piece)) in
    let one : ns ≡ q ∷ [] = pieces ∙ ap (λ l. l ++ q ∷ []) no_piece in
    let first : ts ≡ 0 ∷ [] = places ∙ ap (λ l. l ++ 0 ∷ []) no_place in
    record {
      placed = subst (λ l. Placed l ts) (sym one) (subst (λ l. Placed (q ∷ []) l) (sym first) (record { same = refl; at = one_at q; filled = one_filled q (omega (arith, ap length is)) }));
      listed = ap joined one ∙ append-nil q ∙ is;
    }
  where
    no_items : (l : List ℕ) → length l ≡ 0 → l ≡ []
    no_items [] e = refl
    no_items (x ∷ l) e = absurd (omega arith)

-- the item at a place, read in its piece
pub get_joined : {X : Type 0} (ps : List (List X)) (p j i : ℕ) (r : List X) → p < length ps → j < length (get_or ps p []) → before ps p + j ≡ i → r ≡ get_or ps p [] → slice_get r j ≡ slice_get (joined ps) i
get_joined ps p j i r l m place read = ap (λ l. slice_get l j) read ∙ sym (joined-at ps p j l m) ∙ ap (slice_get (joined ps)) place
