-- Paths that rise.
use Rattle.std.proofs.Common.{◌≡◌, ℕ, zero, suc, ◌<◌, Bool, true, false, not, cond, ◌&&◌, ◌||◌, List, [], ◌∷◌, refl, sym, ap, subst, ◌∙◌, arith, Some}
use Rattle.std.specs.Prelude.{slice_get}
use Rattle.std.specs.FinMap.Entries as entries
use Rattle.std.specs.FinMap.Entries.{by_order}
use Rattle.std.specs.List.{filter, insert, list_all, remove}
use Rattle.std.specs.Map.{keys_of}
use Rattle.std.specs.Ordering.{is_lt, ordering_reverse}
use Rattle.std.specs.declared.cmp.Ordering.{Ordering}
use Rattle.std.specs.declared.cmp.Ordering.TheVariants.{Less, Equal, Greater}
use Rattle.std.proofs.lemmas.Bool.{and_parts, and_from, false≢true}
use Rattle.up_names.specs.PathNames.{PathName}
use Rattle.up_names.specs.PathOrder.{path_eq, path_cmp}
use Rattle.up_names.specs.PathOrderLaws.{path_cmp_total, path_exact}
use Rattle.up_log_tree.specs.Orders.{IsPlaceOf, are_rising, has_path as has, with_path}
use Rattle.up_log_tree.proofs.Paths.{path_apart, path_eq_itself, path_other, path_same, some_none, some_same}

-- whether all of these are above a path
abbrev pub above : PathName → List PathName → Bool
above path paths = list_all (λ later. is_lt (path_cmp path later)) paths

less_of : (o : Ordering) → is_lt o ≡ true → o ≡ Less
less_of Less h = refl
less_of Equal h = absurd (false≢true h)
less_of Greater h = absurd (false≢true h)

pub below_below : (p q r : PathName) → is_lt (path_cmp p q) ≡ true → is_lt (path_cmp q r) ≡ true → is_lt (path_cmp p r) ≡ true
below_below p q r a b = ap is_lt (path_cmp_total.trans p q r (less_of (path_cmp p q) a) (less_of (path_cmp q r) b))

pub greater_below : (p q : PathName) → path_cmp p q ≡ Greater → is_lt (path_cmp q p) ≡ true
greater_below p q is = ap is_lt (path_cmp_total.antisymm q p ∙ ap ordering_reverse is)

-- p below q, and not the other way round
pub not_both_below : (p q : PathName) → is_lt (path_cmp p q) ≡ true → is_lt (path_cmp q p) ≡ false
not_both_below p q a = ap is_lt (path_cmp_total.antisymm q p ∙ ap ordering_reverse (less_of (path_cmp p q) a))

pub not_below_itself : (p : PathName) → is_lt (path_cmp p p) ≡ false
not_below_itself p = go (is_lt (path_cmp p p)) refl
  where
    go : (b : Bool) → is_lt (path_cmp p p) ≡ b → is_lt (path_cmp p p) ≡ false
    go true is = not_both_below p p is
    go false is = is

pub below_apart : (p q : PathName) → is_lt (path_cmp p q) ≡ true → path_eq p q ≡ false
below_apart p q lt = path_apart p q (λ same. false≢true (sym (not_below_itself q) ∙ subst (λ r. is_lt (path_cmp r q) ≡ true) same lt))

above_more : (p q : PathName) (paths : List PathName) → is_lt (path_cmp p q) ≡ true → above q paths ≡ true → above p paths ≡ true
above_more p q [] lt h = refl
above_more p q (path ∷ paths) lt h =
    let both = and_parts (is_lt (path_cmp q path)) (above q paths) h in
    and_from (is_lt (path_cmp p path)) (above p paths) (below_below p q path lt both.0) (above_more p q paths lt both.1)

pub head_above : (path : PathName) (paths : List PathName) → are_rising (path ∷ paths) ≡ true → above path paths ≡ true
head_above path paths h = (and_parts (above path paths) (are_rising paths) h).0

pub tail_rising : (path : PathName) (paths : List PathName) → are_rising (path ∷ paths) ≡ true → are_rising paths ≡ true
tail_rising path paths h = (and_parts (above path paths) (are_rising paths) h).1

above_at : (p q : PathName) (paths : List PathName) (n : ℕ) → above p paths ≡ true → slice_get paths n ≡ Some q → is_lt (path_cmp p q) ≡ true
above_at p q [] n h is = absurd (some_none q (sym is))
above_at p q (path ∷ paths) zero h is = subst (λ r. is_lt (path_cmp p r) ≡ true) (some_same path q is) (and_parts (is_lt (path_cmp p path)) (above p paths) h).0
above_at p q (path ∷ paths) (suc n) h is = above_at p q paths n (and_parts (is_lt (path_cmp p path)) (above p paths) h).1 is

-- an earlier path is below a later one
pub earlier_below : (paths : List PathName) (i j : ℕ) (p q : PathName) → are_rising paths ≡ true → i < j → slice_get paths i ≡ Some p → slice_get paths j ≡ Some q → is_lt (path_cmp p q) ≡ true
earlier_below [] i j p q h lt a b = absurd (some_none p (sym a))
earlier_below (path ∷ paths) i zero p q h lt a b = absurd (omega (arith, lt))
earlier_below (path ∷ paths) zero (suc j) p q h lt a b = subst (λ r. is_lt (path_cmp r q) ≡ true) (some_same path p a) (above_at path q paths j (head_above path paths h) b)
earlier_below (path ∷ paths) (suc i) (suc j) p q h lt a b = earlier_below paths i j p q (tail_rising path paths h) (omega (arith, lt)) a b

-- ---- membership

-- what is not above a path is none of those above it
none_above : (p : PathName) (paths : List PathName) → above p paths ≡ true → has paths p ≡ false
none_above p [] h = refl
none_above p (path ∷ paths) h =
    let both = and_parts (is_lt (path_cmp p path)) (above p paths) h in
    ap (λ b. b || has paths p) (below_apart p path both.0) ∙ none_above p paths both.1

pub has_at : (paths : List PathName) (n : ℕ) (path : PathName) → slice_get paths n ≡ Some path → has paths path ≡ true
has_at [] n path is = absurd (some_none path (sym is))
has_at (first ∷ paths) zero path is = ap (λ b. b || has paths path) (subst (λ q. path_eq path q ≡ true) (sym (some_same first path is)) (path_eq_itself path))
has_at (first ∷ paths) (suc n) path is = ap (λ b. path_eq path first || b) (has_at paths n path is) ∙ or_true (path_eq path first)
  where
    or_true : (b : Bool) → (b || true) ≡ true
    or_true true = refl
    or_true false = refl

pub place_of : (paths : List PathName) (path : PathName) → has paths path ≡ true → (n : ℕ) × (slice_get paths n ≡ Some path)
place_of [] path h = absurd (false≢true h)
place_of (first ∷ paths) path h = go (path_eq path first) refl h (place_of paths path)
  where
    go : (b : Bool) → path_eq path first ≡ b → (b || has paths path) ≡ true → (has paths path ≡ true → (n : ℕ) × (slice_get paths n ≡ Some path)) → (n : ℕ) × (slice_get (first ∷ paths) n ≡ Some path)
    go true is h rest = (0, ap Some (sym (path_same path first is)))
    go false is h rest = let at = rest h in (suc at.0, at.1)

pub has-filter : (test : PathName → Bool) (paths : List PathName) (q : PathName) → has (filter test paths) q ≡ (test q && has paths q)
has-filter test [] q = sym (and_false (test q))
  where
    and_false : (b : Bool) → (b && false) ≡ false
    and_false true = refl
    and_false false = refl
has-filter test (path ∷ paths) q = go (path_eq q path) refl (test path) refl (has-filter test paths q)
  where
    or_under : (b c : Bool) → (b || c) ≡ (b || c)
    or_under b c = refl

    go : (e : Bool) → path_eq q path ≡ e → (t : Bool) → test path ≡ t → has (filter test paths) q ≡ (test q && has paths q)
        → has (cond t (path ∷ filter test paths) (filter test paths)) q ≡ (test q && (e || has paths q))
    go true is true passes rest = ap (λ b. b || has (filter test paths) q) is ∙ sym (ap (λ b. b && true) (ap test (path_same q path is) ∙ passes))
    go true is false passes rest = rest ∙ ap (λ b. b && has paths q) (ap test (path_same q path is) ∙ passes) ∙ sym (ap (λ b. b && true) (ap test (path_same q path is) ∙ passes))
    go false is true passes rest = ap (λ b. b || has (filter test paths) q) is ∙ rest
    go false is false passes rest = rest

pub has-with : (k : PathName) (paths : List PathName) (q : PathName) → has (with_path k paths) q ≡ (path_eq q k || has paths q)
has-with k [] q = refl
has-with k (path ∷ paths) q = go (path_cmp k path) refl (has-with k paths q)
  where
    again : (a b c : Bool) → (a ≡ b) → (a || c) ≡ (b || (a || c))
    again true b c same = ap (λ x. x || true) same
    again false true c same = absurd (false≢true same)
    again false false c same = refl

    swapped : (a b c : Bool) → (a || (b || c)) ≡ (b || (a || c))
    swapped true true c = refl
    swapped true false c = refl
    swapped false b c = refl

    go : (o : Ordering) → path_cmp k path ≡ o → has (with_path k paths) q ≡ (path_eq q k || has paths q)
        → has (by_order o (k ∷ path ∷ paths) (path ∷ paths) (path ∷ with_path k paths)) q ≡ (path_eq q k || (path_eq q path || has paths q))
    go Less is rest = refl
    go Equal is rest = again (path_eq q path) (path_eq q k) (has paths q) (ap (path_eq q) (sym (path_exact k path is)))
    go Greater is rest = ap (λ b. path_eq q path || b) rest ∙ swapped (path_eq q path) (path_eq q k) (has paths q)

-- ---- paths that rise are one list where they are the same paths

tail_has : (path : PathName) (xs ys : List PathName) → above path xs ≡ true → above path ys ≡ true → ((q : PathName) → has (path ∷ xs) q ≡ has (path ∷ ys) q) → (q : PathName) → has xs q ≡ has ys q
tail_has path xs ys a b same q = go (path_eq q path) refl
  where
    go : (e : Bool) → path_eq q path ≡ e → has xs q ≡ has ys q
    go true is = let at : q ≡ path = path_same q path is in subst (λ r. has xs r ≡ has ys r) (sym at) (none_above path xs a ∙ sym (none_above path ys b))
    go false is = sym (ap (λ c. c || has xs q) is) ∙ same q ∙ ap (λ c. c || has ys q) is

first_missing : (x y : PathName) (xs ys : List PathName) → is_lt (path_cmp x y) ≡ true → are_rising (y ∷ ys) ≡ true → has (x ∷ xs) x ≡ has (y ∷ ys) x → ⊥
first_missing x y xs ys lt h same =
    false≢true (sym (none_above x (y ∷ ys) (and_from (is_lt (path_cmp x y)) (above x ys) lt (above_more x y ys lt (head_above y ys h)))) ∙ sym same ∙ ap (λ b. b || has xs x) (path_eq_itself x))

pub one_list : (xs ys : List PathName) → are_rising xs ≡ true → are_rising ys ≡ true → ((q : PathName) → has xs q ≡ has ys q) → xs ≡ ys
one_list [] [] a b same = refl
one_list [] (y ∷ ys) a b same = absurd (false≢true (same y ∙ ap (λ c. c || has ys y) (path_eq_itself y)))
one_list (x ∷ xs) [] a b same = absurd (false≢true (sym (same x) ∙ ap (λ c. c || has xs x) (path_eq_itself x)))
one_list (x ∷ xs) (y ∷ ys) a b same = go (path_cmp x y) refl (one_list xs ys)
  where
    go : (o : Ordering) → path_cmp x y ≡ o → (are_rising xs ≡ true → are_rising ys ≡ true → ((q : PathName) → has xs q ≡ has ys q) → xs ≡ ys) → x ∷ xs ≡ y ∷ ys
    go Less is rest = absurd (first_missing x y xs ys (ap is_lt is) b (same x))
    go Greater is rest = absurd (first_missing y x ys xs (greater_below x y is) a (sym (same y)))
    go Equal is rest =
        let heads : x ≡ y = path_exact x y is in
        let tails : xs ≡ ys = rest (tail_rising x xs a) (tail_rising y ys b)
        (tail_has y xs ys (subst (λ p. above p xs ≡ true) heads (head_above x xs a)) (head_above y ys b) (λ q. ap (λ p. has (p ∷ xs) q) (sym heads) ∙ same q)) in
        ap (λ p. p ∷ xs) heads ∙ ap (λ ps. y ∷ ps) tails

-- ---- with one more, and through a filter

above_with : (p k : PathName) (paths : List PathName) → is_lt (path_cmp p k) ≡ true → above p paths ≡ true → above p (with_path k paths) ≡ true
above_with p k [] lt h = and_from (is_lt (path_cmp p k)) true lt refl
above_with p k (path ∷ paths) lt h = go (path_cmp k path) (above_with p k paths lt (and_parts (is_lt (path_cmp p path)) (above p paths) h).1)
  where
    go : (o : Ordering) → above p (with_path k paths) ≡ true → above p (by_order o (k ∷ path ∷ paths) (path ∷ paths) (path ∷ with_path k paths)) ≡ true
    go Less rest = and_from (is_lt (path_cmp p k)) (above p (path ∷ paths)) lt h
    go Equal rest = h
    go Greater rest = and_from (is_lt (path_cmp p path)) (above p (with_path k paths)) (and_parts (is_lt (path_cmp p path)) (above p paths) h).0 rest

pub rising-with : (k : PathName) (paths : List PathName) → are_rising paths ≡ true → are_rising (with_path k paths) ≡ true
rising-with k [] h = refl
rising-with k (path ∷ paths) h = go (path_cmp k path) refl (rising-with k paths (tail_rising path paths h))
  where
    go : (o : Ordering) → path_cmp k path ≡ o → are_rising (with_path k paths) ≡ true → are_rising (by_order o (k ∷ path ∷ paths) (path ∷ paths) (path ∷ with_path k paths)) ≡ true
    go Less is rest =
        let lt : is_lt (path_cmp k path) ≡ true = ap is_lt is in
        and_from (above k (path ∷ paths)) (are_rising (path ∷ paths)) (and_from (is_lt (path_cmp k path)) (above k paths) lt (above_more k path paths lt (head_above path paths h))) h
    go Equal is rest = h
    go Greater is rest = and_from (above path (with_path k paths)) (are_rising (with_path k paths)) (above_with path k paths (greater_below k path is) (head_above path paths h)) rest

above-filter : (p : PathName) (test : PathName → Bool) (paths : List PathName) → above p paths ≡ true → above p (filter test paths) ≡ true
above-filter p test [] h = refl
above-filter p test (path ∷ paths) h = go (test path) (above-filter p test paths (and_parts (is_lt (path_cmp p path)) (above p paths) h).1)
  where
    go : (b : Bool) → above p (filter test paths) ≡ true → above p (cond b (path ∷ filter test paths) (filter test paths)) ≡ true
    go true rest = and_from (is_lt (path_cmp p path)) (above p (filter test paths)) (and_parts (is_lt (path_cmp p path)) (above p paths) h).0 rest
    go false rest = rest

pub rising-filter : (test : PathName → Bool) (paths : List PathName) → are_rising paths ≡ true → are_rising (filter test paths) ≡ true
rising-filter test [] h = refl
rising-filter test (path ∷ paths) h = go (test path) (rising-filter test paths (tail_rising path paths h))
  where
    go : (b : Bool) → are_rising (filter test paths) ≡ true → are_rising (cond b (path ∷ filter test paths) (filter test paths)) ≡ true
    go true rest = and_from (above path (filter test paths)) (are_rising (filter test paths)) (above-filter path test paths (head_above path paths h)) rest
    go false rest = rest

-- a filter lets the new path through, or leaves all as it was
pub filter-with : (test : PathName → Bool) (k : PathName) (paths : List PathName) → are_rising paths ≡ true → filter test (with_path k paths) ≡ cond (test k) (with_path k (filter test paths)) (filter test paths)
filter-with test k paths h = go (test k) refl
  where
    through : (a e b : Bool) → (e ≡ true → a ≡ true) → (a && (e || b)) ≡ (e || (a && b))
    through a true b f = ap (λ x. x && true) (f refl)
    through true false b f = refl
    through false false b f = refl

    not_through : (a e b : Bool) → (e ≡ true → a ≡ false) → (a && (e || b)) ≡ (a && b)
    not_through a true b f = ap (λ x. x && true) (f refl) ∙ sym (ap (λ x. x && b) (f refl))
    not_through a false b f = refl

    go : (t : Bool) → test k ≡ t → filter test (with_path k paths) ≡ cond t (with_path k (filter test paths)) (filter test paths)
    go true is = one_list (filter test (with_path k paths)) (with_path k (filter test paths)) (rising-filter test (with_path k paths) (rising-with k paths h)) (rising-with k (filter test paths) (rising-filter test paths h))
        (λ q. has-filter test (with_path k paths) q ∙ ap (λ b. test q && b) (has-with k paths q)
        ∙ through (test q) (path_eq q k) (has paths q) (λ same. ap test (path_same q k same) ∙ is)
        ∙ sym (has-with k (filter test paths) q ∙ ap (λ b. path_eq q k || b) (has-filter test paths q)))
    go false is = one_list (filter test (with_path k paths)) (filter test paths) (rising-filter test (with_path k paths) (rising-with k paths h)) (rising-filter test paths h)
        (λ q. has-filter test (with_path k paths) q ∙ ap (λ b. test q && b) (has-with k paths q)
        ∙ not_through (test q) (path_eq q k) (has paths q) (λ same. ap test (path_same q k same) ∙ is)
        ∙ sym (has-filter test paths q))

-- a path that is there is not added again
pub with_there : (k : PathName) (paths : List PathName) → are_rising paths ≡ true → has paths k ≡ true → with_path k paths ≡ paths
with_there k paths h there = one_list (with_path k paths) paths (rising-with k paths h) h (λ q. has-with k paths q ∙ go q (path_eq q k) refl)
  where
    go : (q : PathName) (e : Bool) → path_eq q k ≡ e → (e || has paths q) ≡ has paths q
    go q true is = sym (ap (has paths) (path_same q k is) ∙ there)
    go q false is = refl

-- ---- at its place

-- a new path is inserted at its place
pub with_inserted : (k : PathName) (paths : List PathName) (n : ℕ) → are_rising paths ≡ true → IsPlaceOf k paths n → (slice_get paths n ≡ Some k → ⊥) → with_path k paths ≡ insert paths n k
with_inserted k [] zero h place new = refl
with_inserted k [] (suc n) h place new = absurd (omega (arith, place.bound))
with_inserted k (path ∷ paths) zero h place new = go (path_cmp k path) refl
  where
    go : (o : Ordering) → path_cmp k path ≡ o → by_order o (k ∷ path ∷ paths) (path ∷ paths) (path ∷ with_path k paths) ≡ k ∷ path ∷ paths
    go Less is = refl
    go Equal is = absurd (new (ap Some (sym (path_exact k path is))))
    go Greater is = absurd (false≢true (sym (place.from 0 path (omega arith) refl) ∙ greater_below k path is))
with_inserted k (path ∷ paths) (suc n) h place new =
    let first : is_lt (path_cmp path k) ≡ true = place.before 0 path (omega arith) refl in
    let rest : IsPlaceOf k paths n = record {
      bound = omega (arith, place.bound);
      before = λ m other lt is. place.before (suc m) other (omega (arith, lt)) is;
      from = λ m other le is. place.from (suc m) other (omega (arith, le)) is;
    } in
    go (path_cmp k path) refl first (with_inserted k paths n (tail_rising path paths h) rest new)
  where
    go : (o : Ordering) → path_cmp k path ≡ o → is_lt (path_cmp path k) ≡ true → with_path k paths ≡ insert paths n k → by_order o (k ∷ path ∷ paths) (path ∷ paths) (path ∷ with_path k paths) ≡ path ∷ insert paths n k
    go Less is first rest = absurd (false≢true (sym (not_both_below path k first) ∙ ap is_lt is))
    go Equal is first rest = absurd (false≢true (sym (not_below_itself path) ∙ subst (λ r. is_lt (path_cmp path r) ≡ true) (path_exact k path is) first))
    go Greater is first rest = ap (λ ps. path ∷ ps) rest

-- one that is there is taken out at its place
pub without_removed : (k : PathName) (paths : List PathName) (n : ℕ) → are_rising paths ≡ true → slice_get paths n ≡ Some k → filter (λ p. not (path_eq k p)) paths ≡ remove paths n
without_removed k [] n h is = absurd (some_none k (sym is))
without_removed k (path ∷ paths) zero h is =
    let same : path ≡ k = some_same path k is in
    ap (λ b. cond (not b) (path ∷ filter (λ p. not (path_eq k p)) paths) (filter (λ p. not (path_eq k p)) paths)) (subst (λ p. path_eq k p ≡ true) (sym same) (path_eq_itself k))
    ∙ all_others k paths (subst (λ p. above p paths ≡ true) same (head_above path paths h))
  where
    all_others : (k : PathName) (paths : List PathName) → above k paths ≡ true → filter (λ p. not (path_eq k p)) paths ≡ paths
    all_others k [] h = refl
    all_others k (path ∷ paths) h =
        let both = and_parts (is_lt (path_cmp k path)) (above k paths) h in
        ap (λ b. cond (not b) (path ∷ filter (λ p. not (path_eq k p)) paths) (filter (λ p. not (path_eq k p)) paths)) (below_apart k path both.0) ∙ ap (λ ps. path ∷ ps) (all_others k paths both.1)
without_removed k (path ∷ paths) (suc n) h is =
    let other : path_eq k path ≡ false = path_apart k path (λ same. path_other path k (below_apart path k (above_at path k paths n (head_above path paths h) is)) (sym same)) in
    ap (λ b. cond (not b) (path ∷ filter (λ p. not (path_eq k p)) paths) (filter (λ p. not (path_eq k p)) paths)) other ∙ ap (λ ps. path ∷ ps) (without_removed k paths n (tail_rising path paths h) is)

-- ---- the keys of entries in order

module _ {X : Type 0} where
  pub keys-put : (k : PathName) (x : X) (es : List (PathName × X)) → keys_of (entries.put path_cmp k x es) ≡ with_path k (keys_of es)
  keys-put k x [] = refl
  keys-put k x (e ∷ es) = go (path_cmp k e.0) (keys-put k x es)
    where
      go : (o : Ordering) → keys_of (entries.put path_cmp k x es) ≡ with_path k (keys_of es)
          → keys_of (by_order o ((k, x) ∷ e ∷ es) ((e.0, x) ∷ es) (e ∷ entries.put path_cmp k x es)) ≡ by_order o (k ∷ e.0 ∷ keys_of es) (e.0 ∷ keys_of es) (e.0 ∷ with_path k (keys_of es))
      go Less rest = refl
      go Equal rest = refl
      go Greater rest = ap (λ ks. e.0 ∷ ks) rest

  pub keys-filter : (test : PathName → Bool) (es : List (PathName × X)) → keys_of (filter (λ e. test e.0) es) ≡ filter test (keys_of es)
  keys-filter test [] = refl
  keys-filter test (e ∷ es) = go (test e.0) (keys-filter test es)
    where
      go : (b : Bool) → keys_of (filter (λ e. test e.0) es) ≡ filter test (keys_of es) → keys_of (cond b (e ∷ filter (λ e. test e.0) es) (filter (λ e. test e.0) es)) ≡ cond b (e.0 ∷ filter test (keys_of es)) (filter test (keys_of es))
      go true rest = ap (λ ks. e.0 ∷ ks) rest
      go false rest = rest
