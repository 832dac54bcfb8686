-- A path to which the elements of another one are joined.
use Rattle.std.proofs.Common.{◌≡◌, ℕ, zero, suc, ◌+◌, ◌≤◌, Bool, true, false, nat_lt, if◌then◌else◌, List, [], ◌∷◌, ◌++◌, length, take, drop, Some, Result, Ok, Err, refl, sym, subst, ap, ◌∙◌, append_assoc, length-append, arith}
use Rattle.std.proofs.lemmas.Bool.Decides.{nat_tests}
use Rattle.std.proofs.lemmas.Bool.{and_parts}
use Rattle.std.proofs.lemmas.List.{drop_more}
use Rattle.std.proofs.lemmas.Option.{get_or_from_slice_get, slice_get_within}
use Rattle.std.specs.List.{list_all, slice_get}
use Rattle.std.specs.Result.{IsErrAnd}
use Rattle.up_names.specs.PathNames.{IsCanonical, PathName, canonical, extended, is_name}
use Rattle.up_names.proofs.Joined.{joined-front, joined_text}
use Rattle.up_names.proofs.PathLaws.{canonical-proper}
use Rattle.up_client.specs.declared.fault.ClientFault.{ClientFault}
use Rattle.up_client.specs.declared.fault.ClientFault.TheVariants as faults
use Rattle.up_client.specs.Links.{behind, short}
use Rattle.up_client.specs.Talks.{Meant}

-- each element of a list of names is one
name_at : (es : List (List ℕ)) (i : ℕ) (e : List ℕ) → list_all is_name es ≡ true → slice_get es i ≡ Some e → is_name e ≡ true
name_at [] i e all is = absurd (cc)
name_at (x ∷ es) zero e all is = let same : x ≡ e = cc in subst (λ (y : List ℕ). is_name y ≡ true) same (and_parts (is_name x) (list_all is_name es) all).0
name_at (x ∷ es) (suc i) e all is = name_at es i e (and_parts (is_name x) (list_all is_name es) all).1 is

-- each element of a canonical path is a name
pub element_named : (path : PathName) (i : ℕ) (e : List ℕ) → IsCanonical path → slice_get path.elements i ≡ Some e → is_name e ≡ true
element_named path i e again is = name_at path.elements i e (canonical-proper path again).names is

not_long : (n : ℕ) (path : PathName) → n ≤ 4096 → (if nat_lt 4096 n then Err faults.TooLong else Ok path) ≡ Ok path
not_long n path le = grind (arith, nat_tests)

-- a canonical path is short
pub canonical_short : (path : PathName) → IsCanonical path → short path ≡ Ok path
canonical_short path again = not_long (length (canonical path)) path (canonical-proper path again).short

-- what is left, an element later
pub whole_more : (so_far es all : List (List ℕ)) (i : ℕ) (e : List ℕ) → slice_get es i ≡ Some e → so_far ++ drop i es ≡ all → (so_far ++ e ∷ []) ++ drop (i + 1) es ≡ all
whole_more so_far es all i e is whole =
    append_assoc so_far (e ∷ []) (drop (i + 1) es)
    ∙ ap (λ (rest : List (List ℕ)). so_far ++ rest) (sym (drop_more es i e (slice_get_within es i e is) ∙ ap (λ (x : List ℕ). x ∷ drop (i + 1) es) (get_or_from_slice_get es i e e is)))
    ∙ whole

-- a path that fits is what came of it
fit_is : (long : Bool) (path fit : PathName) → (if long then Err faults.TooLong else Ok path) ≡ Ok fit → path ≡ fit
fit_is true path fit is = absurd (cc)
fit_is false path fit is = cc

pub short_is : (path fit : PathName) → short path ≡ Ok fit → path ≡ fit
short_is path fit is = fit_is (nat_lt 4096 (length (canonical path))) path fit is

-- the text of a longer path is not shorter
longer_text : (owner : List ℕ) (xs ys : List (List ℕ)) → length (canonical (record { owner = owner; elements = xs })) ≤ length (canonical (record { owner = owner; elements = xs ++ ys }))
longer_text owner xs ys =
    let front = joined-front (length xs) (xs ++ ys) in
    let cut : take (length xs) (xs ++ ys) ≡ xs = cut_at xs in
    let same : joined_text (xs ++ ys) ≡ joined_text xs ++ front.0 = front.1 ∙ ap (λ (zs : List (List ℕ)). joined_text zs ++ front.0) cut in
    let one : length (owner ++ 47 ∷ joined_text xs) ≡ length owner + (1 + length (joined_text xs)) = omega (arith, length-append owner (47 ∷ joined_text xs)) in
    let two : length (owner ++ 47 ∷ joined_text (xs ++ ys)) ≡ length owner + (1 + length (joined_text (xs ++ ys))) = omega (arith, length-append owner (47 ∷ joined_text (xs ++ ys))) in
    let three : length (joined_text (xs ++ ys)) ≡ length (joined_text xs) + length front.0 = ap length same ∙ length-append (joined_text xs) front.0 in
    omega (arith, one, two, three)
  where
    cut_at : (xs : List (List ℕ)) → take (length xs) (xs ++ ys) ≡ xs
    cut_at [] = refl
    cut_at (x ∷ xs) = ap (λ (zs : List (List ℕ)). x ∷ zs) (cut_at xs)

too_long : (n m : ℕ) (path longer : PathName) (fault : ClientFault) → n ≤ m
    → (if nat_lt 4096 n then Err faults.TooLong else Ok path) ≡ Err fault → (if nat_lt 4096 m then Err faults.TooLong else Ok longer) ≡ Err fault
too_long n m path longer fault le is = by_test (nat_lt 4096 n) (nat_lt 4096 m) refl refl is
  where
    by_test : (p q : Bool) → nat_lt 4096 n ≡ p → nat_lt 4096 m ≡ q → (if p then Err faults.TooLong else Ok path) ≡ Err fault → (if q then Err faults.TooLong else Ok longer) ≡ Err fault
    by_test false q one two is = absurd (cc)
    by_test true true one two is = cc
    by_test true false one two is = absurd (grind (arith, nat_tests))

-- where the path so far grows too long, so does the whole one
pub whole_fault : (n i : ℕ) (path target next : PathName) (e : List ℕ) (fault : ClientFault) → slice_get path.elements i ≡ Some e → next.owner ≡ target.owner
    → next.elements ++ drop i path.elements ≡ target.elements ++ drop n path.elements
    → Meant {X = PathName} (Err fault) (short (extended next e)) → Meant {X = PathName} (Err fault) (short (behind n path target))
whole_fault n i path target next e fault is owner whole meant other =
    let more = whole_more next.elements path.elements (target.elements ++ drop n path.elements) i e is whole in
    let same : record { owner = next.owner; elements = (next.elements ++ e ∷ []) ++ drop (i + 1) path.elements } ≡ behind n path target = (λ j. record { owner = owner j; elements = more j }) in
    subst (λ (p : PathName). short p ≡ Err fault) same
    (too_long (length (canonical (extended next e))) (length (canonical (record { owner = next.owner; elements = (next.elements ++ e ∷ []) ++ drop (i + 1) path.elements })))
    (extended next e) (record { owner = next.owner; elements = (next.elements ++ e ∷ []) ++ drop (i + 1) path.elements }) fault
    (longer_text next.owner (next.elements ++ e ∷ []) (drop (i + 1) path.elements)) (meant other))

-- a fault that is handed on means the same
pub meant_handed : {X : Type 0} (result : Result X ClientFault) (fault : ClientFault) (meant : Result X ClientFault) → Meant {X = X} (Err fault) meant → IsErrAnd result (λ other. other ≡ fault) → Meant result meant
meant_handed (Ok x) fault meant is same = absurd same
meant_handed {X} (Err other) fault meant is same = subst (λ (f : ClientFault). Meant {X = X} (Err f) meant) (sym same) is
