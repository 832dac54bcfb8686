-- Calls that prepare a host are added to a list, one after the other.
use Rattle.std.proofs.Common.{◌≡◌, ℕ, suc, ◌+◌, ◌-◌, ◌<◌, List, [], ◌∷◌, ◌++◌, sym, ap, subst, ◌∙◌, append_assoc, append-nil, arith}
use Rattle.std.specs.List.{AllByRecursion}
use Rattle.up_host.specs.declared.run.Call.{Call}
use Rattle.up_shared.specs.Sharing.{EachPair}
use Rattle.up_storm.specs.Preparing.{AddsWanted, IsWanted, Wanted, prepares, prepares_from}

-- two lists of pairs, one after the other
pub each_pair_append : {X Y : Type 0} (P : X → Y → Type 0) (xs : List X) (ys : List Y) (us : List X) (vs : List Y) → EachPair P xs ys → EachPair P us vs → EachPair P (xs ++ us) (ys ++ vs)
each_pair_append P [] [] us vs h k = k
each_pair_append P (x ∷ xs) (y ∷ ys) us vs h k = (h.0, each_pair_append P xs ys us vs h.1 k)
each_pair_append P [] (y ∷ ys) us vs h k = absurd h
each_pair_append P (x ∷ xs) [] us vs h k = absurd h

pub adds_none : (calls : List Call) → AddsWanted [] calls calls
adds_none calls = record { more = []; whole = sym (append-nil calls); each = tt }

pub adds_one : (w : Wanted) (old new : List Call) (call : Call) → new ≡ old ++ call ∷ [] → IsWanted w call → AddsWanted (w ∷ []) old new
adds_one w old new call is one = record { more = call ∷ []; whole = is; each = (one, tt) }

pub adds_then : (xs ys : List Wanted) (a b c : List Call) → AddsWanted xs a b → AddsWanted ys b c → AddsWanted (xs ++ ys) a c
adds_then xs ys a b c one two = record {
  more = one.more ++ two.more;
  whole = two.whole ∙ ap (λ (calls : List Call). calls ++ two.more) one.whole ∙ append_assoc a one.more two.more;
  each = each_pair_append IsWanted xs one.more ys two.more one.each two.each;
}

-- so many sessions are prepared: whatever the others add, with what was added it is all
pub record IsAdding (sessions : ℕ) (start : List Call) (k : ℕ) (now : List Call) : Type 0 where
  pub goes : (end : List Call) → AddsWanted (prepares_from k (sessions - k)) now end → AddsWanted (prepares_from 0 sessions) start end

pub adding_none : (sessions : ℕ) (start : List Call) → IsAdding sessions start 0 start
adding_none sessions start =
    let all : sessions - 0 ≡ sessions = omega arith in
    record { goes = λ end h. subst (λ (n : ℕ). AddsWanted (prepares_from 0 n) start end) all h }

pub adding_next : (sessions : ℕ) (start before after : List Call) (k : ℕ) → k < sessions → IsAdding sessions start k before → AddsWanted (prepares k) before after → IsAdding sessions start (k + 1) after
adding_next sessions start before after k less h one =
    let left : suc (sessions - (k + 1)) ≡ sessions - k = omega arith in
    record {
      goes = λ end rest. h.goes end (subst (λ (n : ℕ). AddsWanted (prepares_from k n) before end) left
          (adds_then (prepares k) (prepares_from (k + 1) (sessions - (k + 1))) before after end one rest));
    }

pub adding_all : (sessions : ℕ) (start now : List Call) → IsAdding sessions start sessions now → AddsWanted (prepares_from 0 sessions) start now
adding_all sessions start now h =
    let none : 0 ≡ sessions - sessions = omega arith in
    h.goes now (subst (λ (n : ℕ). AddsWanted (prepares_from sessions n) now now) none (adds_none now))

-- all calls of a whole list
pub adds_whole : (wanted : List Wanted) (calls : List Call) → AddsWanted wanted [] calls → EachPair IsWanted wanted calls
adds_whole wanted calls h = subst (EachPair IsWanted wanted) (sym h.whole) h.each

-- each is at moment 0
pub wanted_moments : (wanted : List Wanted) (calls : List Call) → EachPair IsWanted wanted calls → AllByRecursion (λ (call : Call). call.moment < 253402207200) calls
wanted_moments [] [] h = tt
wanted_moments (w ∷ ws) (c ∷ cs) h = (let zero_is = h.0.moment in omega (arith, zero_is), wanted_moments ws cs h.1)
wanted_moments [] (c ∷ cs) h = absurd h
wanted_moments (w ∷ ws) [] h = absurd h
