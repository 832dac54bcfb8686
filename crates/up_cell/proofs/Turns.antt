-- What calls tell of a seat, for those who keep seats.
use Rattle.std.proofs.Common.{◌≡◌, ℕ, ◌+◌, ◌-◌, ◌^◌, ◌<◌, ◌≤◌, Bool, true, false, List, [], ◌∷◌, ◌++◌, length, take, slice_get, Some, refl, sym, ap, subst, ◌∙◌, arith, append-nil, length-append, nat_lt}
use Rattle.std.specs.Prelude.{if◌then◌else◌}
use Rattle.std.proofs.lemmas.Bool.Decides.{nat_tests}
use Rattle.up_cell.specs.Known.{Known, Onward}
use Rattle.up_cell.specs.Turned.{Turned}
use Rattle.up_cell.specs.Positions.{between, positions}
use Rattle.up_cell.specs.Turned.{rise}
use Rattle.up_lists.specs.Counts.{Rose}
use Rattle.up_lists.proofs.BeginsLemmas.{Begins-self, Begins-trans, length-Begins, take-Begins}
use Rattle.up_lists.specs.Begins.{Begins}

-- ---- positions

pub between-none : (n : ℕ) → between n n ≡ []
between-none n = ap (positions n) (let e : n - n ≡ 0 = omega arith in e)

pub between-one : (n m : ℕ) → m ≡ n + 1 → between n m ≡ (n + 1) ∷ []
between-one n m is = ap (positions n) (let e : m - n ≡ 1 = omega (arith, is) in e)

get-end : {X : Type 0} (xs : List X) (x : X) → slice_get (xs ++ x ∷ []) (length xs) ≡ Some x
get-end [] x = refl
get-end (y ∷ ys) x = get-end ys x

-- ---- faults

pub rise-Rose : (before after : ℕ) → Rose before after → 0 < rise before after
rise-Rose before after rose = by (nat_lt before (2 ^ 64 - 1)) refl
  where
    below : nat_lt before (2 ^ 64 - 1) ≡ true → before < 2 ^ 64 - 1
    below e = grind (arith, nat_tests)

    by : (b : Bool) → nat_lt before (2 ^ 64 - 1) ≡ b → 0 < (if b then after - before else 1)
    by true e = let less : before < after = rose (below e) in omega (arith, less)
    by false e = omega arith

-- ---- calls

module _ {E F : Type 0} where
  pub Onward-self : (v : Known E F) → Onward v v
  Onward-self v = record { cell = refl; begins = Begins-self v.seen; looks = omega arith; failed = omega arith; base = refl; fixed = refl; part = refl; halvings = refl }

  pub Onward-trans : (v w x : Known E F) → Onward v w → Onward w x → Onward v x
  Onward-trans v w x one two = record {
    cell = two.cell ∙ one.cell;
    begins = Begins-trans one.begins two.begins;
    looks = omega (arith, one.looks, two.looks);
    failed = omega (arith, one.failed, two.failed);
    base = two.base ∙ one.base;
    fixed = two.fixed ∙ one.fixed;
    part = two.part ∙ one.part;
    halvings = two.halvings ∙ one.halvings;
  }

  -- a count that was loaded
  pub Onward-looked : (v : Known E F) (n : ℕ) → Onward v (record v { floor = n; looks = v.looks + 1 })
  Onward-looked v n = record { cell = refl; begins = Begins-self v.seen; looks = omega arith; failed = omega arith; base = refl; fixed = refl; part = refl; halvings = refl }

module _ {S E F J : Type 0} (entries : S → List E) (faults : S → ℕ) (fixed : S → F) (did : J → S → J → S → Type 0) (job job_after : J) (v w : Known E F) (t : Turned entries faults fixed did job job_after v w) where
  seen_is : w.seen ≡ entries t.after
  seen_is = ap (λ (k : Known E F). k.seen) t.seat

  lent_begins : Begins (entries t.before) w.seen
  lent_begins = subst (Begins (entries t.before)) (sym seen_is) t.grows.begins

  -- the state was lent at a position between what the seat had seen and what it has seen
  pub turn_from : length v.seen ≤ length (entries t.before)
  turn_from = length-Begins t.lent.begins

  pub turn_to : length (entries t.before) ≤ length w.seen
  turn_to = length-Begins lent_begins

  pub turn_taken : take (length (entries t.before)) w.seen ≡ entries t.before
  turn_taken = take-Begins lent_begins

  -- and not before what it had loaded
  pub turn_floor : w.floor ≤ length (entries t.before)
  turn_floor = subst (λ n. n ≤ length (entries t.before)) (sym (ap (λ (k : Known E F). k.floor) t.seat)) t.lent.floor_is

  -- what the job adds is the seat's own
  pub turn_quiet : entries t.after ≡ entries t.before → w.own ≡ v.own
  turn_quiet same =
      ap (λ (k : Known E F). k.own) t.seat ∙ ap (λ n. v.own ++ between (length (entries t.before)) n) (ap length same)
      ∙ ap (λ ns. v.own ++ ns) (between-none (length (entries t.before))) ∙ append-nil v.own

  pub turn_added : (e : E) → entries t.after ≡ entries t.before ++ e ∷ []
      → (slice_get w.seen (length (entries t.before)) ≡ Some e) × (w.own ≡ v.own ++ (length (entries t.before) + 1) ∷ [])
  turn_added e grown =
      let long : length (entries t.after) ≡ length (entries t.before) + 1 = omega (arith, ap length grown, length-append (entries t.before) (e ∷ [])) in (
        ap (λ xs. slice_get xs (length (entries t.before))) (seen_is ∙ grown) ∙ get-end (entries t.before) e,
        ap (λ (k : Known E F). k.own) t.seat ∙ ap (λ ns. v.own ++ ns) (between-one (length (entries t.before)) (length (entries t.after)) long),
      )

  -- where the state's count rose, the seat's failures rose
  pub turn_rose : Rose (faults t.before) (faults t.after) → v.failed < w.failed
  turn_rose rose = let up = rise-Rose (faults t.before) (faults t.after) rose in omega (arith, up, ap (λ (k : Known E F). k.failed) t.seat)

  pub turn_onward : Onward v w
  turn_onward = record {
    cell = ap (λ (k : Known E F). k.cell) t.seat;
    begins = Begins-trans t.lent.begins lent_begins;
    looks = omega (arith, ap (λ (k : Known E F). k.looks) t.seat);
    failed = omega (arith, ap (λ (k : Known E F). k.failed) t.seat);
    base = ap (λ (k : Known E F). k.base) t.seat;
    fixed = ap (λ (k : Known E F). k.fixed) t.seat;
    part = ap (λ (k : Known E F). k.part) t.seat;
    halvings = ap (λ (k : Known E F). k.halvings) t.seat;
  }
