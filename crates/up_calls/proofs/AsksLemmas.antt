-- How asking goes on.
use Rattle.std.proofs.Common.{◌≡◌, ◌≤◌, ◌<◌, ◌-◌, ◌^◌, ◌||◌, ℕ, zero, suc, Bool, true, false, List, [], ◌∷◌, ◌++◌, take, refl, sym, ap, subst, ◌∙◌, arith, append_assoc, append-nil, Some, slice_get, nat_lt}
use Rattle.std.specs.List.{AllByRecursion, flat_map, list_any}
use Rattle.std.proofs.lemmas.Bool.Decides.{nat_tests}
use Rattle.std.proofs.lemmas.Grind.{flat_map-append}
use Rattle.std.proofs.lemmas.List.Folds.{list_any-append}
use Rattle.up_lists.proofs.Causes.{StaysUnless-same}
use Rattle.up_lists.specs.Counts.{HasCause, Rose, StaysUnless}
use Rattle.up_calls.specs.Asks.{Asks, EachAfter, Tries}
use Rattle.up_lists.proofs.RunLemmas.{Run-append}
use Rattle.up_lists.specs.Runs.{Run}

-- ---- counts

nat_lt-true : (a b : ℕ) → nat_lt a b ≡ true → a < b
nat_lt-true a b e = grind (arith, nat_tests)

nat_lt-false : (a b : ℕ) → nat_lt a b ≡ false → b ≤ a
nat_lt-false a b e = grind (arith, nat_tests)

pub Rose-left : (a b c : ℕ) → Rose a b → b ≤ c → Rose a c
Rose-left a b c h k = λ small. let r : a < b = h small in omega arith

pub Rose-right : (a b c : ℕ) → a ≤ b → Rose b c → b ≤ c → Rose a c
Rose-right a b c h k l = λ small. at_or_above (nat_lt b (2 ^ 64 - 1)) refl small where
  at_or_above : (t : Bool) → nat_lt b (2 ^ 64 - 1) ≡ t → a < 2 ^ 64 - 1 → a < c
  at_or_above true e small = let r : b < c = k (nat_lt-true b (2 ^ 64 - 1) e) in omega arith
  at_or_above false e small = let r : 2 ^ 64 - 1 ≤ b = nat_lt-false b (2 ^ 64 - 1) e in omega arith

pub HasCause-same : (a : ℕ) (P : Type 0) → (P → ⊥) → HasCause a a P
HasCause-same a P none = record { later = omega arith; bounded = λ h. h; rose = λ p. absurd (none p) }

or_cases : (p q : Bool) (C : Type 0) → (p || q) ≡ true → (p ≡ true → C) → (q ≡ true → C) → C
or_cases true q C h f g = f refl
or_cases false q C h f g = g h

-- one call and then another, where a fault of both is a fault of one
pub HasCause-trans : (a b c : ℕ) (p q r : Bool) → r ≡ (p || q) → HasCause a b (p ≡ true) → HasCause b c (q ≡ true) → HasCause a c (r ≡ true)
HasCause-trans a b c p q r is one two = record {
  later = omega (arith, one.later, two.later);
  bounded = λ h. two.bounded (one.bounded h);
  rose = λ h. or_cases p q (Rose a c) (sym is ∙ h) (λ e. Rose-left a b c (one.rose e) two.later) (λ e. Rose-right a b c one.later (two.rose e) two.later);
}

or_left : (p q : Bool) → p ≡ true → (p || q) ≡ true
or_left true q is = refl
or_left false q is = absurd (cc)

or_right : (p q : Bool) → q ≡ true → (p || q) ≡ true
or_right true q is = refl
or_right false q is = is

-- and nowhere else
pub StaysUnless-trans : (a b c : ℕ) (p q r : Bool) → r ≡ (p || q) → StaysUnless a b (p ≡ true) → StaysUnless b c (q ≡ true) → StaysUnless a c (r ≡ true)
StaysUnless-trans a b c p q r is one two = record { stays = λ none. two.stays (λ e. none (is ∙ or_right p q e)) ∙ one.stays (λ e. none (is ∙ or_left p q e)) }

pub HasCause-quiet : (a b c : ℕ) → HasCause a b ⊥ → HasCause b c ⊥ → HasCause a c ⊥
HasCause-quiet a b c one two = record { later = omega (arith, one.later, two.later); bounded = λ h. two.bounded (one.bounded h); rose = λ h. absurd h }

pub HasCause-any : (a b : ℕ) (P : Type 0) → HasCause a b P → HasCause a b ⊥
HasCause-any a b P one = record { later = one.later; bounded = one.bounded; rose = λ h. absurd h }

pub HasCause-for : (a b : ℕ) (P Q : Type 0) → (Q → P) → HasCause a b P → HasCause a b Q
HasCause-for a b P Q f one = record { later = one.later; bounded = one.bounded; rose = λ h. one.rose (f h) }

-- ---- lists

pub EachAfter-append : {X : Type 0} (P : List X → X → Type 0) (before xs ys : List X) → EachAfter P before xs → EachAfter P (before ++ xs) ys → EachAfter P before (xs ++ ys)
EachAfter-append P before [] ys h k = subst (λ b. EachAfter P b ys) (append-nil before) k
EachAfter-append P before (x ∷ xs) ys h k =
    (h.0, EachAfter-append P (before ++ x ∷ []) xs ys h.1 (subst (λ b. EachAfter P b ys) (sym (append_assoc before (x ∷ []) xs)) k))

pub EachAfter-at : {X : Type 0} (P : List X → X → Type 0) (before xs : List X) (i : ℕ) (x : X) → EachAfter P before xs → slice_get xs i ≡ Some x → P (before ++ take i xs) x
EachAfter-at P before [] i x h at = absurd (cc)
EachAfter-at P before (y ∷ xs) zero x h at = let same : y ≡ x = cc in subst (λ z. P (before ++ []) z) same (subst (λ b. P b y) (sym (append-nil before)) h.0)
EachAfter-at P before (y ∷ xs) (suc i) x h at =
    subst (λ b. P b x) (append_assoc before (y ∷ []) (take i xs)) (EachAfter-at P (before ++ y ∷ []) xs i x h.1 at)

pub All-append : {X : Type 0} (P : X → Type 0) (xs ys : List X) → AllByRecursion P xs → AllByRecursion P ys → AllByRecursion P (xs ++ ys)
All-append P [] ys h k = k
All-append P (x ∷ xs) ys h k = (h.0, All-append P xs ys h.1 k)

pub All-map : {X : Type 0} (P Q : X → Type 0) → ((x : X) → P x → Q x) → (xs : List X) → AllByRecursion P xs → AllByRecursion Q xs
All-map P Q f [] h = tt
All-map P Q f (x ∷ xs) h = (f x h.0, All-map P Q f xs h.1)

-- ---- asking

module _ {L Q A X : Type 0} (step : L → Q → A → L → Type 0) (faults : L → ℕ) (tied : L → L → Type 0) (is_failed : A → Bool) (question : X → List Q) (answer : X → List A) where
  pub Asks-none : ((a : L) → tied a a) → (now : L) → Asks step faults tied is_failed question answer now now []
  Asks-none same now = record { asked = refl; counts = HasCause-same (faults now) _ (λ h. absurd (cc)); quiet = StaysUnless-same (faults now) _; tie = same now }

  pub Asks-trans : ((a b c : L) → tied a b → tied b c → tied a c) → (a b c : L) (xs ys : List X)
      → Asks step faults tied is_failed question answer a b xs → Asks step faults tied is_failed question answer b c ys → Asks step faults tied is_failed question answer a c (xs ++ ys)
  Asks-trans joined a b c xs ys one two = record {
    asked = subst (λ qs. Run step a qs (flat_map answer (xs ++ ys)) c) (sym (flat_map-append question xs ys))
        (subst (λ es. Run step a (flat_map question xs ++ flat_map question ys) es c) (sym (flat_map-append answer xs ys))
        (Run-append step a b c (flat_map question xs) (flat_map question ys) (flat_map answer xs) (flat_map answer ys) one.asked two.asked));
    counts = HasCause-trans (faults a) (faults b) (faults c) (list_any is_failed (flat_map answer xs)) (list_any is_failed (flat_map answer ys)) (list_any is_failed (flat_map answer (xs ++ ys)))
        (ap (list_any is_failed) (flat_map-append answer xs ys) ∙ list_any-append is_failed (flat_map answer xs) (flat_map answer ys)) one.counts two.counts;
    quiet = StaysUnless-trans (faults a) (faults b) (faults c) (list_any is_failed (flat_map answer xs)) (list_any is_failed (flat_map answer ys)) (list_any is_failed (flat_map answer (xs ++ ys)))
        (ap (list_any is_failed) (flat_map-append answer xs ys) ∙ list_any-append is_failed (flat_map answer xs) (flat_map answer ys)) one.quiet two.quiet;
    tie = joined a b c one.tie two.tie;
  }

  pub Tries-Asks : (a b : L) (xs : List X) → Asks step faults tied is_failed question answer a b xs → Tries step faults tied a b
  Tries-Asks a b xs one = record { questions = flat_map question xs; answers = flat_map answer xs; asked = one.asked; counts = HasCause-any _ _ _ one.counts; tie = one.tie }

module _ {L Q A : Type 0} (step : L → Q → A → L → Type 0) (faults : L → ℕ) (tied : L → L → Type 0) where
  pub Tries-none : ((a : L) → tied a a) → (now : L) → Tries step faults tied now now
  Tries-none same now = record { questions = []; answers = []; asked = refl; counts = HasCause-same (faults now) ⊥ (λ h. h); tie = same now }

  pub Tries-trans : ((a b c : L) → tied a b → tied b c → tied a c) → (a b c : L) → Tries step faults tied a b → Tries step faults tied b c → Tries step faults tied a c
  Tries-trans joined a b c one two = record {
    questions = one.questions ++ two.questions;
    answers = one.answers ++ two.answers;
    asked = Run-append step a b c one.questions two.questions one.answers two.answers one.asked two.asked;
    counts = HasCause-quiet (faults a) (faults b) (faults c) one.counts two.counts;
    tie = joined a b c one.tie two.tie;
  }

  pub Tries-one : (a b : L) (question : Q) (answer : A) (P : Type 0) → step a question answer b → HasCause (faults a) (faults b) P → tied a b → Tries step faults tied a b
  Tries-one a b question answer P given counts tie = record {
    questions = question ∷ [];
    answers = answer ∷ [];
    asked = (b, (given, refl));
    counts = HasCause-any (faults a) (faults b) P counts;
    tie = tie;
  }
