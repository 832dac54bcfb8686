-- How counts go on, for every crate whose calls can fail.
use Rattle.std.proofs.Common.{◌≡◌, ℕ, ◌-◌, ◌^◌, ◌<◌, ◌≤◌, refl, ◌∙◌, arith, inl, inr}
use Rattle.std.proofs.lemmas.Bool.{cases_lt}
use Rattle.up_lists.specs.Counts.{count_after, HasCause, Rose, StaysUnless}

-- it rose later
pub Rose-after : (before mid now : ℕ) → before ≤ mid → mid ≤ now → Rose mid now → Rose before now
Rose-after before mid now le later rose low = elim (cases_lt mid (2 ^ 64 - 1)) [
  | inl below ↦ (let rises : mid < now = rose below in omega arith)
  | inr above ↦ omega arith
]

-- it rose before
pub Rose-before : (before mid now : ℕ) → Rose before mid → mid ≤ now → Rose before now
Rose-before before mid now rose later low = let rises : before < mid = rose low in omega arith

-- no call was made, and nothing failed
pub HasCause-same : (count : ℕ) (fault : Type 0) → (fault → Rose count count) → HasCause count count fault
HasCause-same count fault none = record { later = omega arith; bounded = λ low. low; rose = none }

-- less is called a fault
pub HasCause-weaker : (before now : ℕ) (fault other : Type 0) → HasCause before now fault → (other → fault) → HasCause before now other
HasCause-weaker before now fault other cause less = record { later = cause.later; bounded = cause.bounded; rose = λ failed. cause.rose (less failed) }

-- one run after another, where a fault of the whole is one of the second
pub HasCause-then : (before mid now : ℕ) (first fault : Type 0) → HasCause before mid first → HasCause mid now fault → HasCause before now fault
HasCause-then before mid now first fault one two = record {
  later = omega (arith, one.later, two.later);
  bounded = λ low. two.bounded (one.bounded low);
  rose = λ failed. Rose-after before mid now one.later two.later (two.rose failed);
}

-- a run whose fault was counted before
pub HasCause-first : (before mid now : ℕ) (fault other : Type 0) → HasCause before mid fault → HasCause mid now other → HasCause before now fault
HasCause-first before mid now fault other one two = record {
  later = omega (arith, one.later, two.later);
  bounded = λ low. two.bounded (one.bounded low);
  rose = λ failed. Rose-before before mid now (one.rose failed) two.later;
}

-- a count that went up by one, or stood at its end
pub HasCause-counted : (count : ℕ) (fault : Type 0) → HasCause count (count_after count 1) fault
HasCause-counted count fault = record { later = omega arith; bounded = λ low. omega arith; rose = λ failed low. omega arith }

-- no call was made
pub StaysUnless-same : (count : ℕ) (fault : Type 0) → StaysUnless count count fault
StaysUnless-same count fault = record { stays = λ none. refl }

-- more is called a fault
pub StaysUnless-more : (before now : ℕ) (fault other : Type 0) → StaysUnless before now fault → (fault → other) → StaysUnless before now other
StaysUnless-more before now fault other one more = record { stays = λ none. one.stays (λ failed. none (more failed)) }

-- one run after another, where a fault of each is one of the whole
pub StaysUnless-then : (before mid now : ℕ) (first second fault : Type 0)
    → StaysUnless before mid first → (first → fault) → StaysUnless mid now second → (second → fault) → StaysUnless before now fault
StaysUnless-then before mid now first second fault one of_first two of_second = record {
  stays = λ none. two.stays (λ failed. none (of_second failed)) ∙ one.stays (λ failed. none (of_first failed));
}
