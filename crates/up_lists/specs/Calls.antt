-- Objects that fail in the calls that they are told to. This project's own.
use Rattle.std.specs.Prelude.{◌≡◌, ◌==◌, ℕ, Bool, true, List, Result, IsErr, is_err, if◌then◌else◌}
use Rattle.std.specs.List.{list_any}
use Rattle.up_lists.specs.Counts.{count_after}

-- the numbers, from 0, of the calls that fail, how many calls were made, and how many of them failed
pub record CallPlan : Type 0 where
  pub fails : List ℕ
  pub made : ℕ
  pub faults : ℕ

-- no call was made yet
abbrev pub no_call_made : List ℕ → CallPlan
no_call_made fails = record { fails = fails; made = 0; faults = 0 }

-- whether the next call is one that fails
abbrev pub fails_next : CallPlan → Bool
fails_next plan = list_any (λ number. number == plan.made) plan.fails

-- after one call more, which failed or not
abbrev pub after_call : CallPlan → Bool → CallPlan
after_call plan failed = record plan {
  made = count_after plan.made 1;
  faults = if failed then count_after plan.faults 1 else plan.faults;
}

-- A call that is listed failed. Each call is counted, and so is each that failed.
pub record IsCalled {T E : Type 0} (old new : CallPlan) (result : Result T E) : Type 0 where
  pub listed : fails_next old ≡ true → IsErr result
  pub counted : new ≡ after_call old (is_err result)
