-- With which statuses the parts of a server end, and what that says of the sink's count.
use Rattle.std.proofs.Common.{◌≡◌, ◌∙◌, ℕ, [], ◌∷◌, Option, Some, None, Result, Ok, is_some, true, sym, ap, arith}
use Rattle.up_command.specs.Statuses.{IsOneOf, code_of}
use Rattle.up_command.specs.declared.status.Status.{Status}
use Rattle.up_command.specs.declared.status.Status.TheVariants.{ListenFault}
use Rattle.up_lists.specs.Counts.{StaysUnless}
use Rattle.up_server.specs.Endings.{ended_with}

-- ---- the statuses of a part are among those of the whole

pub usage_codes : (n : ℕ) → IsOneOf (3 ∷ 64 ∷ []) n → IsOneOf (0 ∷ 2 ∷ 3 ∷ 4 ∷ 6 ∷ 7 ∷ 8 ∷ 9 ∷ 10 ∷ 12 ∷ 64 ∷ []) n
usage_codes n is = grind (arith)

pub plan_codes : (n : ℕ) → IsOneOf (0 ∷ 2 ∷ 3 ∷ 4 ∷ 6 ∷ 7 ∷ 8 ∷ 9 ∷ 10 ∷ 12 ∷ []) n
    → IsOneOf (0 ∷ 2 ∷ 3 ∷ 4 ∷ 6 ∷ 7 ∷ 8 ∷ 9 ∷ 10 ∷ 12 ∷ 64 ∷ []) n
plan_codes n is = grind (arith)

pub plan_never : (n : ℕ) → IsOneOf (0 ∷ 2 ∷ 3 ∷ 4 ∷ 6 ∷ 7 ∷ 8 ∷ 9 ∷ 10 ∷ 12 ∷ []) n → n ≡ 64 → ⊥
plan_never n is usage = grind (arith)

pub opened_codes : (n : ℕ) → IsOneOf (0 ∷ 2 ∷ 3 ∷ 4 ∷ 6 ∷ 7 ∷ 8 ∷ 10 ∷ 12 ∷ []) n
    → IsOneOf (0 ∷ 2 ∷ 3 ∷ 4 ∷ 6 ∷ 7 ∷ 8 ∷ 9 ∷ 10 ∷ 12 ∷ []) n
opened_codes n is = grind (arith)

pub listened_codes : (n : ℕ) → IsOneOf (0 ∷ 3 ∷ 4 ∷ 9 ∷ []) n
    → IsOneOf (0 ∷ 2 ∷ 3 ∷ 4 ∷ 6 ∷ 7 ∷ 8 ∷ 9 ∷ 10 ∷ 12 ∷ []) n
listened_codes n is = grind (arith)

pub logs_codes : (n : ℕ) → IsOneOf (0 ∷ 3 ∷ 4 ∷ 6 ∷ 8 ∷ 12 ∷ []) n
    → IsOneOf (0 ∷ 2 ∷ 3 ∷ 4 ∷ 6 ∷ 7 ∷ 8 ∷ 10 ∷ 12 ∷ []) n
logs_codes n is = grind (arith)

pub moved_codes : (n : ℕ) → IsOneOf (3 ∷ 4 ∷ 6 ∷ 8 ∷ 12 ∷ []) n → IsOneOf (0 ∷ 3 ∷ 4 ∷ 6 ∷ 8 ∷ 12 ∷ []) n
moved_codes n is = grind (arith)

pub both_codes : (n : ℕ) → IsOneOf (0 ∷ 4 ∷ 9 ∷ []) n → IsOneOf (0 ∷ 3 ∷ 4 ∷ 9 ∷ []) n
both_codes n is = grind (arith)

pub both_never : (n : ℕ) → IsOneOf (0 ∷ 4 ∷ 9 ∷ []) n → n ≡ 3 → ⊥
both_never n is three = grind (arith)

pub answered_codes : (n : ℕ) → IsOneOf (0 ∷ 9 ∷ []) n → IsOneOf (0 ∷ 4 ∷ 9 ∷ []) n
answered_codes n is = grind (arith)

pub said_codes : (n : ℕ) → IsOneOf (0 ∷ 3 ∷ 4 ∷ []) n → IsOneOf (0 ∷ 3 ∷ 4 ∷ 9 ∷ []) n
said_codes n is = grind (arith)

-- the system did not listen or accept
pub refused_code : (status : Status) → status ≡ ListenFault → code_of status ≡ 9
refused_code status same = ap code_of same

-- ---- the words fit, so the usage line was not printed

served : (n : ℕ) → IsOneOf (2 ∷ 3 ∷ 4 ∷ 6 ∷ 7 ∷ 8 ∷ 10 ∷ 12 ∷ 64 ∷ []) n → (n ≡ 64 → ⊥)
    → IsOneOf (0 ∷ 2 ∷ 3 ∷ 4 ∷ 6 ∷ 7 ∷ 8 ∷ 10 ∷ 12 ∷ []) n
served n is never = grind (arith)

pub served_codes : {X : Type 0} (plan : Option X) (n : ℕ) → is_some plan ≡ true
    → IsOneOf (2 ∷ 3 ∷ 4 ∷ 6 ∷ 7 ∷ 8 ∷ 10 ∷ 12 ∷ 64 ∷ []) n
    → (n ≡ 64 → plan ≡ None) → IsOneOf (0 ∷ 2 ∷ 3 ∷ 4 ∷ 6 ∷ 7 ∷ 8 ∷ 10 ∷ 12 ∷ []) n
served_codes None n fits is usage = absurd (cc)
served_codes (Some plan) n fits is usage = served n is (λ bad. let none = usage bad in absurd (cc))

-- ---- the sink's count

not_three : ◌≡◌ {A = ℕ} 0 3 → ⊥
not_three bad = grind (arith)

-- a part that went on left it as it was
pub went_on : {X : Type 0} {x : X} (before mid now : ℕ) (result : Result X ℕ) → result ≡ Ok x
    → StaysUnless mid now (ended_with result ≡ 3) → mid ≡ before → now ≡ before
went_on before mid now result was quiet same = quiet.stays (λ bad. not_three (sym (ap ended_with was) ∙ bad)) ∙ same

pub ruleset ends = (
  usage_codes,
  plan_codes,
  plan_never,
  opened_codes,
  listened_codes,
  logs_codes,
  moved_codes,
  both_codes,
  both_never,
  answered_codes,
  said_codes,
  refused_code,
  served_codes,
)
