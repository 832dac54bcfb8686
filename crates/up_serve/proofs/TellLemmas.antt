-- With which statuses it is answered that enrolling stopped, or that a log was not moved.
use Rattle.std.proofs.Common.{◌≡◌, ◌∙◌, ℕ, [], ◌∷◌, Option, refl, sym, ap, arith}
use Rattle.up_command.specs.Statuses.{IsOneOf, is_cut_short}
use Rattle.up_journal.specs.declared.fault.MoveWhy.{MoveWhy}
use Rattle.up_journal.specs.declared.fault.MoveWhy.TheVariants as move
use Rattle.up_names.specs.Texts.{Text}
use Rattle.up_reports.proofs.TellLemmas.{is_answer, never_3, tells_answer}
use Rattle.up_reports.specs.Telling.{AnswersOne}
use Rattle.up_serve.specs.Telling.{moved_by, stopped_by}
use Rattle.up_serve.specs.declared.enrolling.EnrolStop.{EnrolStop}
use Rattle.up_serve.specs.declared.enrolling.EnrolStop.TheVariants as stop

stops_10 : (n : ℕ) → IsOneOf (3 ∷ 4 ∷ 10 ∷ []) n → IsOneOf (3 ∷ 4 ∷ 6 ∷ 10 ∷ 12 ∷ []) n
stops_10 n is = grind (arith)

stops_12 : (n : ℕ) → IsOneOf (3 ∷ 4 ∷ 12 ∷ []) n → IsOneOf (3 ∷ 4 ∷ 6 ∷ 10 ∷ 12 ∷ []) n
stops_12 n is = grind (arith)

stops_6 : (n : ℕ) → IsOneOf (3 ∷ 4 ∷ 6 ∷ []) n → IsOneOf (3 ∷ 4 ∷ 6 ∷ 10 ∷ 12 ∷ []) n
stops_6 n is = grind (arith)

stops_4 : (n : ℕ) → IsOneOf (3 ∷ 4 ∷ 4 ∷ []) n → IsOneOf (3 ∷ 4 ∷ 6 ∷ 10 ∷ 12 ∷ []) n
stops_4 n is = grind (arith)

pub stopped_codes : (held held_now : Option Text) (reason : EnrolStop) (status : ℕ) → AnswersOne held held_now (stopped_by reason) status → IsOneOf (3 ∷ 4 ∷ 6 ∷ 10 ∷ 12 ∷ []) status
stopped_codes held held_now reason status one = by reason one.one
  where
    by : (r : EnrolStop) → IsOneOf (3 ∷ 4 ∷ (stopped_by r).status ∷ []) status → IsOneOf (3 ∷ 4 ∷ 6 ∷ 10 ∷ 12 ∷ []) status
    by (stop.BadLine number) is = stops_10 status is
    by (stop.Full records) is = stops_12 status is
    by stop.DiskFault is = stops_6 status is
    by stop.OutOfMemory is = stops_4 status is

-- 6 is that of a fault of a disk alone
pub stopped_six : (held held_now : Option Text) (reason : EnrolStop) (status : ℕ) → AnswersOne held held_now (stopped_by reason) status → status ≡ 6 → reason ≡ stop.DiskFault
stopped_six held held_now reason status one six = by reason (sym six ∙ is_answer held held_now (stopped_by reason) status one (ap is_cut_short six))
  where
    by : (r : EnrolStop) → 6 ≡ (stopped_by r).status → r ≡ stop.DiskFault
    by (stop.BadLine number) is = absurd (cc)
    by (stop.Full records) is = absurd (cc)
    by stop.DiskFault is = refl
    by stop.OutOfMemory is = absurd (cc)

-- ---- no answer is a write fault

pub stopped_never : (r : EnrolStop) → (stopped_by r).status ≡ 3 → ⊥
stopped_never (stop.BadLine number) bad = absurd (cc)
stopped_never (stop.Full records) bad = absurd (cc)
stopped_never stop.DiskFault bad = absurd (cc)
stopped_never stop.OutOfMemory bad = absurd (cc)

pub moved_never : (which : ℕ) (r : MoveWhy) → (moved_by which r).status ≡ 3 → ⊥
moved_never which (move.Old place) bad = absurd (cc)
moved_never which (move.Full records) bad = absurd (cc)
moved_never which move.Fault bad = absurd (cc)
moved_never which move.OutOfMemory bad = absurd (cc)

pub ruleset tellings = (tells_answer, never_3, stopped_never, moved_never)
