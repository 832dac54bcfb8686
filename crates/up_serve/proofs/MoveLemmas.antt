-- How a move of a log is answered.
use Rattle.std.proofs.Common.{◌≡◌, ◌∙◌, ℕ, [], ◌∷◌, Option, Ok, Err, refl, sym, ap, arith}
use Rattle.up_command.specs.Statuses.{IsOneOf, is_cut_short}
use Rattle.up_disk.specs.declared.disk.Disk.{Ghosts}
use Rattle.up_journal.specs.declared.fault.MoveWhy.{MoveWhy}
use Rattle.up_journal.specs.declared.fault.MoveWhy.TheVariants as move
use Rattle.up_journal.specs.declared.limits.Limits.{Limits}
use Rattle.up_journal.specs.declared.moves.Moved.{Moved}
use Rattle.up_names.specs.Texts.{Text}
use Rattle.up_reports.proofs.TellLemmas.{is_answer}
use Rattle.up_reports.specs.Telling.{AnswersOne}
use Rattle.up_serve.specs.Moves.{IsMove, Moves}
use Rattle.up_serve.specs.Telling.{moved_by}

-- ---- which statuses come

moves_8 : (n : ℕ) → IsOneOf (3 ∷ 4 ∷ 8 ∷ []) n → IsOneOf (3 ∷ 4 ∷ 6 ∷ 8 ∷ 12 ∷ []) n
moves_8 n is = grind (arith)

moves_12 : (n : ℕ) → IsOneOf (3 ∷ 4 ∷ 12 ∷ []) n → IsOneOf (3 ∷ 4 ∷ 6 ∷ 8 ∷ 12 ∷ []) n
moves_12 n is = grind (arith)

moves_6 : (n : ℕ) → IsOneOf (3 ∷ 4 ∷ 6 ∷ []) n → IsOneOf (3 ∷ 4 ∷ 6 ∷ 8 ∷ 12 ∷ []) n
moves_6 n is = grind (arith)

moves_4 : (n : ℕ) → IsOneOf (3 ∷ 4 ∷ 4 ∷ []) n → IsOneOf (3 ∷ 4 ∷ 6 ∷ 8 ∷ 12 ∷ []) n
moves_4 n is = grind (arith)

pub moved_codes : (held held_now : Option Text) (which : ℕ) (reason : MoveWhy) (status : ℕ) → AnswersOne held held_now (moved_by which reason) status → IsOneOf (3 ∷ 4 ∷ 6 ∷ 8 ∷ 12 ∷ []) status
moved_codes held held_now which reason status one = by reason one.one
  where
    by : (r : MoveWhy) → IsOneOf (3 ∷ 4 ∷ (moved_by which r).status ∷ []) status → IsOneOf (3 ∷ 4 ∷ 6 ∷ 8 ∷ 12 ∷ []) status
    by (move.Old place) is = moves_8 status is
    by (move.Full records) is = moves_12 status is
    by move.Fault is = moves_6 status is
    by move.OutOfMemory is = moves_4 status is

-- 6 is that of a fault of a disk alone
pub moved_six : (held held_now : Option Text) (which : ℕ) (reason : MoveWhy) (status : ℕ) → AnswersOne held held_now (moved_by which reason) status → status ≡ 6 → reason ≡ move.Fault
moved_six held held_now which reason status one six = by reason (sym six ∙ is_answer held held_now (moved_by which reason) status one (ap is_cut_short six))
  where
    by : (r : MoveWhy) → 6 ≡ (moved_by which r).status → r ≡ move.Fault
    by (move.Old place) is = absurd (cc)
    by (move.Full records) is = absurd (cc)
    by move.Fault is = refl
    by move.OutOfMemory is = absurd (cc)

pub ruleset codes_of_moves = (moved_codes, moved_six)

-- ---- what came of it

module _ {D : Type 0} {disks : Ghosts D} {limits : Limits} {which : ℕ} {old old_now new new_now : D} where
  pub was_moved : {held held_now : Option Text} {done : Moved} → IsMove disks limits old old_now new new_now (Ok done) → held_now ≡ held → Moves disks limits which old old_now new new_now held held_now (Ok done)
  was_moved {done = done} move same = record { came = Ok done; move = move; answers = (refl, same) }

  pub was_not_moved : {held held_now : Option Text} {why : MoveWhy} {status : ℕ} → IsMove disks limits old old_now new new_now (Err why) → AnswersOne held held_now (moved_by which why) status → Moves disks limits which old old_now new new_now held held_now (Err status)
  was_not_moved {why = why} move one = record { came = Err why; move = move; answers = one }

pub ruleset moves = (was_moved, was_not_moved)
