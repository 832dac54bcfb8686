-- What is printed of a log that does not open, by a report and by `upspin serve`, and the status that goes with it. This project's own.
-- A log is named by its place among the logs, from 0.
use Rattle.std.specs.Prelude.{◌≡◌, ℕ, List, [], ◌∷◌, ◌++◌, codes, decimal, Option, Result, Ok, Err, IfOk}
use Rattle.std.specs.declared.alloc.AllocError.{AllocError}
use Rattle.up_command.specs.Printed.{ended}
use Rattle.up_command.specs.Statuses.{Answer, AnswersWith, IsOneOf, code_of}
use Rattle.up_journal.specs.declared.fault.OpenWhy.{OpenWhy}
use Rattle.up_journal.specs.declared.fault.OpenWhy.TheVariants as why
use Rattle.up_lists.specs.Counts.{Rose}
use Rattle.up_names.specs.Texts.{Text}
use Rattle.up_refs.specs.References.{text_of}
use Rattle.up_reports.specs.declared.refused.Refused.{Refused}
use Rattle.up_reports.specs.declared.telling.Last.{Last}

-- nothing is printed, and this is the status
abbrev pub nothing_with : ℕ → Answer
nothing_with status = record { text = []; status = status }

-- `damaged I P`: the log at place I is damaged at byte P
abbrev pub damaged_at : ℕ → ℕ → Answer
damaged_at which place = record { text = ended (codes "damaged " ++ decimal which ++ codes " " ++ decimal place); status = 8 }

-- `chain I P WANTED GOT`: in the log at place I the record at byte P has to carry the first digest, and carries the second
abbrev pub chain_at : ℕ → ℕ → List ℕ → List ℕ → Answer
chain_at which gate wanted got =
    record {
      text = ended
          (codes "chain " ++ decimal which ++ codes " " ++ decimal gate ++ codes " " ++ text_of wanted ++ codes " " ++ text_of got);
      status = 8;
    }

-- `oldformat I`: the log at place I is one of the first format
abbrev pub old_format_at : ℕ → Answer
old_format_at which = record { text = ended (codes "oldformat " ++ decimal which); status = 8 }

-- what is printed of a log that does not open: nothing for a fault of the disk (6), and for want of memory (4)
abbrev pub refused_by : ℕ → OpenWhy → Answer
refused_by which (why.Damaged gate) = damaged_at which gate
refused_by which (why.Chain gate wanted got) = chain_at which gate wanted got
refused_by which why.OldFormat = old_format_at which
refused_by which why.Fault = nothing_with 6
refused_by which why.OutOfMemory = nothing_with 4

-- what is printed of a refusal, and the status that goes with it
abbrev pub told_of : Refused → Answer
told_of refused = refused_by refused.which refused.why

-- An answer was printed, and this is its status; or 3, and a front of it was printed; or 4, for want of memory.
pub record AnswersOne (held held_now : Option Text) (answer : Answer) (status : ℕ) : Type 0 where
  pub one : IsOneOf (3 ∷ 4 ∷ answer.status ∷ []) status
  pub answers : AnswersWith held held_now answer status

-- a count did not rise
abbrev pub Stays : ℕ → ℕ → Type 0
Stays before now = Rose before now → ⊥

-- ---- on the way

-- what is to be printed is that answer, or there was no memory to make it
abbrev pub IsLast : Result Last AllocError → Answer → Type 0
IsLast result answer = IfOk result (λ last. (last.line.items ≡ answer.text) × (code_of last.status ≡ answer.status))

-- The answer was printed as it was made; nothing was, where there was no memory to make it.
abbrev pub TellsLast : Option Text → Option Text → Result Last AllocError → ℕ → Type 0
TellsLast old new (Ok last) status = AnswersOne old new (record { text = last.line.items; status = code_of last.status }) status
TellsLast old new (Err e) status = (status ≡ 4) × (new ≡ old)
