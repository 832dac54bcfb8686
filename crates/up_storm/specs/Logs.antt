-- How a log is read for printing. This project's own.
use Rattle.std.specs.Prelude.{◌≡◌, ℕ, Bool, true, false, if◌then◌else◌, List, [], ◌++◌, length, codes, Option, Some, None, Result, IfOk}
use Rattle.up_cell.specs.Known.{HasEvery, Known}
use Rattle.up_command.specs.Printed.{ended}
use Rattle.up_entry.specs.declared.records.Rec.{Rec}
use Rattle.up_entry.specs.declared.records.Rec.TheVariants.{Put}
use Rattle.up_lists.specs.Begins.{Begins}
use Rattle.up_log_tree.specs.Changes.{change_before, record_at}
use Rattle.up_log_tree.specs.Trees.{tree_of}
use Rattle.up_names.specs.Texts.{Text}
use Rattle.up_storm.specs.Telling.{all_counted, heading, numbers_line, records_text, sessions_text, tally_line}
use Rattle.up_storm.specs.declared.logs.LogRead.{LogRead}
use Rattle.up_storm.specs.declared.plan.Plan.{Plan}
use Rattle.up_storm.specs.declared.session.Said.{Said}
use Rattle.up_storm.specs.declared.tally.Tally.{Tally}
use Rattle.up_tree.specs.States.{State}

-- what is printed of a log: its numbers of records and of items, and, where all is printed, its records
pub record IsLogRead (full : Bool) (log : List Rec) (read : LogRead) : Type 0 where
  pub records : read.records ≡ length log
  pub rows : read.rows ≡ length (tree_of log)
  pub text : read.text ≡ (if full then records_text 0 log else [])

-- What a seat read is of a log that begins with what it had seen; where its share is whole, the records that were added are its own.
pub record IsReadBy {F : Type 0} (full : Bool) (v : Known Rec F) (read : LogRead) : Type 0 where
  pub log : List Rec
  pub begins : Begins v.seen log
  pub every : HasEvery v (length log)
  pub told : IsLogRead full log read

-- a log was read, and the tree stays
pub record ReadsLog {D E : Type 0} (full : Bool) (old new : State D) (read : Result LogRead E) : Type 0 where
  pub stays : new ≡ old
  pub told : IfOk read (IsLogRead full old.log)

-- whether a record is a Put
abbrev pub is_put : Option Rec → Bool
is_put (Some (Put entry text)) = true
is_put other = false

-- whether the record at a position is a Put
abbrev pub put_at : List Rec → Option ℕ → Bool
put_at log None = false
put_at log (Some m) = is_put (record_at log m)

-- whether something stood, before record n, at the path that it changes: the last change before it was a Put
abbrev pub stood_before : List Rec → ℕ → Bool
stood_before log n = put_at log (change_before log n)

-- ---- what is printed, over what was read

-- a line for each of the two trees, by the numbers of their logs that were read
abbrev pub trees_of : LogRead → LogRead → Text
trees_of first second =
    numbers_line (codes "a@storm.example") first.records first.rows ++ numbers_line (codes "b@storm.example") second.records second.rows

-- the summary: how much was asked, the two trees, and how many replies of each kind there were
abbrev pub summary_of : Plan → LogRead → LogRead → Tally → Text
summary_of plan first second t = heading plan ++ (trees_of first second ++ tally_line t)

-- `log TREE`, and what was read of the tree's log
abbrev pub logged : Text → LogRead → Text
logged owner read = ended (codes "log " ++ owner) ++ read.text

-- what is printed behind the summary where all is asked for: the two logs, and what each session says
abbrev pub full_of : LogRead → LogRead → List Said → Text
full_of first second said = logged (codes "a@storm.example") first ++ (logged (codes "b@storm.example") second ++ sessions_text 0 said)

-- all that is printed: the summary, and the rest where it is asked for
abbrev pub told_text : Plan → LogRead → LogRead → List Said → Text
told_text plan first second said = summary_of plan first second (all_counted said) ++ (if plan.full then full_of first second said else [])
