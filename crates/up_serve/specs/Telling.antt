-- What is printed where enrolling stops or a log is not moved, and the status that goes with it; what is printed of a log that does not
-- open stands in `up_reports`. This project's own. A log is named by its place among the logs of the server, from 0: those of the trees
-- in their order, that of the store, that of the keys.
use Rattle.std.specs.Prelude.{ℕ, ◌++◌, codes, decimal}
use Rattle.up_command.specs.Printed.{bad_line, ended}
use Rattle.up_command.specs.Statuses.{Answer}
use Rattle.up_journal.specs.declared.fault.MoveWhy.{MoveWhy}
use Rattle.up_journal.specs.declared.fault.MoveWhy.TheVariants as move
use Rattle.up_reports.specs.Telling.{damaged_at, nothing_with}
use Rattle.up_serve.specs.declared.enrolling.EnrolStop.{EnrolStop}
use Rattle.up_serve.specs.declared.enrolling.EnrolStop.TheVariants as stop

-- `enrol full N`: the log of keys has N records and takes no more
abbrev pub full_with : ℕ → Answer
full_with records = record { text = ended (codes "enrol full " ++ decimal records); status = 12 }

-- what is printed of why enrolling stopped
abbrev pub stopped_by : EnrolStop → Answer
stopped_by (stop.BadLine number) = record { text = bad_line number; status = 10 }
stopped_by (stop.Full records) = full_with records
stopped_by stop.DiskFault = nothing_with 6
stopped_by stop.OutOfMemory = nothing_with 4

-- `full I N`: of the log at place I so many records keep the limits, and more are there
abbrev pub full_log_at : ℕ → ℕ → Answer
full_log_at which records = record { text = ended (codes "full " ++ decimal which ++ codes " " ++ decimal records); status = 12 }

-- what is printed of a log that is not moved
abbrev pub moved_by : ℕ → MoveWhy → Answer
moved_by which (move.Old place) = damaged_at which place
moved_by which (move.Full records) = full_log_at which records
moved_by which move.Fault = nothing_with 6
moved_by which move.OutOfMemory = nothing_with 4
