-- With which status a part of a server ends. This project's own.
use Rattle.std.specs.Prelude.{ℕ, Result, Ok, Err}
use Rattle.up_command.specs.Statuses.{code_of}
use Rattle.up_command.specs.declared.status.Status.{Status}

-- A part that answers the number of a status stopped with that one; one that went on has none, which counts as 0.
abbrev pub ended_with : {X : Type 0} → Result X ℕ → ℕ
ended_with (Ok x) = 0
ended_with (Err status) = status

-- The same of a part that answers the status itself.
abbrev pub stopped_with : {X : Type 0} → Result X Status → ℕ
stopped_with (Ok x) = 0
stopped_with (Err status) = code_of status
