-- What a request on a snapshot tree leads to, over what is seen of the log in memory. This project's own.
use Rattle.std.specs.Prelude.{◌≡◌, false, List}
use Rattle.std.specs.Str.{bytes_eq}
use Rattle.up_names.specs.Texts.{UserName}
use Rattle.up_entry.specs.declared.records.Rec.{Rec}
use Rattle.up_journal.specs.declared.limits.Limits.{Limits}
use Rattle.up_log_tree.specs.Logs.{Log}
use Rattle.up_answers.specs.Answers.{log_owner}

-- a log of these records
abbrev pub log_with : UserName → Limits → List Rec → Log
log_with owner limits records = record { owner = owner; limits = limits; records = records }

-- another user than the owner, whose paths belong to the owner's log: the one whose tree shows its snapshots
abbrev pub IsOfSnapshots : UserName → UserName → Type 0
IsOfSnapshots owner user = (bytes_eq user owner ≡ false) × (log_owner user ≡ owner)
