-- What faults say when they are printed: this project's own words.
use Rattle.std.specs.Prelude.{List, ℕ, ◌++◌, codes}
use Rattle.std.specs.Fmt.{decimal}
use Rattle.up_journal.specs.declared.fault.AppendWhy.{AppendWhy}
use Rattle.up_journal.specs.declared.fault.AppendWhy.TheVariants as append
use Rattle.up_journal.specs.declared.fault.MoveWhy.{MoveWhy}
use Rattle.up_journal.specs.declared.fault.MoveWhy.TheVariants as move_why
use Rattle.up_journal.specs.declared.fault.OpenWhy.{OpenWhy}
use Rattle.up_journal.specs.declared.fault.OpenWhy.TheVariants as open_why
use Rattle.up_journal.specs.declared.fault.ReadWhy.{ReadWhy}
use Rattle.up_journal.specs.declared.fault.ReadWhy.TheVariants as read

-- why a log does not open, in words
abbrev pub open_message : OpenWhy → List ℕ
open_message (open_why.Damaged place) = codes "the log is damaged at byte " ++ decimal place
open_message (open_why.Chain gate wanted got) =
    codes "the record at byte " ++ decimal gate ++ codes " does not carry the digest of the one before it"
open_message open_why.OldFormat = codes "the log is one of the first format"
open_message open_why.Fault = codes "the disk failed"
open_message open_why.OutOfMemory = codes "out of memory"

-- why a record is not appended, in words
abbrev pub append_message : AppendWhy → List ℕ
append_message (append.Full records) = codes "the log is full with " ++ decimal records ++ codes " records"
append_message append.Fault = codes "the disk failed"
append_message append.OutOfMemory = codes "out of memory"

-- why a record is not read, in words
abbrev pub read_message : ReadWhy → List ℕ
read_message read.Fault = codes "the disk failed"
read_message read.OutOfMemory = codes "out of memory"

-- why a log is not moved, in words
abbrev pub move_message : MoveWhy → List ℕ
move_message (move_why.Old place) = codes "the old log is damaged at byte " ++ decimal place
move_message (move_why.Full records) = codes "the new log is full with " ++ decimal records ++ codes " records"
move_message move_why.Fault = codes "a disk failed"
move_message move_why.OutOfMemory = codes "out of memory"
