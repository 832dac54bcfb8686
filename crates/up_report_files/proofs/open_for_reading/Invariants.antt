-- A disk for each name so far.
use Rattle.std.proofs.Common.{◌≡◌, length}
use Rattle.up_report_files.proofs.open_for_reading.Given as goal

abbrev pub invariant-loop-name : goal.invariant-loop-name
invariant-loop-name g l = length l.disks.disks ≡ l.name-index
