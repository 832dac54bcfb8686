-- Before each turn there are as many names as turns were made.
use Rattle.std.proofs.Common.{◌≡◌, length}
use Rattle.up_report_files.proofs.logs_of_trees.Given as goal

abbrev pub invariant-loop-which : goal.invariant-loop-which
invariant-loop-which l = length l.names.items ≡ l.which
