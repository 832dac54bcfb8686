-- What was written and gathered so far, and the lines that are left, are all lines.
use Rattle.std.proofs.Common.{◌≡◌, ◌≤◌, ◌++◌, drop}
use Rattle.up_audit.proofs.TextLemmas.{lines}
use Rattle.up_audit.proofs.text.print_lines.Given as goal
use Rattle.up_ends.specs.Writing.{Going}

abbrev pub invariant-loop-reference : goal.invariant-loop-reference
invariant-loop-reference g l = record {
  going : Going (g.K.Sink.held l.fn.sink) (g.K.Sink.held l.sink) (l.gathered.items ++ lines (drop l.reference-index l.loose)) (l.fn.gathered.items ++ lines l.loose);
  later : g.K.Sink.faults l.fn.sink ≤ g.K.Sink.faults l.sink;
  written : g.K.Sink.faults l.sink ≡ g.K.Sink.faults l.fn.sink;
}
