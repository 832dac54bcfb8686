-- What was written and gathered so far, and what the lines that are left say, are what all lines say.
use Rattle.std.proofs.Common.{◌≡◌, ◌+◌, ◌≤◌, length}
use Rattle.up_text.specs.Lines.{script_lines}
use Rattle.up_can.specs.CanRuns.{run_from, run_of}
use Rattle.up_can.proofs.CanFolds.{Runs}
use Rattle.up_can.proofs.can.run_each.Given as goal

abbrev pub invariant-loop-line : goal.invariant-loop-line
invariant-loop-line g l = record {
  runs : Runs (g.K.Sink.held l.fn.sink) (g.K.Sink.held l.sink) l.gathered.items (run_from l.number l.script (script_lines l.rest)) (run_of l.fn.lines);
  later : g.K.Sink.faults l.fn.sink ≤ g.K.Sink.faults l.sink;
  written : g.K.Sink.faults l.sink ≡ g.K.Sink.faults l.fn.sink;
  counted : l.number + length l.rest ≤ length l.fn.lines + 1;
}

abbrev pub decreases-loop-line : goal.decreases-loop-line
decreases-loop-line g l = length l.rest
