-- What was written and gathered so far explains the lines so far.
use Rattle.std.proofs.Common.{◌≡◌, ◌+◌, ◌≤◌, ◌∷◌, [], length}
use Rattle.up_command.specs.Statuses.{IsOneOf, code_of}
use Rattle.up_text.specs.Lines.{script_lines}
use Rattle.up_explain_can.specs.Explaining.{bad_from}
use Rattle.up_explain_can.proofs.TellingLemmas.{Telling}
use Rattle.up_explain_can.proofs.explaining.explain_lines.Given as goal

abbrev pub invariant-loop-line : goal.invariant-loop-line
invariant-loop-line g l = record {
  telling : Telling (bad_from g.J.Judge.step 1 l.fn.judge (script_lines l.fn.lines)) (bad_from g.J.Judge.step l.number l.judge (script_lines l.rest)) (g.K.Sink.held l.fn.sink) (g.K.Sink.held l.sink) l.gathered.items (code_of l.status);
  later : g.K.Sink.faults l.fn.sink ≤ g.K.Sink.faults l.sink;
  written : g.K.Sink.faults l.sink ≡ g.K.Sink.faults l.fn.sink;
  counted : l.number + length l.rest ≤ length l.fn.lines + 1;
  kind : IsOneOf (0 ∷ 1 ∷ []) (code_of l.status);
}

abbrev pub decreases-loop-line : goal.decreases-loop-line
decreases-loop-line g l = length l.rest
