use Rattle.std.proofs.Common.{◌≤◌, length}
use Rattle.std.specs.Prelude.{None}
use Rattle.up_calls.specs.Gathered.{Gathered}
use Rattle.up_calls.specs.Rounds.{LoadsFirst, IsMissing, bound}
use Rattle.up_calls.specs.Shown.{AllQuiet}
use Rattle.up_calls.proofs.gathering.gather_round.Given as goal

abbrev pub invariant-loop-i : goal.invariant-loop-i
invariant-loop-i g l = record {
  gathered : Gathered g.L.Loader (g.B.Logs.operator_of l.fn.logs) (g.B.Logs.views l.fn.logs) (g.B.Logs.views l.logs) (IsMissing l.fn.missing) l.fn.loader l.loader l.fn.loaded l.loaded;
  adds : LoadsFirst l.i l.fn.missing l.fn.loaded l.loaded;
  few : length l.loaded ≤ bound;
  quiet : AllQuiet (λ log. g.B.Logs.quiet log l.fn.logs l.logs);
  tie : g.B.Logs.tied None l.fn.logs l.logs;
}
