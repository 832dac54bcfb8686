use Rattle.std.proofs.Common.{◌≡◌}
use Rattle.up_trials.proofs.tests.cells.Caller.take_turns.Given as goal

abbrev pub invariant-loop : goal.invariant-loop
invariant-loop g l = l.self.cell ≡ l.initial.self.cell
