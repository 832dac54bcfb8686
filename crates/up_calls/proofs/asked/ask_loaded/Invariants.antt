use Rattle.std.proofs.Common.{◌≡◌, ◌≤◌, ◌-◌, [], length}
use Rattle.std.specs.Prelude.{None, Some, is_some, true}
use Rattle.up_calls.specs.Gathered.{Gathered, HasRounds, IsWanted}
use Rattle.up_calls.specs.Kept.{KeepsSeen}
use Rattle.up_calls.specs.Rounds.{bound}
use Rattle.up_calls.specs.Routes.{LogName, OwnStays}
use Rattle.up_calls.specs.Shown.{AllQuiet}
use Rattle.up_calls.proofs.asked.ask_loaded.Given as goal

abbrev pub invariant-loop-reply : goal.invariant-loop-reply
invariant-loop-reply g l = record {
  gathered : Gathered g.L.Loader (g.B.Logs.operator_of l.fn.logs) (g.B.Logs.views l.fn.logs) (g.B.Logs.views l.logs)
      (IsWanted (g.B.Logs.views l.fn.logs) (g.B.Logs.views l.logs) l.fn.owner (record { user = l.fn.user; request = l.fn.request })) l.fn.loader l.loader [] l.loaded;
  rounds : HasRounds (g.B.Logs.views l.fn.logs) (g.B.Logs.views l.logs) l.fn.owner (record { user = l.fn.user; request = l.fn.request }) l.loaded;
  few : length l.loaded ≤ bound;
  own : OwnStays None (g.B.Logs.views l.fn.logs) (g.B.Logs.views l.logs);
  quiet : AllQuiet (λ log. g.B.Logs.quiet log l.fn.logs l.logs);
  tie : g.B.Logs.tied (Some (LogName.OfTree l.fn.owner)) l.fn.logs l.logs;
  fetched : l.fetched ≡ l.fn.fetched;
  there : is_some ((g.B.Logs.views l.logs).tree l.fn.owner) ≡ true;
  kept : KeepsSeen ((g.B.Logs.views l.logs).tree l.fn.owner) l.loaded l.kept;
}

abbrev pub decreases-loop-reply : goal.decreases-loop-reply
decreases-loop-reply g l = bound - length l.loaded
