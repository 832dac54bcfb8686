use Rattle.std.proofs.Common.{◌≡◌, ◌++◌, [], length, map}
use Rattle.std.specs.Prelude.{None}
use Rattle.up_calls.specs.Blocks.{Got}
use Rattle.up_calls.specs.Gathered.{BlocksGathered}
use Rattle.up_calls.specs.Routes.{LogName}
use Rattle.up_calls.specs.Shown.{IsUnread, QuietApart, QuietBut}
use Rattle.up_calls.proofs.fetching.gather_blocks.Given as goal

abbrev pub invariant-loop-location : goal.invariant-loop-location
invariant-loop-location g l = record {
  locations : map (λ (got : Got). got.0) l.fetched ++ l.left.items ≡ l.fn.locations;
  gathered : BlocksGathered g.L.Loader (g.B.Logs.rises LogName.OfStore l.fn.logs l.logs) (g.B.Logs.views l.fn.logs).store (g.B.Logs.views l.logs).store l.fn.loader l.loader [] l.fetched;
  quiet : QuietBut (λ log. g.B.Logs.quiet log l.fn.logs l.logs) LogName.OfStore (IsUnread l.fetched);
  apart : QuietApart (λ log. g.B.Logs.quiet log l.fn.logs l.logs) LogName.OfStore;
  tie : g.B.Logs.tied None l.fn.logs l.logs;
}

abbrev pub decreases-loop-location : goal.decreases-loop-location
decreases-loop-location g l = length l.left.items
