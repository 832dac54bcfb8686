-- Some first lines were done; what they print was written, but for what is gathered.
use Rattle.std.proofs.Common.{◌≡◌, ◌+◌, ◌≤◌, length}
use Rattle.up_text.specs.Lines.{script_lines}
use Rattle.up_following.specs.FollowTurns.{world}
use Rattle.up_following.proofs.RunLemmas.{Running}
use Rattle.up_following.proofs.run.run_each.Given as goal

abbrev pub invariant-loop-line : goal.invariant-loop-line
invariant-loop-line g l = record {
  running : Running g.D.Disk g.F.Feed (g.K.Sink.held l.fn.sink) (g.K.Sink.held l.sink) l.gathered.items
      (world l.fn.follower l.fn.feed) (world l.follower l.feed) (script_lines l.fn.lines) (script_lines l.rest) l.number;
  later : g.K.Sink.faults l.fn.sink ≤ g.K.Sink.faults l.sink;
  written : g.K.Sink.faults l.sink ≡ g.K.Sink.faults l.fn.sink;
  tie : g.F.Feed.tied l.fn.feed l.feed;
  counted : l.number + length l.rest ≤ length l.fn.lines + 1;
}

abbrev pub decreases-loop-line : goal.decreases-loop-line
decreases-loop-line g l = length l.rest
