-- Where a log was moved the sink's count is as it was.
use Rattle.std.proofs.Common.{arith}
use Rattle.std.proofs.lemmas.Grind.{common_steps}
use Rattle.up_server.proofs.EndLemmas.{went_on}
use Rattle.up_server.proofs.logs.all_moved.Goals as goal

pub loop-disk-preserved : goal.loop-disk-preserved
loop-disk-preserved g c = record {
  long = grind (arith, common_steps);
  later = omega (arith, c.loop-disk.invariant.later, c.moved.ensures.sink_counts);
  written = went_on (g.K.Sink.faults c.args.sink.now) (g.K.Sink.faults c.loop-disk.sink) (g.K.Sink.faults c.moved.new.sink)
      c.moved.result c.in_ok-disk.was c.moved.ensures.sink_quiet c.loop-disk.invariant.written;
}
