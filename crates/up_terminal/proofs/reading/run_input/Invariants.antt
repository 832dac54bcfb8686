-- So much was read, and all lines in it were run.
use Rattle.std.proofs.Common.{◌≡◌, ◌≤◌, ◌-◌, ◌^◌, length}
use Rattle.up_terminal.proofs.InputLemmas.{SoFar}
use Rattle.up_terminal.proofs.reading.run_input.Given as goal

abbrev pub invariant-loop-reads : goal.invariant-loop-reads
invariant-loop-reads g l = record {
  so_far : SoFar g.A.Ask.answers l.user (g.S.Source.left l.fn.source) (g.S.Source.left l.source) (g.S.Source.given l.fn.source) (g.S.Source.given l.source) (g.K.Sink.held l.fn.sink) (g.K.Sink.held l.sink) l.fn.ask l.ask l.reader.line l.reader.number l.reads;
  most : l.reads ≤ 2 ^ 40;
  room : length l.room ≡ 65536;
  tie : g.A.Ask.tied l.fn.ask l.ask;
  asked : g.A.Ask.faults l.ask ≡ g.A.Ask.faults l.fn.ask;
  read : g.S.Source.faults l.source ≡ g.S.Source.faults l.fn.source;
  written : g.K.Sink.faults l.sink ≡ g.K.Sink.faults l.fn.sink;
}

abbrev pub decreases-loop-reads : goal.decreases-loop-reads
decreases-loop-reads g l = 2 ^ 40 - l.reads
