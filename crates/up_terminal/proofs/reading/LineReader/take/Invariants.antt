-- The lines so far were run, and the counts are as they were.
use Rattle.std.proofs.Common.{◌≡◌, ◌≤◌, ◌+◌, ◌++◌, length, Ok}
use Rattle.up_terminal.specs.Lines.{IsLine}
use Rattle.up_terminal.specs.Sessions.{Goes}
use Rattle.up_terminal.proofs.reading.LineReader.take.Given as goal

abbrev pub invariant-loop-end : goal.invariant-loop-end
invariant-loop-end g l = record {
  goes : Goes g.A.Ask.answers l.user (g.K.Sink.held l.fn.sink) (g.K.Sink.held l.sink) l.fn.ask (l.fn.self.line ++ l.piece) l.fn.self.number (Ok tt) l.ask (l.self.line ++ l.rest) l.self.number;
  line : IsLine l.self.line;
  numbered : l.self.number + length l.rest ≤ l.fn.self.number + length l.piece;
  tie : g.A.Ask.tied l.fn.ask l.ask;
  asked : g.A.Ask.faults l.ask ≡ g.A.Ask.faults l.fn.ask;
  written : g.K.Sink.faults l.sink ≡ g.K.Sink.faults l.fn.sink;
}

abbrev pub decreases-loop-end : goal.decreases-loop-end
decreases-loop-end g l = length l.rest
