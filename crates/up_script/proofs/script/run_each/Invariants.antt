-- Some first lines were done; what they print was written, but for what is gathered.
use Rattle.std.proofs.Common.{◌≡◌, ◌+◌, ◌≤◌, length}
use Rattle.up_text.specs.Lines.{script_lines}
use Rattle.up_script.specs.Standing.{parties, world}
use Rattle.up_script.proofs.RunningLemmas.{Running}
use Rattle.up_script.proofs.script.run_each.Given as goal

abbrev pub invariant-loop-line : goal.invariant-loop-line
invariant-loop-line g l = record {
  running : Running (parties g.D.Disk g.P.Loader g.V.Verifier g.C.Clock g.N.Nonces) l.fn.limits (g.K.Sink.held l.fn.sink) (g.K.Sink.held l.sink) l.gathered.items
      (world l.fn.sessions l.fn.peers l.fn.verifier l.fn.clock l.fn.nonces) (world l.sessions l.peers l.verifier l.clock l.nonces) (script_lines l.fn.lines) (script_lines l.rest) l.number;
  later : g.K.Sink.faults l.fn.sink ≤ g.K.Sink.faults l.sink;
  written : g.K.Sink.faults l.sink ≡ g.K.Sink.faults l.fn.sink;
  counted : l.number + length l.rest ≤ length l.fn.lines + 1;
}

abbrev pub decreases-loop-line : goal.decreases-loop-line
decreases-loop-line g l = length l.rest
