-- The words so far were done, and the counts are as they were.
use Rattle.std.proofs.Common.{◌≡◌, map, take}
use Rattle.std.specs.Prelude.{string_bytes}
use Rattle.up_cache.specs.Printing.{Running}
use Rattle.up_cache.proofs.paths.copy_paths.Given as goal

abbrev pub invariant-loop-word : goal.invariant-loop-word
invariant-loop-word g l = record {
  so : Running g.A.Ask.answers (g.K.Sink.held l.fn.sink) (g.K.Sink.held l.sink) l.fn.ask (take l.word-index (map string_bytes l.words)) l.ask;
  tie : g.A.Ask.tied l.fn.ask l.ask;
  asked : g.A.Ask.faults l.ask ≡ g.A.Ask.faults l.fn.ask;
  written : g.K.Sink.faults l.sink ≡ g.K.Sink.faults l.fn.sink;
}
