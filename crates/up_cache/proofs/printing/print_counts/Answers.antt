use Rattle.up_ends.proofs.Going.{WritesPart-none}
use Rattle.up_cache.specs.Copying.{counts_line}
use Rattle.up_cache.proofs.printing.print_counts.Goals as goal

pub returns-in-Err-clause-printed : goal.returns-in-Err-clause-printed
returns-in-Err-clause-printed g c = WritesPart-none (g.K.Sink.held c.args.sink.now) (counts_line c.args.asked c.args.kept)
