use Rattle.up_ends.proofs.Going.{WritesPart-none}
use Rattle.up_text.specs.Words.{coded}
use Rattle.up_cache.proofs.printing.print_coded.Goals as goal

pub returns-in-Err-clause-printed : goal.returns-in-Err-clause-printed
returns-in-Err-clause-printed g c = WritesPart-none (g.K.Sink.held c.args.sink.now) (coded c.args.bytes.now)
