use Rattle.up_ends.proofs.Going.{WritesPart-none}
use Rattle.std.proofs.Common.{Err}
use Rattle.up_cache.specs.Copying.{lines_text}
use Rattle.up_command.specs.Printed.{got_lines}
use Rattle.up_cache.proofs.printing.print_why.Goals as goal

pub returns-in-Err-clause-printed : goal.returns-in-Err-clause-printed
returns-in-Err-clause-printed g c = WritesPart-none (g.K.Sink.held c.args.sink.now) (lines_text (got_lines (Err c.args.fault.now)))
