use Rattle.up_cache.proofs.Printings.{told_file}
use Rattle.up_cache.proofs.printing.print_got.Goals as goal

pub returns-in-Ok-clause-printed : goal.returns-in-Ok-clause-printed
returns-in-Ok-clause-printed g c =
    told_file (g.K.Sink.held c.args.sink.now) (g.K.Sink.held c.print_file-printed.new.sink) c.args.got c.in-Ok.bytes c.as_slice.result.now c.print_file-printed.result c.in-Ok.is c.as_slice.ensures c.print_file-printed.ensures.printed
