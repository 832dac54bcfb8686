use Rattle.std.specs.Prelude.{codes, ◌++◌}
use Rattle.up_text.specs.Words.{coded}
use Rattle.up_cache.proofs.Printings.{printed_stop, printed_then}
use Rattle.up_cache.proofs.printing.print_file.Goals as goal

pub returns-in-Ok-clause-printed : goal.returns-in-Ok-clause-printed
returns-in-Ok-clause-printed g c =
    printed_then (g.K.Sink.held c.args.sink.now) (g.K.Sink.held c.print.new.sink) (g.K.Sink.held c.print_rest.new.sink) (codes "bytes ") (coded c.args.bytes.now ++ codes "\n") c.print_rest.result c.in-Ok.ensures.printed c.print_rest.ensures.printed

pub returns-in-Err-clause-printed : goal.returns-in-Err-clause-printed
returns-in-Err-clause-printed g c =
    printed_stop (g.K.Sink.held c.args.sink.now) (g.K.Sink.held c.print.new.sink) (codes "bytes ") (coded c.args.bytes.now ++ codes "\n") c.in-Err.why c.in-Err.ensures.printed
