use Rattle.std.proofs.Common.{sym, ◌∙◌}
use Rattle.std.specs.List.{flat_map}
use Rattle.up_text.specs.Words.{coded, coded_byte}
use Rattle.up_cache.proofs.Printings.{coded_some, plain_same, printed_as}
use Rattle.up_cache.proofs.printing.print_piece.Goals as goal

pub returns-then-has_coded-clause-printed : goal.returns-then-has_coded-clause-printed
returns-then-has_coded-clause-printed g c =
    let piece = c.args.piece.now in
    printed_as (g.K.Sink.held c.args.sink.now) (g.K.Sink.held c.print_coded.new.sink) (coded piece) (flat_map coded_byte piece) c.print_coded.result
    (coded_some piece (sym c.has_coded.ensures ∙ c.if-has_coded.true)) c.print_coded.ensures.printed

pub returns-else-has_coded-clause-printed : goal.returns-else-has_coded-clause-printed
returns-else-has_coded-clause-printed g c =
    let piece = c.args.piece.now in
    printed_as (g.K.Sink.held c.args.sink.now) (g.K.Sink.held c.print.new.sink) piece (flat_map coded_byte piece) c.print.result
    (plain_same piece (sym c.has_coded.ensures ∙ c.if-has_coded.false)) c.print.ensures.printed
