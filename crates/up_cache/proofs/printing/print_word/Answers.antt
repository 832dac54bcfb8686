use Rattle.std.proofs.Common.{arith}
use Rattle.std.specs.List.{flat_map}
use Rattle.up_text.specs.Words.{coded, coded_byte}
use Rattle.up_cache.proofs.Printings.{coded_long, printed_as}
use Rattle.up_cache.proofs.printing.print_word.Goals as goal

pub returns-else-bytes-lt2-clause-printed : goal.returns-else-bytes-lt2-clause-printed
returns-else-bytes-lt2-clause-printed g c =
    let bytes = c.args.bytes.now in
    let long = c.if-bytes-lt2.false in
    printed_as (g.K.Sink.held c.args.sink.now) (g.K.Sink.held c.print_pieces.new.sink) (flat_map coded_byte bytes) (coded bytes) c.print_pieces.result
    (coded_long bytes (omega (arith, long))) c.print_pieces.ensures.printed
