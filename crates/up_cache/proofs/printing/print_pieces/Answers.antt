use Rattle.std.proofs.Common.{◌∙◌}
use Rattle.up_cache.proofs.Printings.{pieces_more, pieces_stop}
use Rattle.up_cache.proofs.printing.print_pieces.Goals as goal

pub loop-rest-preserved : goal.loop-rest-preserved
loop-rest-preserved g c = record {
  so =
      pieces_more (g.K.Sink.held c.args.sink.now) (g.K.Sink.held c.loop-rest.sink) (g.K.Sink.held c.print_piece.new.sink) c.args.bytes.now c.loop-rest.rest.now c.first_piece.result.0.now c.first_piece.result.1.now
      c.loop-rest.invariant.so c.first_piece.ensures.whole c.in-Ok.ensures.printed;
  written = c.print_piece.ensures.quiet.stays (λ is. cc) ∙ c.loop-rest.invariant.written;
}

pub returns-in-Err-clause-printed : goal.returns-in-Err-clause-printed
returns-in-Err-clause-printed g c =
    pieces_stop (g.K.Sink.held c.args.sink.now) (g.K.Sink.held c.loop-rest.sink) (g.K.Sink.held c.print_piece.new.sink) c.args.bytes.now c.loop-rest.rest.now c.first_piece.result.0.now c.first_piece.result.1.now c.in-Err.why
    c.loop-rest.invariant.so c.first_piece.ensures.whole c.in-Err.ensures.printed
