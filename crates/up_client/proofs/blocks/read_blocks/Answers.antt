use Rattle.std.proofs.Common.{[], Ok, ap}
use Rattle.std.specs.List.{concat}
use Rattle.up_client.specs.Getting.{fetching}
use Rattle.up_client.specs.Talks.{done}
use Rattle.up_client.proofs.Exits.{exit_stop, exit_then, exit_wanting, exit_with}
use Rattle.up_client.proofs.blocks.read_blocks.Goals as goal

pub returns-in_err-pieces : goal.returns-in_err-pieces
returns-in_err-pieces g c =
    exit_stop g.A.Ask g.met.A.Ask.same g.met.A.Ask.joined (fetching 0 c.args.blocks.now []) (λ read. done (Ok (concat read)))
    c.args.ask.now c.fetch_all.new.ask c.fetch_all.result c.in_err-pieces.field-0.0 c.from_residual.result c.fetch_all.ensures c.in_err-pieces.was c.from_residual.ensures.1

pub returns-in_err-join : goal.returns-in_err-join
returns-in_err-join g c =
    let read = c.in_ok-pieces.pieces in
    exit_then g.A.Ask g.met.A.Ask.same g.met.A.Ask.joined (fetching 0 c.args.blocks.now []) (λ read. done (Ok (concat read)))
    c.args.ask.now c.fetch_all.new.ask c.fetch_all.new.ask c.fetch_all.result read c.from_residual-in_err-join.result c.fetch_all.ensures c.in_ok-pieces.was
    (exit_wanting g.A.Ask g.met.A.Ask.same g.met.A.Ask.joined (done (Ok (concat read))) c.fetch_all.new.ask c.from_residual-in_err-join.result c.from_residual-in_err-join.ensures.1)

pub returns : goal.returns
returns g c =
    let read = c.in_ok-pieces.pieces in
    exit_with g.A.Ask g.met.A.Ask.same g.met.A.Ask.joined (fetching 0 c.args.blocks.now []) (λ read. Ok (concat read))
    c.args.ask.now c.fetch_all.new.ask c.fetch_all.result read (Ok c.in_ok-join.field-0) c.fetch_all.ensures c.in_ok-pieces.was (ap Ok c.in_ok-join.ensures) (λ failed. cc)
