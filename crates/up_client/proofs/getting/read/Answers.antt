use Rattle.up_client.specs.Getting.{blocks_in, joined_blocks}
use Rattle.up_client.specs.Talks.{done}
use Rattle.up_client.proofs.Exits.{blocks_answered, exit_done, exit_stop, exit_then}
use Rattle.up_client.proofs.getting.read.Goals as goal

pub returns-in_err-blocks : goal.returns-in_err-blocks
returns-in_err-blocks g c =
    let d = c.args.done in
    let a = c.args.ask.now in
    exit_stop g.A.Ask g.met.A.Ask.same g.met.A.Ask.joined (done (blocks_in d)) joined_blocks a a c.blocks_in.result c.in_err-blocks.field-0.0 c.from_residual.result
    (exit_done g.A.Ask g.met.A.Ask.same g.met.A.Ask.joined (blocks_in d) a c.blocks_in.result c.blocks_in.ensures (blocks_answered d)) c.in_err-blocks.was c.from_residual.ensures.1

pub returns : goal.returns
returns g c =
    let d = c.args.done in
    let a = c.args.ask.now in
    exit_then g.A.Ask g.met.A.Ask.same g.met.A.Ask.joined (done (blocks_in d)) joined_blocks a a c.read_blocks.new.ask c.blocks_in.result c.in_ok-blocks.blocks c.read_blocks.result
    (exit_done g.A.Ask g.met.A.Ask.same g.met.A.Ask.joined (blocks_in d) a c.blocks_in.result c.blocks_in.ensures (blocks_answered d)) c.in_ok-blocks.was
    (rw (← c.as_slice.ensures) c.read_blocks.ensures)
