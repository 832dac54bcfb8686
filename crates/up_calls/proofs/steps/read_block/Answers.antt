use Rattle.up_calls.proofs.StateLemmas.{block_quiet, block_read}
use Rattle.up_calls.proofs.steps.read_block.Goals as goal

pub returns-clause-given : goal.returns-clause-given
returns-clause-given g c =
    block_read g.D.Disk c.args.state.now c.get.new.self c.args.reference.now c.position-position.ensures.told c.get.result c.get.ensures.gives c.fetched_as.result c.fetched_as.ensures

pub returns-clause-quiet : goal.returns-clause-quiet
returns-clause-quiet g c =
    block_quiet (g.D.Disk.faults c.args.state.now.disk) (g.D.Disk.faults c.get.new.self.disk) c.get.result c.fetched_as.result c.fetched_as.ensures c.get.ensures.quiet
