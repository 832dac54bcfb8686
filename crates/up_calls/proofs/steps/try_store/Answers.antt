use Rattle.up_calls.proofs.SettledLemmas.{store_settled}
use Rattle.up_calls.proofs.StoreDone.{store_done}
use Rattle.up_calls.proofs.steps.try_store.Goals as goal

pub returns-clause-tried : goal.returns-clause-tried
returns-clause-tried g c = record {
  done = store_done g.D.Disk c.args.state.now c.store_step.new.blocks c.position-position.ensures.told c.args.operator.now c.args.user.now c.args.request.now c.store_step.result c.store_step.ensures.steps;
  rose = c.store_step.ensures.cause.rose;
  quiet = c.store_step.ensures.quiet;
  stays = store_settled g.D.Disk c.args.operator.now c.args.user.now c.args.request.now c.args.state.now c.store_step.new.blocks c.store_step.result c.store_step.ensures.steps;
  position_is = c.position-position.ensures.count;
}
