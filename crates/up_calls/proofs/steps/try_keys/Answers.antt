use Rattle.up_calls.proofs.KeysDone.{keys_done}
use Rattle.up_calls.proofs.SettledLemmas.{keys_settled}
use Rattle.up_calls.proofs.steps.try_keys.Goals as goal

pub returns-clause-tried : goal.returns-clause-tried
returns-clause-tried g c = record {
  done = keys_done g.D.Disk c.args.state.now c.key_step.new.keys c.args.user.now c.args.request.now c.key_step.result c.key_step.ensures.steps;
  rose = c.key_step.ensures.cause.rose;
  quiet = c.key_step.ensures.quiet;
  stays = keys_settled g.D.Disk c.args.user.now c.args.request.now c.args.state.now c.key_step.new.keys c.key_step.result c.key_step.ensures.steps;
  position_is = c.position-position.ensures.count;
}
