use Rattle.up_laws.specs.Turns.{turn_by}
use Rattle.up_laws.proofs.TurnLemmas.{is_made}
use Rattle.up_laws.proofs.turns.make.Goals as goal

pub returns : goal.returns
returns g c =
    is_made g.D.Disk (turn_by c.args.user.now c.args.request.now c.args.loaded.now c.args.fetched.now c.args.now) c.args.state.now c.step.new.state c.step.result c.recall.ensures.log c.step.ensures.steps c.step.ensures.grows c.step.ensures.crash
