use Rattle.up_dir.proofs.CrashLemmas.{survives}
use Rattle.up_dir.proofs.answering.step.Goals as goal

pub returns-clause-crash : goal.returns-clause-crash
returns-clause-crash g c = survives g.D.Disk g.met.D.Disk.only_now _ _ c.args.state.now _ c.step_request-said.result c.step_request-said.ensures.steps c.recall.ensures.safe
