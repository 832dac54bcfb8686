use Rattle.std.proofs.Common.{◌∙◌, ap, Ok}
use Rattle.up_commit.proofs.StepLemmas.{steps_refused}
use Rattle.up_commit.proofs.adding.change.Goals as goal

pub returns-in-Ok-Err-clause-steps : goal.returns-in-Ok-Err-clause-steps
returns-in-Ok-Err-clause-steps g c = steps_refused g.D.Disk c.in-Ok-Err.refusal c.args.state.now c.bounded.result c.args.led (c.in-Ok-Err.is ∙ ap Ok c.in-Ok-Err.field-0-is) c.bounded.ensures
