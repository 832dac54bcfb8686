use Rattle.up_keys.specs.Answers.{to_put}
use Rattle.up_keys.proofs.Putting.{refused}
use Rattle.up_keys.proofs.step.put.Goals as goal

pub returns-in-Err-clause-steps : goal.returns-in-Err-clause-steps
returns-in-Err-clause-steps g c =
    refused g.D.Disk g.met.D.Disk.only_now c.args.keys.now c.position-position.ensures.safe (to_put c.args.user.now c.args.card.now) c.in-Err.refusal c.in-Err.ensures.0
