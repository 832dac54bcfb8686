use Rattle.up_snap.proofs.AskedLemmas.{steps_asked, steps_faulty}
use Rattle.up_snap.proofs.step.snap_step.Goals as goal

pub returns-in-Ok-clause-steps : goal.returns-in-Ok-clause-steps
returns-in-Ok-clause-steps g c =
    steps_asked g.D.Disk c.args.state.now c.snap_asked-reply.new.state c.snap_asked-reply.result c.args.user.now c.args.request.now c.args.now c.in-Ok.asked c.in-Ok.ensures (c.requires.place c.in-Ok.asked c.in-Ok.ensures) c.snap_asked-reply.ensures.steps

pub returns-in-Err-clause-steps : goal.returns-in-Err-clause-steps
returns-in-Err-clause-steps g c =
    steps_faulty g.D.Disk c.args.state.now c.refused.result c.args.user.now c.args.request.now c.args.now c.in-Err.fault c.in-Err.ensures c.refused.ensures
