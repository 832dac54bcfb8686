use Rattle.up_client.specs.Links.{leads_to, next_to, step_of}
use Rattle.up_client.proofs.Steps.{meant_stop, meant_then}
use Rattle.up_client.proofs.links.step_from.Goals as goal

pub returns-in-Ok : goal.returns-in-Ok
returns-in-Ok c =
    meant_then (next_to c.args.more (leads_to c.args.path.now c.args.reply)) (step_of c.args.reply) c.in-Ok.next c.step_of.result c.in-Ok.ensures c.step_of.ensures

pub returns-in-Err : goal.returns-in-Err
returns-in-Err c =
    meant_stop (next_to c.args.more (leads_to c.args.path.now c.args.reply)) (step_of c.args.reply) c.in-Err.fault c.in-Err.ensures
