-- Enrolling stopped.
use Rattle.std.proofs.Common.{◌≤◌, None, arith, length, refl}
use Rattle.up_command.specs.Statuses.{input_limit}
use Rattle.up_serve.proofs.ServeLemmas.{causes_given_back, quiet_given_back, was_stopped}
use Rattle.up_serve.proofs.serve.serve_plan.Goals as goal

pub returns-clause-serves : goal.returns-clause-serves
returns-clause-serves g c =
    let within = c.in-Ok-read_script.ensures.within in
    let len = c.deref.ensures.len in
    let few : length c.deref.result.now ≤ input_limit = omega (arith, within, len) in
    was_stopped c.in-Ok.ensures.opens c.deref.ensures.value c.in-Ok-read_script.ensures.bytes few c.in-Err-enrol_users.ensures c.stop.ensures.disks c.stop.ensures.answers

pub returns-in-Err-read_script-clause-causes : goal.returns-in-Err-read_script-clause-causes
returns-in-Err-read_script-clause-causes g c =
    let e = c.read_script.ensures in
    causes_given_back _ _ _ _ _ _ _ c.give_back.result.status c.in-Err-read_script.status c.read_script.result c.give_back.ensures.status c.in-Err-read_script.is c.in-Err-read_script.ensures.statuses e.fault e.told_long e.long e.counts refl

pub returns-in-Err-read_script-clause-source_quiet :
    goal.returns-in-Err-read_script-clause-source_quiet
returns-in-Err-read_script-clause-source_quiet g c =
    quiet_given_back 0 0 _ _ 0 0 None c.give_back.result.status c.in-Err-read_script.status c.read_script.result c.give_back.ensures.status c.in-Err-read_script.is c.read_script.ensures.quiet
