use Rattle.std.proofs.Common.{Ok, ap}
use Rattle.up_script.specs.Scripts.{LineDid, result_of_get}
use Rattle.up_script.proofs.TurnLemmas.{got_failed, says}
use Rattle.up_script.proofs.turns.say_get_result.Goals as goal

pub returns-in_ok-say_call_done-in-Ok : goal.returns-in_ok-say_call_done-in-Ok
returns-in_ok-say_call_done-in-Ok c =
    says (result_of_get c.args.number c.args.outcome) (LineDid.Got c.args.number (Ok c.in-Ok.bytes)) c.args.out.now.items c.say_call_done.new.out.items (ap (result_of_get c.args.number) c.in-Ok.is) c.in_ok-say_call_done-in-Ok.ensures

pub returns-in-Err : goal.returns-in-Err
returns-in-Err c =
    got_failed c.args.number c.in-Err.fault c.args.outcome c.args.out.now.items c.say_call_failed-said.new.out.items c.say_call_failed-said.result c.in-Err.is c.say_call_failed-said.ensures.said c.say_call_failed-said.ensures.wanting
