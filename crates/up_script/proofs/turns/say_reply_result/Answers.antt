use Rattle.up_script.specs.Scripts.{LineDid, result_of_reply}
use Rattle.up_script.proofs.TurnLemmas.{replied_so, says}
use Rattle.up_script.proofs.turns.say_reply_result.Goals as goal

pub returns : goal.returns
returns c =
    says (result_of_reply c.args.number c.args.reply.now) (LineDid.Replied c.args.number c.args.reply.now) c.args.out.now.items c.say_reply.new.out.items (replied_so c.args.number c.args.reply.now c.in_default.not-OutOfMemory) c.in_ok-say_reply.ensures
