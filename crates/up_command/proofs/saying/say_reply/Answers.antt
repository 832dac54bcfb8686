-- The lines of a reply, each behind the session's number.
use Rattle.std.proofs.Common.{rules}
use Rattle.up_command.proofs.SayLemmas.{lines_numbered}
use Rattle.up_command.proofs.saying.say_reply.Goals as goal
use Rattle.up_text.proofs.PushLemmas.{then_ok}
use Rattle.up_text.specs.Replies.{reply_lines}

pub returns : goal.returns
returns c =
    then_ok c.push_reply.result (lines_numbered c.args.number c.as_slice.result.now c.args.out.now.items c.push_reply.new.out.items (reply_lines c.args.reply.now) (search rules)) c.push_reply.ensures
