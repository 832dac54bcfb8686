-- The first line of a reply, and those behind it.
use Rattle.std.proofs.Common.{rules}
use Rattle.up_text.proofs.PushLemmas.{all_pushed, none_pushed, then_ok}
use Rattle.up_text.proofs.replies.push_reply.Goals as goal

pub returns-in-OutOfMemory : goal.returns-in-OutOfMemory
returns-in-OutOfMemory c = none_pushed c.args.front.now c.args.reply.now c.args.out.now.items c.in-OutOfMemory.is

pub returns : goal.returns
returns c =
    then_ok c.push_further.result (all_pushed c.args.front.now c.args.reply.now c.args.out.now.items c.extend_from_slice.new.self.items c.add_first.new.out.items c.push.new.self.items c.push_further.new.out.items
    c.in_default.not-OutOfMemory (search rules) c.in_ok-add_first.ensures (search rules)) c.push_further.ensures
