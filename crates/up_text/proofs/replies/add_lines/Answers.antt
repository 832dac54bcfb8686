-- The first line of a reply, and those behind it.
use Rattle.std.proofs.Common.{◌∙◌, ap, ◌++◌}
use Rattle.up_text.specs.Replies.{first_text, reply_words}
use Rattle.up_text.proofs.PushLemmas.{all_added, none_added, then_ok}
use Rattle.up_text.proofs.replies.add_lines.Goals as goal

pub returns-in-OutOfMemory : goal.returns-in-OutOfMemory
returns-in-OutOfMemory c = none_added c.args.reply.now c.args.lines.now.items c.in-OutOfMemory.is

pub returns : goal.returns
returns c =
    then_ok c.add_further.result (all_added c.args.reply.now c.args.lines.now.items c.add_line.new.lines.items c.add_further.new.lines.items c.add_first.new.out.items c.in_default.not-OutOfMemory
    (c.in_ok-add_first.ensures ∙ ap (λ t. t ++ first_text (reply_words c.args.reply.now)) c.new-line.ensures.items) c.in_ok-add_line.ensures) c.add_further.ensures
