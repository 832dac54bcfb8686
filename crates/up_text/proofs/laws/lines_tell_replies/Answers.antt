use Rattle.up_text.proofs.ReplyLines.{lines_tell_replies}
use Rattle.up_text.proofs.laws.lines_tell_replies.Goals as goal

pub returns : goal.returns
returns c = lines_tell_replies
