use Rattle.up_text.proofs.ReplyLines.{lines_are_words}
use Rattle.up_text.proofs.laws.lines_are_words.Goals as goal

pub returns : goal.returns
returns c = lines_are_words
