-- The word of a text is read as that text.
use Rattle.up_text.proofs.CodeLemmas.{decoded-coded}
use Rattle.up_text.proofs.words.push_word.Goals as goal

pub returns-then-is_err-clause-read_again : goal.returns-then-is_err-clause-read_again
returns-then-is_err-clause-read_again c = decoded-coded c.args.text.now

pub returns-else-is_err-clause-read_again : goal.returns-else-is_err-clause-read_again
returns-else-is_err-clause-read_again c = decoded-coded c.args.text.now
