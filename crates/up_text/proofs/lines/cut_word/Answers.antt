-- The pieces round the first space.
use Rattle.up_text.proofs.CutLemmas.{words-some, words-none}
use Rattle.up_text.proofs.lines.cut_word.Goals as goal

pub returns-in-Some-clause-words : goal.returns-in-Some-clause-words
returns-in-Some-clause-words c = words-some c.args.line.now c.in-Some.end c.in-Some.ensures

pub returns-in-None-clause-words : goal.returns-in-None-clause-words
returns-in-None-clause-words c = words-none c.args.line.now c.in-None.ensures
