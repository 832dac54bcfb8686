-- The answer of `memchr2` tells whether there is a space or LF.
use Rattle.std.proofs.Common.{◌∙◌}
use Rattle.up_text.specs.Words.{ends_word}
use Rattle.up_text.proofs.WordLemmas.{any-from_first}
use Rattle.up_text.proofs.words.has_end.Goals as goal

pub returns : goal.returns
returns c =
    c.is_some.ensures ∙ any-from_first ends_word c.args.word.now c.memchr2.result c.memchr2.ensures
