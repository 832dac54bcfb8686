-- The answer of `memchr3` tells whether there is a mark.
use Rattle.std.proofs.Common.{◌∙◌}
use Rattle.up_text.proofs.WordLemmas.{any-from_first, is_mark}
use Rattle.up_text.proofs.words.has_marks.Goals as goal

pub returns : goal.returns
returns c =
    c.is_some.ensures ∙ any-from_first is_mark c.args.word.now c.memchr3.result c.memchr3.ensures
