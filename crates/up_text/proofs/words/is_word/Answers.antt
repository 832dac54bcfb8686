-- Whether a word with a mark, and one without, stands for a text.
use Rattle.std.proofs.Common.{◌∙◌, sym, ap, not}
use Rattle.up_text.proofs.FitLemmas.{fits-ended, fits-marked, fits-unmarked}
use Rattle.up_text.proofs.words.is_word.Goals as goal

pub returns-then-not-has_end : goal.returns-then-not-has_end
returns-then-not-has_end c =
    c.has_pairs.ensures ∙ sym (fits-marked c.args.word.now (sym c.has_marks.ensures ∙ c.if-has_marks.true) (sym c.has_end.ensures ∙ c.if-not-has_end.true))

pub returns-else-not-has_end : goal.returns-else-not-has_end
returns-else-not-has_end c =
    ap not c.if-not-has_end.false ∙ sym (fits-ended c.args.word.now (sym c.has_end.ensures ∙ c.if-not-has_end.false))

pub returns : goal.returns
returns c =
    ap not c.is_empty.ensures ∙ sym (fits-unmarked c.args.word.now (sym c.has_marks.ensures ∙ c.if-has_marks.false))
