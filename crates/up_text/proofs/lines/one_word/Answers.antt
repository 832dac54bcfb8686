-- A line that goes on behind its first word has two words at least.
use Rattle.std.proofs.Common.{arith, ap, length, option_copied}
use Rattle.up_text.specs.Lines.{words_left}
use Rattle.up_text.proofs.CutLemmas.{some-words}
use Rattle.up_text.proofs.lines.one_word.Goals as goal

pub returns-in_default-Some-clause-none : goal.returns-in_default-Some-clause-none
returns-in_default-Some-clause-none c = λ one.
    let left = ap (λ rest. length (words_left (option_copied rest))) c.in_ok-rest.was in
    let cut = ap length c.cut_word.ensures.words in
    let behind = ap (λ rest. length (words_left (option_copied rest))) c.in_default-Some.is-1 in
    omega (arith, left, cut, behind, some-words c.in_default-Some.field-0-1.now)
