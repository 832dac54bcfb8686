-- A word without a mark is empty, `-` or stands for itself.
use Rattle.std.proofs.Common.{◌≡◌, ◌≢◌, ◌∙◌, ◌-◌, sym, ap, arith, length, take, drop, Some, true, false, bytes_eq, [], ◌∷◌}
use Rattle.std.proofs.lemmas.Bool.{eqb-true, eqb-false}
use Rattle.up_text.proofs.WordLemmas.{decoded-empty, decoded-dash, decoded-unmarked, is_dash, not-dash}
use Rattle.up_text.proofs.words.word_text.Goals as goal

pub returns-then-is_empty-clause-text : goal.returns-then-is_empty-clause-text
returns-then-is_empty-clause-text c =
    let word = c.args.word.now in
    sym (decoded-empty word (eqb-true (length word) 0 (sym c.is_empty.ensures ∙ c.if-is_empty.true)))

pub returns-then-eq-clause-text : goal.returns-then-eq-clause-text
returns-then-eq-clause-text c =
    let word = c.args.word.now in
    let test : bytes_eq word (45 ∷ []) ≡ true = ap (bytes_eq word) (sym c.as_slice.ensures) ∙ (sym c.eq.ensures ∙ c.if-eq.true) in
    let is = is_dash word test in
    ap (λ w. Some (take (length w - 1) (drop 1 w))) is ∙ sym (decoded-dash word is)

pub returns-clause-text : goal.returns-clause-text
returns-clause-text c =
    let word = c.args.word.now in
    let some : length word ≢ 0 = eqb-false (length word) 0 (sym c.is_empty.ensures ∙ c.if-is_empty.false) in
    let test : bytes_eq word (45 ∷ []) ≡ false = ap (bytes_eq word) (sym c.as_slice.ensures) ∙ (sym c.eq.ensures ∙ c.if-eq.false) in
    sym (decoded-unmarked word (sym c.has_marks.ensures ∙ c.if-has_marks.false) (omega arith) (not-dash word test))
