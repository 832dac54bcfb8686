-- The word by the kind of the text: empty, `-`, with a coded byte, without one.
use Rattle.std.proofs.Common.{◌≡◌, ◌≢◌, ◌∙◌, sym, ap, arith, rules, length, true, false, bytes_eq, [], ◌∷◌}
use Rattle.std.proofs.lemmas.Bool.{eqb-true, eqb-false}
use Rattle.up_text.proofs.WordLemmas.{is_dash, not-dash}
use Rattle.up_text.proofs.CodeLemmas.{coded-empty, coded-dash, coded-other, flat_map-plain}
use Rattle.up_text.proofs.words.push_coded.Goals as goal

pub returns-then-is_empty-clause-ok : goal.returns-then-is_empty-clause-ok
returns-then-is_empty-clause-ok c =
    let text = c.args.text.now in
    rw (coded-empty text (eqb-true (length text) 0 (sym c.is_empty.ensures ∙ c.if-is_empty.true))) (search rules)

pub returns-then-eq-clause-ok : goal.returns-then-eq-clause-ok
returns-then-eq-clause-ok c =
    let text = c.args.text.now in
    let test : bytes_eq text (45 ∷ []) ≡ true = ap (bytes_eq text) (sym c.as_slice.ensures) ∙ (sym c.eq.ensures ∙ c.if-eq.true) in
    rw (coded-dash text (is_dash text test)) (search rules)

pub returns-then-has_coded-clause-ok : goal.returns-then-has_coded-clause-ok
returns-then-has_coded-clause-ok c =
    let text = c.args.text.now in
    let some : length text ≢ 0 = eqb-false (length text) 0 (sym c.is_empty.ensures ∙ c.if-is_empty.false) in
    let test : bytes_eq text (45 ∷ []) ≡ false = ap (bytes_eq text) (sym c.as_slice.ensures) ∙ (sym c.eq.ensures ∙ c.if-eq.false) in
    rw (coded-other text (omega arith) (not-dash text test)) (search rules)

pub returns-else-has_coded-clause-ok : goal.returns-else-has_coded-clause-ok
returns-else-has_coded-clause-ok c =
    let text = c.args.text.now in
    let some : length text ≢ 0 = eqb-false (length text) 0 (sym c.is_empty.ensures ∙ c.if-is_empty.false) in
    let test : bytes_eq text (45 ∷ []) ≡ false = ap (bytes_eq text) (sym c.as_slice.ensures) ∙ (sym c.eq.ensures ∙ c.if-eq.false) in
    let plain = flat_map-plain text (sym c.has_coded.ensures ∙ c.if-has_coded.false) in
    rw (coded-other text (omega arith) (not-dash text test) ∙ plain) (search rules)
