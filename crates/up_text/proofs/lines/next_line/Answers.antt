-- The lines round the first LF.
use Rattle.std.proofs.Common.{sym, ◌∙◌, ap, arith, take, drop, length, ◌+◌, ◌≢◌}
use Rattle.std.proofs.lemmas.Bool.{eqb-true, eqb-false}
use Rattle.std.specs.List.{position_or_len}
use Rattle.std.proofs.lemmas.List.{take_rest, take_all, drop_all}
use Rattle.up_text.specs.Lines.{is_line_end}
use Rattle.up_text.proofs.CutLemmas.{lines-empty, lines-some, lines-none, position-some, position-none}
use Rattle.up_text.proofs.lines.next_line.Goals as goal

pub returns-then-is_empty-clause-no_line : goal.returns-then-is_empty-clause-no_line
returns-then-is_empty-clause-no_line c =
    let text = c.args.text.now in
    lines-empty text (eqb-true (length text) 0 (sym c.is_empty.ensures ∙ c.if-is_empty.true))

pub returns-in-Some-clause-lines : goal.returns-in-Some-clause-lines
returns-in-Some-clause-lines c = lines-some c.args.text.now c.in-Some.end c.in-Some.ensures

pub returns-in-Some-clause-line : goal.returns-in-Some-clause-line
returns-in-Some-clause-line c =
    let text = c.args.text.now in
    ap (λ n. take n text) (sym (position-some is_line_end text c.in-Some.end c.in-Some.ensures).0)

pub returns-in-Some-clause-rest : goal.returns-in-Some-clause-rest
returns-in-Some-clause-rest c =
    let text = c.args.text.now in
    rw take_rest (ap (λ n. drop (n + 1) text) (sym (position-some is_line_end text c.in-Some.end c.in-Some.ensures).0))

pub returns-in-None-clause-lines : goal.returns-in-None-clause-lines
returns-in-None-clause-lines c =
    let text = c.args.text.now in
    let some : length text ≢ 0 = eqb-false (length text) 0 (sym c.is_empty.ensures ∙ c.if-is_empty.false) in
    rw (take_rest, drop_all (length text) text (omega arith)) (lines-none text (omega arith) c.in-None.ensures)

pub returns-in-None-clause-line : goal.returns-in-None-clause-line
returns-in-None-clause-line c =
    let text = c.args.text.now in
    let is = position-none is_line_end text c.in-None.ensures in
    sym (take_all (position_or_len is_line_end text) text (omega arith))

pub returns-in-None-clause-rest : goal.returns-in-None-clause-rest
returns-in-None-clause-rest c =
    let text = c.args.text.now in
    let is = position-none is_line_end text c.in-None.ensures in
    rw (take_rest, drop_all (length text) text (omega arith)) (sym (drop_all (position_or_len is_line_end text + 1) text (omega arith)))
