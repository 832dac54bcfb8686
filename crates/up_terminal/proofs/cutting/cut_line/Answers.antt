-- The bytes round the first LF.
use Rattle.std.proofs.Common.{◌++◌, ◌∷◌, length, sym, ap, subst, ◌∙◌, arith}
use Rattle.std.specs.List.{after_first}
use Rattle.up_text.specs.Lines.{is_line_end}
use Rattle.up_terminal.proofs.CutLemmas.{IsUnbroken, before_is_unbroken, cut_at, no_cut}
use Rattle.up_terminal.proofs.cutting.cut_line.Goals as goal

pub returns-then-line-bytes-clause-none : goal.returns-then-line-bytes-clause-none
returns-then-line-bytes-clause-none c = no_cut c.args.bytes.now (let same = ap length c.in_ok-line.ensures.line in omega (arith, same, c.if-line-bytes.true))

pub returns-clause-cut : goal.returns-clause-cut
returns-clause-cut c =
    let bytes = c.args.bytes.now in
    cut_at bytes (λ all. c.if-line-bytes.false (let same = ap length c.in_ok-line.ensures.line in omega (arith, same, all)))
    ∙ ap (λ line. line ++ 10 ∷ after_first is_line_end bytes) (sym c.in_ok-line.ensures.line)
    ∙ ap (λ behind. c.in_ok-line.line.now ++ 10 ∷ behind) (sym c.in_ok-line.ensures.rest)

pub returns-clause-unbroken : goal.returns-clause-unbroken
returns-clause-unbroken c = subst IsUnbroken (sym c.in_ok-line.ensures.line) (before_is_unbroken c.args.bytes.now)
