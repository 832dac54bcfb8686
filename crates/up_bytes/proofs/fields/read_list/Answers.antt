use Rattle.std.proofs.Common.{◌∙◌, ℕ, suc, ap, sym, subst}
use Rattle.std.proofs.lemmas.Result.{err_from_is_err_and}
use Rattle.up_bytes.specs.Input.{Input}
use Rattle.up_bytes.specs.Reading.{num_at}
use Rattle.up_bytes.proofs.Forms.{ok_is}
use Rattle.up_bytes.proofs.Parts.{ok_no_fault}
use Rattle.up_bytes.proofs.fields.read_list.Goals as goal

pub returns-in_err-values-clause-first : goal.returns-in_err-values-clause-first
returns-in_err-values-clause-first g c = λ n rest fault number first.
    let p = err_from_is_err_and c.from_residual-in_err-values.result c.from_residual-in_err-values.ensures.1 in
    let same = ok_is (c.in_ok-count.count, c.num.new.self) (suc n, rest) (sym c.in_ok-count.ensures.exact ∙ ap num_at c.fork-ahead.ensures.same ∙ number) in
    rw (p.1, p.2) (c.in_err-values.ensures.first n fault (ap (λ (x : ℕ × Input). x.0) same) (subst (λ (x : ℕ × Input). g.T.Fields.comes_first x.1 fault) (sym same) first))

pub returns-clause-first : goal.returns-clause-first
returns-clause-first g c = λ n rest fault number first.
    let same = ok_is (c.in_ok-count.count, c.num.new.self) (suc n, rest) (sym c.in_ok-count.ensures.exact ∙ ap num_at c.fork-ahead.ensures.same ∙ number) in
    absurd (ok_no_fault c.in_ok-values.values fault (c.in_ok-values.ensures.first n fault (ap (λ (x : ℕ × Input). x.0) same) (subst (λ (x : ℕ × Input). g.T.Fields.comes_first x.1 fault) (sym same) first)))
