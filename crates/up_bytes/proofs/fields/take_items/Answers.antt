use Rattle.std.proofs.Common.{◌∙◌, [], sym, subst}
use Rattle.std.proofs.lemmas.Result.{err_from_is_err_and}
use Rattle.up_bytes.specs.Input.{Input}
use Rattle.up_bytes.specs.Reading.{items_at}
use Rattle.up_bytes.proofs.Parts.{ok_no_fault}
use Rattle.up_bytes.proofs.Repeated.{with_front, items_more, items_end, items_done, nothing_in_front}
use Rattle.up_bytes.proofs.fields.take_items.Goals as goal

pub returns-in_err-take-clause-exact : goal.returns-in_err-take-clause-exact
returns-in_err-take-clause-exact g c =
    let p = err_from_is_err_and c.from_residual.result c.from_residual.ensures.1 in
    let total = with_front [] (items_at g.T.Fields.read_at c.args.count c.args.input.now) in
    rw (p.1, p.2) (λ known.
    sym (nothing_in_front (items_at g.T.Fields.read_at c.args.count c.args.input.now))
    ∙ items_end g.T.Fields.read_at c.loop-taken.values.items c.args.count c.loop-taken.taken c.loop-taken.input _ total c.loop-taken-test.true (c.in_err-take.ensures.exact known) c.loop-taken.invariant.read)

pub loop-taken-preserved : goal.loop-taken-preserved
loop-taken-preserved g c =
    let total = with_front [] (items_at g.T.Fields.read_at c.args.count c.args.input.now) in
    let value = c.in_ok-take.field-0 in
    record {
      read = rw c.in_ok-push_next.ensures (items_more g.T.Fields.read_at c.loop-taken.values.items c.args.count c.loop-taken.taken c.loop-taken.input value c.take.new.input total c.loop-taken-test.true c.in_ok-take.ensures.exact c.loop-taken.invariant.read);
      none = λ fault first.
          let start = c.loop-taken.invariant.none fault first in
          absurd (ok_no_fault value fault (c.in_ok-take.ensures.first fault (subst (λ (i : Input). g.T.Fields.comes_first i fault) (sym start.1) first)));
    }

pub returns-clause-exact : goal.returns-clause-exact
returns-clause-exact g c =
    let total = with_front [] (items_at g.T.Fields.read_at c.args.count c.args.input.now) in
    rw c.from_vec.ensures
    (sym (nothing_in_front (items_at g.T.Fields.read_at c.args.count c.args.input.now))
    ∙ items_done g.T.Fields.read_at c.loop-taken.values.items c.args.count c.loop-taken.taken c.loop-taken.input total c.loop-taken-test.false c.loop-taken.invariant.read)
