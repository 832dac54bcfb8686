use Rattle.std.proofs.Common.{◌∙◌, [], sym}
use Rattle.std.proofs.lemmas.Result.{err_from_is_err_and}
use Rattle.up_bytes.specs.Reading.{items_at, text_at}
use Rattle.up_bytes.proofs.Repeated.{with_front, items_more, items_end, items_done, nothing_in_front}
use Rattle.up_feed_wire.proofs.texts.take_items.Goals as goal

pub returns-in_err-text : goal.returns-in_err-text
returns-in_err-text c =
    let p = err_from_is_err_and c.from_residual.result c.from_residual.ensures.1 in
    let total = with_front [] (items_at text_at c.args.count c.args.input.now) in
    rw (p.1, p.2) (λ known.
    sym (nothing_in_front (items_at text_at c.args.count c.args.input.now))
    ∙ items_end text_at c.loop.texts c.args.count c.loop.counter c.loop.input _ total c.loop-test.true (c.in_err-text.ensures.exact known) c.loop.invariant)

pub loop-preserved : goal.loop-preserved
loop-preserved c =
    let total = with_front [] (items_at text_at c.args.count c.args.input.now) in
    rw c.in_ok-push.ensures.items (items_more text_at c.loop.texts c.args.count c.loop.counter c.loop.input c.in_ok-text.field-0 c.text.new.self total c.loop-test.true c.in_ok-text.ensures.exact c.loop.invariant)

pub returns : goal.returns
returns c =
    let total = with_front [] (items_at text_at c.args.count c.args.input.now) in
    sym (nothing_in_front (items_at text_at c.args.count c.args.input.now))
    ∙ items_done text_at c.loop.texts c.args.count c.loop.counter c.loop.input total c.loop-test.false c.loop.invariant
