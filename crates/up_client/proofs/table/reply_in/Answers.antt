use Rattle.up_client.proofs.Same.{one_request, two_requests}
use Rattle.up_client.proofs.Tabling.{tells_behind, tells_here}
use Rattle.up_client.proofs.table.reply_in.Goals as goal

pub returns-then-eq : goal.returns-then-eq
returns-then-eq c =
    tells_here c.args.rows.now c.loop-row.row-index c.row-item.result c.args.request.now c.copied.result
    c.loop-row-test.true c.row-item.is (one_request c.row-item.result.0 c.args.request.now c.eq.result c.eq.ensures c.if-eq.true) c.loop-row.invariant c.copied.ensures

pub loop-row-preserved : goal.loop-row-preserved
loop-row-preserved c =
    tells_behind c.args.rows.now c.loop-row.row-index c.row-item.result c.args.request.now
    c.loop-row-test.true c.row-item.is (two_requests c.row-item.result.0 c.args.request.now c.eq.result c.eq.ensures c.if-eq.false) c.loop-row.invariant
