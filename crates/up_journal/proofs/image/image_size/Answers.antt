use Rattle.std.proofs.Common.{sym, ◌∙◌}
use Rattle.up_journal.proofs.Copies.{size_next}
use Rattle.up_journal.proofs.image.image_size.Goals as goal

pub loop-n-preserved : goal.loop-n-preserved
loop-n-preserved c =
    let i = c.loop-n.invariant in
    let next = size_next c.args.limits c.args.spans.now c.loop-n.n c.loop-n.gate (record { at = 0; size = 0 }) c.requires c.loop-n-test.true i.place i.kept (sym c.if-is_full.false ∙ c.is_full.ensures) in
    record { place = next.0; small = next.1; kept = next.2 }
