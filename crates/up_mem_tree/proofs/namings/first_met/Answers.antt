use Rattle.std.proofs.Common.{arith}
use Rattle.std.proofs.lemmas.Option.{slice_get-get_or}
use Rattle.up_mem_tree.proofs.Meeting.{first_all, first_next}
use Rattle.up_mem_tree.proofs.namings.first_met.Goals as goal

pub loop-text-preserved : goal.loop-text-preserved
loop-text-preserved c =
    first_next c.args.kept.now.log.items c.args.texts.now c.loop-text.text-index _ c.args.path.now c.args.above c.loop-text.first c.first_of-next.result c.earlier-first.result (slice_get-get_or c.args.texts.now c.loop-text.text-index (record { by = 0; until = 0 }) c.loop-text-test.true)
    c.earlier-first.ensures.one c.earlier-first.ensures.other c.loop-text.invariant c.first_of-next.ensures

pub returns : goal.returns
returns c = first_all c.args.kept.now.log.items c.args.texts.now c.loop-text.text-index c.args.path.now c.args.above c.loop-text.first (omega (arith, c.loop-text-test.false)) c.loop-text.invariant
