use Rattle.up_foreign.specs.Foreign.{needed_in}
use Rattle.up_foreign.proofs.EventLemmas.{events_noted_ok}
use Rattle.up_foreign.proofs.needed.note_events.Goals as goal

pub returns : goal.returns
returns c = λ limits.
    events_noted_ok c.note_positions.result c.args.tree.now c.recall.ensures.log (needed_in c.args.tree.now.owner c.args.loaded.now) c.args.above c.args.path.now c.positions_under-positions.result.now
    c.args.names.now c.note_positions.new.names limits c.positions_under-positions.ensures c.note_positions.ensures
