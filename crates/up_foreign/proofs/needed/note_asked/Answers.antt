use Rattle.up_foreign.proofs.ReachLemmas.{nothing_added}
use Rattle.up_foreign.proofs.needed.note_asked.Goals as goal

-- nothing is needed
pub returns-then-needs_nothing-clause-added : goal.returns-then-needs_nothing-clause-added
returns-then-needs_nothing-clause-added c = λ limits.
    nothing_added c.args.tree.now c.args.loaded.now (c.needs_nothing.ensures c.if-needs_nothing.true) limits c.args.user.now c.args.asked.now c.args.names.now
