use Rattle.std.proofs.Common.{inl}
use Rattle.up_journal.proofs.Moving.{was_synced}
use Rattle.up_journal.proofs.moves.migrate.Goals as goal

pub returns-clause-synced : goal.returns-clause-synced
returns-clause-synced g c = inl (was_synced g.D.Disk c.args.old.now c.sync.new.self c.copy.new.old c.sync.ensures.content c.in_ok-sync.ensures.durable c.sync.ensures.time.later c.copy.ensures.old_stays)
