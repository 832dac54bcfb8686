use Rattle.up_lists.proofs.Causes.{HasCause-weaker, StaysUnless-more}
use Rattle.up_sessions.proofs.signing.session_of.Goals as goal

pub returns-in-Ok-clause-counts : goal.returns-in-Ok-clause-counts
returns-in-Ok-clause-counts g c = HasCause-weaker _ _ _ _ c.prove.ensures.counts (λ is. absurd (cc))

pub returns-in-Ok-clause-quiet : goal.returns-in-Ok-clause-quiet
returns-in-Ok-clause-quiet g c = StaysUnless-more _ _ _ _ c.prove.ensures.quiet (λ is. absurd (cc))
