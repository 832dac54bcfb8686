use Rattle.std.proofs.Common.{inr, refl}
use Rattle.up_lists.proofs.Causes.{HasCause-weaker}
use Rattle.up_talk.proofs.outgoing.Outgoing.flush_full.Goals as goal

pub returns-in-Ok : goal.returns-in-Ok
returns-in-Ok g c = inr (c.in-Ok.ensures.none, c.in-Ok.ensures.whole, c.in-Ok.ensures.quiet.stays (λ failed. cc))

pub returns-in-Err : goal.returns-in-Err
returns-in-Err g c = (c.in-Err.ensures.none, c.in-Err.ensures.part, HasCause-weaker _ _ _ ⊥ c.in-Err.ensures.cause (λ failed. absurd failed), c.in-Err.ensures.cause.rose refl)
