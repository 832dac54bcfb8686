use Rattle.up_shared.specs.Sharing.{AreSeats}
use Rattle.up_trial_together.proofs.CallerLemmas.{each_more}
use Rattle.up_trial_together.proofs.callers.add_caller.Goals as goal

pub returns-clause-each : goal.returns-clause-each
returns-clause-each g c =
    each_more (λ caller. AreSeats c.args.shared.now caller.seats) c.args.callers.now.items _ _ c.in_ok-push.ensures.items c.requires.each c.in-Ok.ensures.other
