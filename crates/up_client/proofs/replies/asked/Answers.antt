use Rattle.std.proofs.Common.{refl}
use Rattle.up_lists.proofs.Causes.{HasCause-weaker, StaysUnless-more}
use Rattle.up_client.specs.Talks.{ended, heard, unanswered}
use Rattle.up_client.proofs.replies.asked.Goals as goal

pub returns-in-Ok : goal.returns-in-Ok
returns-in-Ok g c = record {
  held = heard c.in-Ok.reply c.in-Ok.ensures.given ended;
  cause = HasCause-weaker _ _ _ _ c.in-Ok.ensures.cause (λ failed. cc);
  quiet = StaysUnless-more _ _ _ _ c.in-Ok.ensures.quiet (λ failed. absurd (cc));
  tie = c.in-Ok.ensures.tie;
}

pub returns-in-Err : goal.returns-in-Err
returns-in-Err g c = record {
  held = unanswered c.in-Err.ensures.given;
  cause = HasCause-weaker _ _ _ _ c.in-Err.ensures.cause (λ failed. refl);
  quiet = StaysUnless-more _ _ _ _ c.in-Err.ensures.quiet (λ failed. refl);
  tie = c.in-Err.ensures.tie;
}
