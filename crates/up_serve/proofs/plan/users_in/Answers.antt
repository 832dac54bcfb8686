-- The value of each turn is the next one.
use Rattle.up_serve.proofs.ReadLemmas.{read_step}
use Rattle.up_serve.proofs.plan.users_in.Goals as goal

pub loop-value-preserved : goal.loop-value-preserved
loop-value-preserved c = read_step c.loop-value.invariant c.in-Some.ensures.some c.in_ok-add_user.ensures c.if-not-branch.false
