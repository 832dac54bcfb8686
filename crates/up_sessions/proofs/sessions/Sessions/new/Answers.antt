use Rattle.up_sessions.proofs.KeptLemmas.{kept_start}
use Rattle.up_sessions.proofs.sessions.Sessions.new.Goals as goal

pub invariant_of-result : goal.invariant_of-result
invariant_of-result g c = kept_start c.new.result.items c.in-Ok.sessions.items c.args.disks.spare c.new.ensures.items c.in-Ok.ensures
