-- A record was held, or was put, or was refused.
use Rattle.std.proofs.Common.{Err, rules, subst, sym}
use Rattle.up_serve.specs.Enrolling.{PutsUser}
use Rattle.up_serve.proofs.EnrolLemmas.{user_held, user_put, user_refused}
use Rattle.up_serve.proofs.enrolling.put_user.Goals as goal

pub returns-then-is_some : goal.returns-then-is_some
returns-then-is_some g c = user_held g.D.Disk c.args.host.now c.args.card (search rules)

pub returns-in-Ok : goal.returns-in-Ok
returns-in-Ok g c = user_put g.D.Disk c.args.host.now c.enrol.new.self c.args.card c.in-Ok._position (search rules) c.in-Ok.ensures.enrols

pub returns-in-Err : goal.returns-in-Err
returns-in-Err g c =
    subst (λ why. PutsUser g.D.Disk c.args.card c.args.host.now c.enrol.new.self (Err why)) (sym c.stop_by.ensures)
    (user_refused g.D.Disk c.args.host.now c.enrol.new.self c.args.card c.in-Err.why (search rules) c.in-Err.ensures.enrols)
