use Rattle.std.proofs.Common.{rules}
use Rattle.up_shared.proofs.Telling.{quiet_at, risen_at}
use Rattle.up_shared.specs.Callers.{sits_later}
use Rattle.up_shared.proofs.shared.Shared.ask.Goals as goal

pub returns-clause-risen : goal.returns-clause-risen
returns-clause-risen g c =
    risen_at g.L.Loader.faults (g.L.Loader.faults c.args.loader.now) c.args.seats.now c.ask.new.logs.seats.now _ c.ask.new.loader _ c.user.result.now c.args.session.now.user c.args.request.now c.ask.result
    c.ask.ensures.risen (search rules) (search rules) (search rules)

pub returns-clause-sits : goal.returns-clause-sits
returns-clause-sits g c = sits_later c.args.self.now c.args.seats.now _ (search rules) c.requires.sits

pub returns-clause-quiet : goal.returns-clause-quiet
returns-clause-quiet g c =
    quiet_at g.D.Disk c.args.seats.now c.ask.new.logs.seats.now _ c.user.result.now c.args.session.now.user c.args.request.now c.ask.result c.ask.ensures.quiet (search rules) (search rules)
