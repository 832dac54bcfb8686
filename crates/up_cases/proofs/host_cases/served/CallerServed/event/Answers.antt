use Rattle.up_together.proofs.SittingLemmas.{sits_by_marks}
use Rattle.up_cases.proofs.host_cases.served.CallerServed.event.Goals as goal

pub ask-requires-clause-sits : goal.ask-requires-clause-sits
ask-requires-clause-sits g c = sits_by_marks c.args.self.now.shared.now c.args.self.now.seats.now c.args.self.now.sits
