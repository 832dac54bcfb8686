use Rattle.up_together.proofs.SittingLemmas.{sits_by_marks}
use Rattle.up_together.proofs.together.TogetherAnswers.ask.Goals as goal

pub ask-event-requires-clause-sits : goal.ask-event-requires-clause-sits
ask-event-requires-clause-sits g c = sits_by_marks c.args.self.now.shared.now c.args.self.now.seats.now c.args.self.now.sits
