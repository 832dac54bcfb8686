use Rattle.up_talk.proofs.ReadingLemmas.{greeting_said}
use Rattle.up_talk.proofs.reading.read_said.Goals as goal

pub returns-in-Unsaid : goal.returns-in-Unsaid
returns-in-Unsaid g c = greeting_said g.A.Answers.asking g.A.Answers.fits c.args.stage.now c.args.payload.now c.read_greeting.result c.in-Unsaid.is c.read_greeting.ensures
