use Rattle.up_edits.proofs.PlaceLemmas.{answer_put}
use Rattle.up_edits.proofs.index.note_answer.Goals as goal

pub returns-in_ok-insert : goal.returns-in_ok-insert
returns-in_ok-insert c = answer_put c.args.answers.now.entries c.insert.new.self.entries c.args.location.now c.args.fetch (cc) c.in_ok-insert.ensures.updates.0
