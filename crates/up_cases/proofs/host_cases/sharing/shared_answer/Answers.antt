use Rattle.up_together.proofs.SittingLemmas.{marks_by_sits}
use Rattle.up_cases.proofs.host_cases.sharing.shared_answer.Goals as goal

pub invariant_of-caller : goal.invariant_of-caller
invariant_of-caller g c = record { sits = marks_by_sits c.args.shared.now c.args.seats.now c.requires }
