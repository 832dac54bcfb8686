use Rattle.up_laws.proofs.ApartTurns.{apart_turns_are_in_step}
use Rattle.up_laws.proofs.laws.apart_turns_are_in_step.Goals as goal

pub returns : goal.returns
returns c = apart_turns_are_in_step
