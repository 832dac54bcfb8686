use Rattle.std.proofs.Common.{ap, refl, sym, ◌∙◌}
use Rattle.up_script.specs.Scripts.{EnrolCame, place_of}
use Rattle.up_script.proofs.turns.enrol.Goals as goal

pub returns-in_default : goal.returns-in_default
returns-in_default g c = (EnrolCame.unknown (ap (place_of c.args.sessions.now) (sym c.as_str.ensures) ∙ sym c.in_default.ensures), refl)

pub enrol_at-requires-clause-place : goal.enrol_at-requires-clause-place
enrol_at-requires-clause-place g c = ap (place_of c.args.sessions.now) (sym c.as_str.ensures) ∙ sym c.in-Some.ensures
