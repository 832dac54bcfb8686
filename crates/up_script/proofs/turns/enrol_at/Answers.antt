use Rattle.std.proofs.Common.{◌≡◌, ap, ◌∙◌}
use Rattle.up_sessions.specs.Worlds.{is_named}
use Rattle.up_script.specs.Scripts.{EnrolCame}
use Rattle.up_script.specs.Turns.{result_of_enrol}
use Rattle.up_script.proofs.TurnLemmas.{enrol_came, unmade, weaker, within}
use Rattle.up_script.proofs.turns.enrol_at.Goals as goal

pub returns-in_err-name : goal.returns-in_err-name
returns-in_err-name g c = unmade (λ came. EnrolCame g.D.Disk c.args.user c.args.sessions.now came c.args.sessions.now) c.args.out.now.items c.args.out.now.items c.from_residual.result EnrolCame.unmade c.from_residual.ensures.1

pub enrol-enrolled-requires-clause-place : goal.enrol-enrolled-requires-clause-place
enrol-enrolled-requires-clause-place g c = within (is_named c.args.user.host) c.args.sessions.now.hosts c.args.place c.requires.place

pub returns : goal.returns
returns g c =
    let name = c.in_ok-name.name in
    weaker (λ came. came ≡ result_of_enrol name c.enrol-enrolled.result) (λ came. EnrolCame g.D.Disk c.args.user c.args.sessions.now came c.enrol-enrolled.new.self) c.args.out.now.items c.say_enrol_result.new.out.items c.say_enrol_result.result
    (λ came said. enrol_came g.D.Disk c.args.user c.args.sessions.now c.enrol-enrolled.new.self c.args.place c.enrol-enrolled.result came c.requires.place c.enrol-enrolled.ensures (said ∙ ap (λ n. result_of_enrol n c.enrol-enrolled.result) c.in_ok-name.ensures.cases)) c.say_enrol_result.ensures
