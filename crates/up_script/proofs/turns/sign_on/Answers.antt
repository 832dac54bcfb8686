use Rattle.std.proofs.Common.{◌≡◌, ap, refl, sym, ◌∙◌}
use Rattle.up_sessions.specs.Worlds.{is_named}
use Rattle.up_script.specs.Scripts.{OpenCame, place_of}
use Rattle.up_script.specs.Turns.{result_of_open}
use Rattle.up_script.proofs.TurnLemmas.{sign_came, weaker, within}
use Rattle.up_script.proofs.turns.sign_on.Goals as goal

pub returns-in_default : goal.returns-in_default
returns-in_default g c = (OpenCame.unknown (ap (place_of c.args.sessions.now) (sym c.as_str.ensures) ∙ sym c.in_default.ensures), refl)

pub sign_on-signed-requires-clause-place : goal.sign_on-signed-requires-clause-place
sign_on-signed-requires-clause-place g c = within (is_named c.as_str.result.now) c.args.sessions.now.hosts c.in-Some.place (sym c.in-Some.ensures)

pub returns : goal.returns
returns g c =
    let s = c.args.session.now in
    weaker (λ came. came ≡ result_of_open s.number c.sign_on-signed.result)
    (λ came. OpenCame g.V.Verifier g.N.Nonces s c.args.sessions.now c.args.verifier.now c.args.nonces.now came c.sign_on-signed.new.self c.sign_on-signed.new.verifier c.sign_on-signed.new.nonces)
    c.args.out.now.items c.say_open_result.new.out.items c.say_open_result.result
    (λ came said. sign_came g.V.Verifier g.N.Nonces s c.args.sessions.now c.sign_on-signed.new.self c.args.verifier.now c.sign_on-signed.new.verifier c.args.nonces.now c.sign_on-signed.new.nonces c.in-Some.place c.as_slice-proof.result.now c.sign_on-signed.result came
    (ap (place_of c.args.sessions.now) (sym c.as_str.ensures) ∙ sym c.in-Some.ensures) c.sign_on-signed.ensures c.as_slice-proof.ensures said) c.say_open_result.ensures
