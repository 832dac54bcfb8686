use Rattle.std.proofs.Common.{refl, subst, sym, ◌∙◌}
use Rattle.std.specs.Prelude.{IfSome}
use Rattle.up_script.specs.Scripts.{LineCame, SaysCame}
use Rattle.up_script.specs.Standing.{parties, world}
use Rattle.up_script_lines.specs.Askable.{IsAskable}
use Rattle.up_script.proofs.TurnLemmas.{good_line, unmade, weaker}
use Rattle.up_script.proofs.turns.run_line.Goals as goal

pub do_line-requires-clause-good : goal.do_line-requires-clause-good
do_line-requires-clause-good g c =
    good_line c.args.line.now c.in-Some.says (sym c.in_ok-says.ensures.says ∙ c.in-Some.is) (subst (λ found. IfSome found IsAskable) c.in-Some.is c.in_ok-says.ensures.asks)

pub returns-in_err-says : goal.returns-in_err-says
returns-in_err-says g c =
    let who = parties g.D.Disk g.P.Loader g.V.Verifier g.C.Clock g.N.Nonces in
    let a = world c.args.sessions.now c.args.peers.now c.args.verifier.now c.args.clock.now c.args.nonces.now in
    unmade (λ came. LineCame who c.args.limits a c.args.line.now came a) c.args.out.now.items c.args.out.now.items c.from_residual.result LineCame.unread c.from_residual.ensures.1

pub returns-in_default : goal.returns-in_default
returns-in_default g c = (LineCame.malformed (sym c.in_ok-says.ensures.says ∙ c.in_default.is), refl)

pub returns : goal.returns
returns g c =
    let who = parties g.D.Disk g.P.Loader g.V.Verifier g.C.Clock g.N.Nonces in
    let a = world c.args.sessions.now c.args.peers.now c.args.verifier.now c.args.clock.now c.args.nonces.now in
    let b = world c.do_line.new.sessions c.do_line.new.peers c.do_line.new.verifier c.do_line.new.clock c.do_line.new.nonces in
    weaker (λ came. SaysCame who c.args.limits a c.in-Some.says came b) (λ came. LineCame who c.args.limits a c.args.line.now came b) c.args.out.now.items c.do_line.new.out.items c.do_line.result
    (λ came h. LineCame.says (sym c.in_ok-says.ensures.says ∙ c.in-Some.is) h) c.do_line.ensures
