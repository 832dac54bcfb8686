use Rattle.up_sessions.proofs.SigningLemmas.{challenged, not_begun}
use Rattle.up_sessions.proofs.signing.challenge.Goals as goal

pub returns-in-Ok : goal.returns-in-Ok
returns-in-Ok g c =
    challenged g.V.Verifier g.N.Nonces c.args.host.now c.args.card.now c.args.signature.now c.next-challenge.result c.in-Ok.sign_on c.args.verifier.now c.session_of.new.verifier c.args.nonces.now c.next-challenge.new.self c.session_of.result
    c.next-challenge.ensures c.in-Ok.ensures.user c.in-Ok.ensures.key c.in-Ok.ensures.message c.session_of.ensures.judged c.session_of.ensures.counts c.session_of.ensures.quiet

pub returns-in-Err : goal.returns-in-Err
returns-in-Err g c = not_begun g.V.Verifier g.N.Nonces c.args.host.now c.args.card.now c.args.signature.now c.next-challenge.result c.args.verifier.now c.args.nonces.now c.next-challenge.new.self c.next-challenge.ensures
