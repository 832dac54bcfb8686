use Rattle.std.proofs.Common.{refl, inr}
use Rattle.up_alone.proofs.AnsweringLemmas.{draws_only}
use Rattle.up_alone.specs.declared.alone.Alone.{Alone}
use Rattle.up_alone.proofs.alone.AloneAnswers.challenge.Goals as goal

pub returns-in-Err-clause-meets : goal.returns-in-Err-clause-meets
returns-in-Err-clause-meets g c =
    let draws = draws_only (λ (s : Alone g.row.D.Denot g.row.L.Denot). s.host.now) (λ (s : Alone g.row.D.Denot g.row.L.Denot). s.loader.now) g.N.Nonces.coming c.args.user.now c.args.self.now c.args.self.now
    c.args.nonces.now c.next-nonce.new.self c.in-Some.card.now c.next-nonce.result c.in-Some.ensures refl refl c.next-nonce.ensures in
    inr (_, (_, draws))
