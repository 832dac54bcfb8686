use Rattle.std.proofs.Common.{rules, ◌≡◌, ◌≢◌}
use Rattle.up_talk.specs.Turns.{around, ends, parties, world}
use Rattle.up_talk.proofs.CompletingLemmas.{completes}
use Rattle.up_talk.proofs.turns.talk_to.Goals as goal
use Rattle.up_wire.specs.Spelling.{client}
use Rattle.up_wire.specs.declared.messages.ClientFrame.TheVariants as clients

pub returns-clause-complete : goal.returns-clause-complete
returns-clause-complete g c =
    let who = parties g.A.Answers g.A.Answer.Fields g.V.Verifier g.C.Clock g.N.Nonces in
    let one : (p q : g.row.A-Question.Denot) → g.A.Answers.fits p → g.A.Answers.fits q → g.A.Answers.asking p ≡ g.A.Answers.asking q → p ≡ q = search rules in
    let no_bye : (q : g.row.A-Question.Denot) → g.A.Answers.fits q → g.A.Answers.asking q ≢ client clients.Bye = search rules in
    let a = world (around c.args.answerer.now c.args.verifier.now c.args.clock.now c.args.nonces.now) (ends g.S.Source g.K.Sink c.args.source.now c.args.sink.now) in
    let b = world (around c.talk.new.answerer c.talk.new.verifier c.talk.new.clock c.talk.new.nonces) (ends g.S.Source g.K.Sink c.talk.new.source c.talk.new.sink) in
    λ text signature questions last order. completes who one no_bye a b text signature questions last order c.talk.result c.talk.ensures.talks
