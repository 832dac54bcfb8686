use Rattle.std.proofs.Common.{sym, subst}
use Rattle.up_talk.specs.Turns.{Handled, around, parties, standing_at}
use Rattle.up_talk.proofs.HandlingLemmas.{ask_handled, bye_handled, hello_handled, proof_handled}
use Rattle.up_talk.proofs.handling.handle.Goals as goal

pub returns-in-Hello-clause-handled : goal.returns-in-Hello-clause-handled
returns-in-Hello-clause-handled g c =
    let who = parties g.A.Answers g.A.Answer.Fields g.V.Verifier g.C.Clock g.N.Nonces in
    let a = around c.args.answerer.now c.args.verifier.now c.args.clock.now c.args.nonces.now in
    let b = around c.hello.new.answerer c.args.verifier.now c.args.clock.now c.hello.new.nonces in
    subst (λ f. Handled who (standing_at c.args.stage.now) a f c.args.out.now c.hello.result (standing_at c.hello.new.stage) b c.hello.new.out) (sym c.in-Hello.is)
    (hello_handled who c.in-Hello.text c.args.stage.now c.hello.new.stage c.args.answerer.now c.hello.new.answerer c.args.verifier.now c.args.clock.now c.args.nonces.now c.hello.new.nonces c.args.out.now c.hello.new.out c.hello.result c.hello.ensures.came)

pub returns-in-Proof-clause-handled : goal.returns-in-Proof-clause-handled
returns-in-Proof-clause-handled g c =
    let who = parties g.A.Answers g.A.Answer.Fields g.V.Verifier g.C.Clock g.N.Nonces in
    let a = around c.args.answerer.now c.args.verifier.now c.args.clock.now c.args.nonces.now in
    let b = around c.args.answerer.now c.proof.new.verifier c.args.clock.now c.args.nonces.now in
    subst (λ f. Handled who (standing_at c.args.stage.now) a f c.args.out.now c.proof.result (standing_at c.proof.new.stage) b c.proof.new.out) (sym c.in-Proof.is)
    (proof_handled who c.in-Proof.signature c.args.stage.now c.proof.new.stage c.args.answerer.now c.args.verifier.now c.proof.new.verifier c.args.clock.now c.args.nonces.now c.args.out.now c.proof.new.out c.proof.result c.proof.ensures.came)

pub returns-in-Ask-clause-handled : goal.returns-in-Ask-clause-handled
returns-in-Ask-clause-handled g c =
    let who = parties g.A.Answers g.A.Answer.Fields g.V.Verifier g.C.Clock g.N.Nonces in
    let a = around c.args.answerer.now c.args.verifier.now c.args.clock.now c.args.nonces.now in
    let b = around c.ask.new.answerer c.args.verifier.now c.ask.new.clock c.args.nonces.now in
    subst (λ f. Handled who (standing_at c.args.stage.now) a f c.args.out.now c.ask.result (standing_at c.args.stage.now) b c.ask.new.out) (sym c.in-Ask.is)
    (ask_handled who c.in-Ask.question c.args.stage.now c.args.answerer.now c.ask.new.answerer c.args.verifier.now c.args.clock.now c.ask.new.clock c.args.nonces.now c.args.out.now c.ask.new.out c.ask.result c.ask.ensures.came)

pub returns-in-Bye-clause-handled : goal.returns-in-Bye-clause-handled
returns-in-Bye-clause-handled g c =
    let who = parties g.A.Answers g.A.Answer.Fields g.V.Verifier g.C.Clock g.N.Nonces in
    let a = around c.args.answerer.now c.args.verifier.now c.args.clock.now c.args.nonces.now in
    subst (λ f. Handled who (standing_at c.args.stage.now) a f c.args.out.now c.bye.result (standing_at c.args.stage.now) a c.args.out.now) (sym c.in-Bye.is)
    (bye_handled who c.args.stage.now a c.args.out.now c.bye.result c.bye.ensures)
