use Rattle.std.proofs.Common.{refl}
use Rattle.up_lists.proofs.Causes.{HasCause-weaker}
use Rattle.up_talk.specs.Turns.{around, parties, standing_at}
use Rattle.up_talk.proofs.EndLemmas.{read_goes}
use Rattle.up_talk.proofs.ReadTurnLemmas.{turn_unwritten, turn_written}
use Rattle.up_talk.proofs.turns.turn.Goals as goal

pub returns-in-Ok-flush-clause-turned : goal.returns-in-Ok-flush-clause-turned
returns-in-Ok-flush-clause-turned g c =
    let who = parties g.A.Answers g.A.Answer.Fields g.V.Verifier g.C.Clock g.N.Nonces in
    let b = around c.args.answerer.now c.args.verifier.now c.args.clock.now c.args.nonces.now in
    let after = around c.handle_all-handled.new.answerer c.handle_all-handled.new.verifier c.handle_all-handled.new.clock c.handle_all-handled.new.nonces in
    let then = c.read.new.source in
    λ a w. turn_written who g.S.Source g.K.Sink a after c.handle_all-handled.new.stage c.handle_all-handled.new.incoming c.handle_all-handled.new.out c.flush.new.self then c.handle_all-handled.new.sink c.flush.new.sink c.handle_all-handled.result
    c.handle_all-handled.ensures.partial c.in-Ok-flush.ensures.none c.in-Ok-flush.ensures.whole (c.in-Ok-flush.ensures.quiet.stays (λ failed. cc))
    (c.handle_all-handled.ensures.goes a (g.S.Source.left then) (g.S.Source.given then) (g.S.Source.faults then)
    (read_goes who g.S.Source g.K.Sink a b (standing_at c.args.stage.now) c.args.incoming.now c.read.new.self c.args.out.now c.args.source.now then c.args.sink.now c.in-Ok.field-0 c.in-Ok.ensures w.talking))

pub returns-in-Err-clause-turned : goal.returns-in-Err-clause-turned
returns-in-Err-clause-turned g c =
    let who = parties g.A.Answers g.A.Answer.Fields g.V.Verifier g.C.Clock g.N.Nonces in
    let b = around c.args.answerer.now c.args.verifier.now c.args.clock.now c.args.nonces.now in
    let after = around c.handle_all-handled.new.answerer c.handle_all-handled.new.verifier c.handle_all-handled.new.clock c.handle_all-handled.new.nonces in
    let then = c.read.new.source in
    λ a w. turn_unwritten who g.S.Source g.K.Sink a after c.handle_all-handled.new.stage c.handle_all-handled.new.incoming c.handle_all-handled.new.out then c.handle_all-handled.new.sink c.flush.new.sink c.handle_all-handled.result
    c.in-Err.ensures.part (HasCause-weaker _ _ _ ⊥ c.in-Err.ensures.cause (λ failed. absurd failed)) (c.in-Err.ensures.cause.rose refl)
    (c.handle_all-handled.ensures.goes a (g.S.Source.left then) (g.S.Source.given then) (g.S.Source.faults then)
    (read_goes who g.S.Source g.K.Sink a b (standing_at c.args.stage.now) c.args.incoming.now c.read.new.self c.args.out.now c.args.source.now then c.args.sink.now c.in-Ok.field-0 c.in-Ok.ensures w.talking))
