use Rattle.std.proofs.Common.{rules, ◌≡◌, ◌+◌, ℕ, List, [], sym, ap, subst, length, arith}
use Rattle.up_talk.specs.Incoming.{Held}
use Rattle.up_talk.specs.Transcripts.{Standing}
use Rattle.up_talk.specs.Turns.{Waiting, around, ends, parties, world}
use Rattle.up_talk.proofs.EndLemmas.{at_first, turns_spent, wants_at_first}
use Rattle.up_talk.proofs.turns.talk.Goals as goal

pub returns-in_default : goal.returns-in_default
returns-in_default g c =
    let who = parties g.A.Answers g.A.Answer.Fields g.V.Verifier g.C.Clock g.N.Nonces in
    let same : (x : g.row.A.Denot) → g.A.Answers.tied x x = search rules in
    let a = world (around c.args.answerer.now c.args.verifier.now c.args.clock.now c.args.nonces.now) (ends g.S.Source g.K.Sink c.args.source.now c.args.sink.now) in
    wants_at_first who same a

pub loop-turn-init : goal.loop-turn-init
loop-turn-init g c =
    let who = parties g.A.Answers g.A.Answer.Fields g.V.Verifier g.C.Clock g.N.Nonces in
    let same : (x : g.row.A.Denot) → g.A.Answers.tied x x = search rules in
    let a = world (around c.args.answerer.now c.args.verifier.now c.args.clock.now c.args.nonces.now) (ends g.S.Source g.K.Sink c.args.source.now c.args.sink.now) in
    let none : c.in-Ok.incoming.handled + length c.in-Ok.incoming.bytes ≡ 0 = ap (λ (h : Held). h.handled + length h.bytes) c.in-Ok.ensures in
    record {
      waiting = subst (λ (h : Held). Waiting who a a Standing.Unsaid h c.new-out.result) (sym c.in-Ok.ensures)
          (subst (λ (o : List ℕ). Waiting who a a Standing.Unsaid (record { handled = 0; bytes = [] }) o) (sym c.new-out.ensures) (at_first who same a));
      some = omega arith;
      few = omega (arith, none);
    }

pub turn-requires : goal.turn-requires
turn-requires g c = record { count = omega (arith, c.loop-turn.invariant.few, c.loop-turn-test.true) }

pub returns-in-Err : goal.returns-in-Err
returns-in-Err g c =
    let a = world (around c.args.answerer.now c.args.verifier.now c.args.clock.now c.args.nonces.now) (ends g.S.Source g.K.Sink c.args.source.now c.args.sink.now) in
    c.in-Err.ensures.turned a c.loop-turn.invariant.waiting

pub loop-turn-preserved : goal.loop-turn-preserved
loop-turn-preserved g c =
    let a = world (around c.args.answerer.now c.args.verifier.now c.args.clock.now c.args.nonces.now) (ends g.S.Source g.K.Sink c.args.source.now c.args.sink.now) in
    record {
      waiting = c.in-Ok-turn.ensures.turned a c.loop-turn.invariant.waiting;
      some = omega (arith, c.in-Ok-turn.ensures.more, c.loop-turn.invariant.some);
      few = omega (arith, c.in-Ok-turn.ensures.most, c.loop-turn.invariant.few);
    }

pub returns : goal.returns
returns g c =
    let who = parties g.A.Answers g.A.Answer.Fields g.V.Verifier g.C.Clock g.N.Nonces in
    let a = world (around c.args.answerer.now c.args.verifier.now c.args.clock.now c.args.nonces.now) (ends g.S.Source g.K.Sink c.args.source.now c.args.sink.now) in
    let b = world (around c.loop-turn.answerer c.loop-turn.verifier c.loop-turn.clock c.loop-turn.nonces) (ends g.S.Source g.K.Sink c.loop-turn.source c.loop-turn.sink) in
    turns_spent who a b c.loop-turn.stage c.loop-turn.incoming c.loop-turn.out (omega (arith, c.loop-turn-test.false, c.loop-turn.invariant.some)) c.loop-turn.invariant.waiting
