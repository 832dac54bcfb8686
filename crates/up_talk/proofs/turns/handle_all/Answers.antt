use Rattle.std.proofs.Common.{rules, ◌∙◌, refl, sym, subst, ℕ, arith}
use Rattle.up_talk.specs.Turns.{Ending, around, ends_at, parties, standing_at, world}
use Rattle.up_talk.specs.declared.end.TalkEnd.TheVariants as talk
use Rattle.up_talk.proofs.ReadTurnLemmas.{full_done, full_failed}
use Rattle.up_talk.proofs.TurnLemmas.{front_bad, open_at}
use Rattle.up_talk.proofs.turns.handle_all.Goals as goal

pub loop-len-init : goal.loop-len-init
loop-len-init g c = record { goes = λ a left given faults t. t; count = refl }

pub returns-in-Partial-clause-goes : goal.returns-in-Partial-clause-goes
returns-in-Partial-clause-goes g c = c.loop-len.invariant.goes

pub returns-in-Partial-clause-count : goal.returns-in-Partial-clause-count
returns-in-Partial-clause-count g c = c.loop-len.invariant.count

pub returns-in-Bad-clause-goes : goal.returns-in-Bad-clause-goes
returns-in-Bad-clause-goes g c =
    let who = parties g.A.Answers g.A.Answer.Fields g.V.Verifier g.C.Clock g.N.Nonces in
    let joined : (x y z : g.row.A.Denot) → g.A.Answers.tied x y → g.A.Answers.tied y z → g.A.Answers.tied x z = search rules in
    let b = around c.loop-len.answerer c.loop-len.verifier c.loop-len.clock c.loop-len.nonces in
    λ a left given faults t.
    let at = ends_at left given faults g.K.Sink c.loop-len.sink in
    subst (λ (place : ℕ). Ending who a (world b at) c.loop-len.out (talk.BadFrame place)) (sym c.handled.ensures)
    (front_bad who joined a b at (standing_at c.loop-len.stage) c.loop-len.incoming c.loop-len.out c.in-Bad.ensures.front (open_at c.loop-len.stage) (c.loop-len.invariant.goes a left given faults t))

pub handle_front-requires-clause-count : goal.handle_front-requires-clause-count
handle_front-requires-clause-count g c = omega (arith, c.loop-len.invariant.count, c.requires.count)

pub returns-in-Err-clause-goes : goal.returns-in-Err-clause-goes
returns-in-Err-clause-goes g c = λ a left given faults t. c.in-Err.ensures.goes a (ends_at left given faults g.K.Sink c.loop-len.sink) (c.loop-len.invariant.goes a left given faults t)

pub returns-in-Err-flush_full-clause-goes : goal.returns-in-Err-flush_full-clause-goes
returns-in-Err-flush_full-clause-goes g c =
    let who = parties g.A.Answers g.A.Answer.Fields g.V.Verifier g.C.Clock g.N.Nonces in
    let after = around c.handle_front.new.answerer c.handle_front.new.verifier c.handle_front.new.clock c.handle_front.new.nonces in
    λ a left given faults t.
    full_failed who g.K.Sink a after left given faults c.handle_front.new.stage c.handle_front.new.incoming c.handle_front.new.out c.flush_full.new.self c.loop-len.sink c.flush_full.new.sink c.in-Err-flush_full.field-0 c.in-Err-flush_full.ensures
    (c.in-Ok.ensures.goes a (ends_at left given faults g.K.Sink c.loop-len.sink) (c.loop-len.invariant.goes a left given faults t))

pub loop-len-smaller : goal.loop-len-smaller
loop-len-smaller g c = c.in-Ok.ensures.less

pub loop-len-preserved : goal.loop-len-preserved
loop-len-preserved g c =
    let who = parties g.A.Answers g.A.Answer.Fields g.V.Verifier g.C.Clock g.N.Nonces in
    let after = around c.handle_front.new.answerer c.handle_front.new.verifier c.handle_front.new.clock c.handle_front.new.nonces in
    record {
      goes = λ a left given faults t.
          full_done who g.K.Sink a after left given faults c.handle_front.new.stage c.handle_front.new.incoming c.handle_front.new.out c.flush_full.new.self c.loop-len.sink c.flush_full.new.sink c.in-Ok-flush_full.field-0 c.in-Ok-flush_full.ensures
          (c.in-Ok.ensures.goes a (ends_at left given faults g.K.Sink c.loop-len.sink) (c.loop-len.invariant.goes a left given faults t));
      count = c.in-Ok.ensures.count ∙ c.loop-len.invariant.count;
    }
