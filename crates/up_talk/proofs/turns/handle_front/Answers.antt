use Rattle.std.proofs.Common.{rules, ◌∙◌, sym, ap, subst, ℕ, List, Option}
use Rattle.up_talk.specs.Incoming.{Held}
use Rattle.up_talk.specs.Talks.{IsUnfit}
use Rattle.up_talk.specs.Turns.{Ending, Says, SaysThis, Talking, around, end_at, parties, standing_at, world}
use Rattle.up_talk.specs.declared.end.TalkEnd.{TalkEnd}
use Rattle.up_talk.specs.declared.end.TalkEnd.TheVariants as talk
use Rattle.up_talk.specs.declared.message.FromClient.{FromClient}
use Rattle.up_talk.proofs.StopLemmas.{front_done, front_misspelled, front_stops, front_unread}
use Rattle.up_talk.proofs.turns.handle_front.Goals as goal

pub returns-in-Ok-None-clause-goes : goal.returns-in-Ok-None-clause-goes
returns-in-Ok-None-clause-goes g c =
    let who = parties g.A.Answers g.A.Answer.Fields g.V.Verifier g.C.Clock g.N.Nonces in
    let joined : (x y z : g.row.A.Denot) → g.A.Answers.tied x y → g.A.Answers.tied y z → g.A.Answers.tied x z = search rules in
    let b = around c.args.answerer.now c.args.verifier.now c.args.clock.now c.args.nonces.now in
    let standing = standing_at c.args.stage.now in
    let none : IsUnfit g.A.Answers.asking g.A.Answers.fits standing c.payload.result.now =
    subst (λ (found : Option (FromClient g.row.A-Question.Denot)). Says g.A.Answers.asking g.A.Answers.fits standing c.payload.result.now found) c.in-Ok-None.field-0-is c.in-Ok-None.ensures in
    let unfit = subst (λ (payload : List ℕ). IsUnfit g.A.Answers.asking g.A.Answers.fits standing payload) c.payload.ensures none in
    λ a at t. subst (λ (place : ℕ). Ending who a (world b at) c.args.out.now (talk.BadFrame place)) (sym c.handled.ensures)
    (front_misspelled who joined a b at c.args.stage.now c.args.incoming.now c.args.len c.args.out.now c.requires.bytes c.requires.whole unfit t)

pub returns-in-Err-clause-goes : goal.returns-in-Err-clause-goes
returns-in-Err-clause-goes g c =
    let who = parties g.A.Answers g.A.Answer.Fields g.V.Verifier g.C.Clock g.N.Nonces in
    let joined : (x y z : g.row.A.Denot) → g.A.Answers.tied x y → g.A.Answers.tied y z → g.A.Answers.tied x z = search rules in
    let b = around c.args.answerer.now c.args.verifier.now c.args.clock.now c.args.nonces.now in
    λ a at t. front_unread who joined a b at c.args.stage.now c.args.incoming.now c.args.out.now t

pub returns-in-Ok-clause-goes : goal.returns-in-Ok-clause-goes
returns-in-Ok-clause-goes g c =
    let who = parties g.A.Answers g.A.Answer.Fields g.V.Verifier g.C.Clock g.N.Nonces in
    let joined : (x y z : g.row.A.Denot) → g.A.Answers.tied x y → g.A.Answers.tied y z → g.A.Answers.tied x z = search rules in
    let b = around c.args.answerer.now c.args.verifier.now c.args.clock.now c.args.nonces.now in
    let after = around c.handle.new.answerer c.handle.new.verifier c.handle.new.clock c.handle.new.nonces in
    let standing = standing_at c.args.stage.now in
    let some : SaysThis g.A.Answers.asking g.A.Answers.fits standing c.payload.result.now c.in-Ok-Some.said =
    subst (λ (found : Option (FromClient g.row.A-Question.Denot)). Says g.A.Answers.asking g.A.Answers.fits standing c.payload.result.now found) c.in-Ok-Some.field-0-is c.in-Ok-Some.ensures in
    let says = subst (λ (payload : List ℕ). SaysThis g.A.Answers.asking g.A.Answers.fits standing payload c.in-Ok-Some.said) c.payload.ensures some in
    λ a at t. subst (λ (held : Held). Talking who a (world after at) (standing_at c.handle.new.stage) held c.handle.new.out) (sym c.pass.ensures)
    (front_done who joined a b after at c.args.stage.now (standing_at c.handle.new.stage) c.args.incoming.now c.args.len c.in-Ok-Some.said c.args.out.now c.handle.new.out c.in-Ok.field-0 c.requires.bytes c.requires.whole says c.in-Ok.ensures.quiet
    c.in-Ok.ensures.tie c.in-Ok.ensures.handled t)

pub returns-in-Err-handle-clause-goes : goal.returns-in-Err-handle-clause-goes
returns-in-Err-handle-clause-goes g c =
    let who = parties g.A.Answers g.A.Answer.Fields g.V.Verifier g.C.Clock g.N.Nonces in
    let joined : (x y z : g.row.A.Denot) → g.A.Answers.tied x y → g.A.Answers.tied y z → g.A.Answers.tied x z = search rules in
    let b = around c.args.answerer.now c.args.verifier.now c.args.clock.now c.args.nonces.now in
    let after = around c.handle.new.answerer c.handle.new.verifier c.handle.new.clock c.handle.new.nonces in
    let standing = standing_at c.args.stage.now in
    let some : SaysThis g.A.Answers.asking g.A.Answers.fits standing c.payload.result.now c.in-Ok-Some.said =
    subst (λ (found : Option (FromClient g.row.A-Question.Denot)). Says g.A.Answers.asking g.A.Answers.fits standing c.payload.result.now found) c.in-Ok-Some.field-0-is c.in-Ok-Some.ensures in
    let says = subst (λ (payload : List ℕ). SaysThis g.A.Answers.asking g.A.Answers.fits standing payload c.in-Ok-Some.said) c.payload.ensures some in
    λ a at t. subst (λ (end : TalkEnd). Ending who a (world after at) c.handle.new.out end) (sym (c.end_by.ensures ∙ ap (end_at c.in-Err-handle.stop) c.handled-in-Err-handle.ensures))
    (front_stops who joined a b after at c.args.stage.now (standing_at c.handle.new.stage) c.args.incoming.now c.args.len c.in-Ok-Some.said c.args.out.now c.handle.new.out c.in-Err-handle.stop c.requires.bytes c.requires.whole says
    c.in-Err-handle.ensures.counts c.in-Err-handle.ensures.quiet c.in-Err-handle.ensures.tie c.in-Err-handle.ensures.handled t)
