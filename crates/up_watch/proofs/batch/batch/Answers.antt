use Rattle.std.proofs.Common.{◌≡◌, ap, ◌∙◌, arith, get_or, length}
use Rattle.std.proofs.lemmas.Option.{slice_get-get_or}
use Rattle.std.specs.Prelude.{unwrap_or}
use Rattle.up_answers.specs.Watches.{position_at}
use Rattle.up_wire.specs.declared.replies.Done.TheVariants.{Events}
use Rattle.up_wire.specs.declared.replies.Reply.TheVariants.{Ok}
use Rattle.up_watch.specs.Watching.{Watching, told}
use Rattle.up_watch.proofs.Batches.{gathers_all, gathers_more, gathers_next, left_out, taken_in}
use Rattle.up_watch.proofs.batch.batch.Goals as goal

-- a 257th
pub returns-then-not-branch : goal.returns-then-not-branch
returns-then-not-branch c =
    let w : Watching = c.args.reader.now in
    let n = get_or c.args.positions.now c.loop-position.position-index 0 in
    let at = slice_get-get_or c.args.positions.now c.loop-position.position-index 0 c.loop-position-test.true in
    let is : c.in_ok-event.event ≡ told w n = c.in_ok-event.ensures.event in
    let out = left_out c.loop-position.found.items c.take_event.new.found.items c.in_ok-event.event c.in_ok-take_event.field-0 c.if-not-branch.true c.in_ok-take_event.ensures in
    c.full.ensures (length w.log)
    ∙ (ap (λ es. Ok (Events es (unwrap_or (position_at es 255) (length w.log)))) out.0
    ∙ gathers_more (told w) c.args.positions.now c.loop-position.position-index c.loop-position.found.items (length w.log) n c.in_ok-event.event at is c.loop-position.invariant.0 out.1 out.2)

-- one position more
pub loop-position-preserved : goal.loop-position-preserved
loop-position-preserved c =
    let w : Watching = c.args.reader.now in
    let n = get_or c.args.positions.now c.loop-position.position-index 0 in
    let at = slice_get-get_or c.args.positions.now c.loop-position.position-index 0 c.loop-position-test.true in
    let is : c.in_ok-event.event ≡ told w n = c.in_ok-event.ensures.event in
    let took = taken_in c.loop-position.found.items c.take_event.new.found.items c.in_ok-event.event c.in_ok-take_event.field-0 c.if-not-branch.false c.in_ok-take_event.ensures in (
      gathers_next (told w) c.args.positions.now c.loop-position.position-index c.loop-position.found.items n c.in_ok-event.event c.take_event.new.found.items at is c.loop-position.invariant.0 took,
      c.event_by.ensures.known,
    )

-- no more positions
pub returns : goal.returns
returns c =
    let w : Watching = c.args.reader.now in
    let records : c.position-records.result ≡ length w.log = c.position-records.ensures.count ∙ ap length c.tree.ensures.log in
    ap (λ es. Ok (Events es c.position-records.result)) c.from_vec.ensures
    ∙ (ap (λ k. Ok (Events c.loop-position.found.items k)) records
    ∙ gathers_all (told w) c.args.positions.now c.loop-position.position-index c.loop-position.found.items (length w.log) (omega (arith, c.loop-position-test.false)) c.loop-position.invariant.0)
