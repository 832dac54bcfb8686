use Rattle.std.proofs.Common.{[], length, Ok, Err, arith}
use Rattle.up_client.specs.declared.fault.ClientFault.TheVariants as faults
use Rattle.up_client.specs.Putting.{pieces_of, stored, storing}
use Rattle.up_client.proofs.Exits.{handed, with_result}
use Rattle.up_client.proofs.Fetching.{goes_wanting}
use Rattle.up_client.proofs.Storing.{none_left, piece_lengths, piece_smaller, some_left, store_end, store_more, store_stop}
use Rattle.up_client.proofs.putting.store_all.Goals as goal

pub returns-in_err-reference : goal.returns-in_err-reference
returns-in_err-reference g c =
    let some = some_left c.is_empty.result (length c.loop-rest.rest.now) c.loop-rest-test.true c.is_empty.ensures in
    let held = with_result g.A.Ask (stored c.first_piece.result.0.now) c.loop-rest.ask c.store.new.ask c.store.result (Err c.in_err-reference.field-0.0) c.store.ensures c.in_err-reference.was in
    handed g.A.Ask g.met.A.Ask.same g.met.A.Ask.joined (storing 0 (pieces_of c.args.bytes.now) []) c.args.ask.now c.store.new.ask c.in_err-reference.field-0.0 c.from_residual.result
    (store_stop g.A.Ask g.met.A.Ask.same g.met.A.Ask.joined (storing 0 (pieces_of c.args.bytes.now) []) c.loop-rest.rest.now c.first_piece.result.0.now c.first_piece.result.1.now c.loop-rest.offset c.loop-rest.blocks.items c.in_err-reference.field-0.0 c.args.ask.now c.loop-rest.ask c.store.new.ask
    some c.first_piece.ensures.piece c.first_piece.ensures.behind c.loop-rest.invariant.on held) c.from_residual.ensures.1

pub returns-in_err-push : goal.returns-in_err-push
returns-in_err-push g c =
    let some = some_left c.is_empty.result (length c.loop-rest.rest.now) c.loop-rest-test.true c.is_empty.ensures in
    let held = with_result g.A.Ask (stored c.first_piece.result.0.now) c.loop-rest.ask c.store.new.ask c.store.result (Ok c.in_ok-reference.reference) c.store.ensures c.in_ok-reference.was in
    handed g.A.Ask g.met.A.Ask.same g.met.A.Ask.joined (storing 0 (pieces_of c.args.bytes.now) []) c.args.ask.now c.store.new.ask faults.OutOfMemory c.from_residual-in_err-push.result
    (goes_wanting g.A.Ask g.met.A.Ask.same g.met.A.Ask.joined (storing 0 (pieces_of c.args.bytes.now) []) _ c.args.ask.now c.store.new.ask
    (store_more g.A.Ask g.met.A.Ask.same g.met.A.Ask.joined (storing 0 (pieces_of c.args.bytes.now) []) c.loop-rest.rest.now c.first_piece.result.0.now c.first_piece.result.1.now c.loop-rest.offset c.loop-rest.blocks.items c.in_ok-reference.reference c.args.ask.now c.loop-rest.ask c.store.new.ask
    some c.first_piece.ensures.piece c.first_piece.ensures.behind c.loop-rest.invariant.on held)) c.from_residual-in_err-push.ensures.1

pub loop-rest-smaller : goal.loop-rest-smaller
loop-rest-smaller g c =
    let some = some_left c.is_empty.result (length c.loop-rest.rest.now) c.loop-rest-test.true c.is_empty.ensures in
    piece_smaller 1048576 c.loop-rest.rest.now c.first_piece.result.1.now (omega arith) some c.first_piece.ensures.behind

pub loop-rest-preserved : goal.loop-rest-preserved
loop-rest-preserved g c =
    let some = some_left c.is_empty.result (length c.loop-rest.rest.now) c.loop-rest-test.true c.is_empty.ensures in
    let lengths = piece_lengths 1048576 c.loop-rest.rest.now c.first_piece.result.0.now c.first_piece.result.1.now c.first_piece.ensures.piece c.first_piece.ensures.behind in
    let held = with_result g.A.Ask (stored c.first_piece.result.0.now) c.loop-rest.ask c.store.new.ask c.store.result (Ok c.in_ok-reference.reference) c.store.ensures c.in_ok-reference.was in record {
      left = omega (arith, lengths, c.loop-rest.invariant.left);
      on = rw (c.in_ok-push.ensures.items, c.block_at.ensures)
          (store_more g.A.Ask g.met.A.Ask.same g.met.A.Ask.joined (storing 0 (pieces_of c.args.bytes.now) []) c.loop-rest.rest.now c.first_piece.result.0.now c.first_piece.result.1.now c.loop-rest.offset c.loop-rest.blocks.items c.in_ok-reference.reference c.args.ask.now c.loop-rest.ask c.store.new.ask
          some c.first_piece.ensures.piece c.first_piece.ensures.behind c.loop-rest.invariant.on held);
    }

pub returns : goal.returns
returns g c =
    rw c.from_vec.ensures
    (store_end g.A.Ask g.met.A.Ask.same g.met.A.Ask.joined (storing 0 (pieces_of c.args.bytes.now) []) c.loop-rest.rest.now c.loop-rest.offset c.loop-rest.blocks.items c.args.ask.now c.loop-rest.ask
    (none_left c.is_empty.result (length c.loop-rest.rest.now) c.loop-rest-test.false c.is_empty.ensures) c.loop-rest.invariant.on)
