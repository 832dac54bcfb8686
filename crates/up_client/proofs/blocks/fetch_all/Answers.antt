use Rattle.std.proofs.Common.{[], Ok, Err, arith}
use Rattle.up_client.specs.declared.fault.ClientFault.TheVariants as faults
use Rattle.up_client.specs.Getting.{fetched_at, fetching}
use Rattle.up_client.proofs.Exits.{handed, with_result}
use Rattle.up_client.proofs.Fetching.{fetch_end, fetch_more, fetch_stop, goes_wanting}
use Rattle.up_client.proofs.blocks.fetch_all.Goals as goal

pub returns-in_err-fetch : goal.returns-in_err-fetch
returns-in_err-fetch g c =
    let block = c.block-item.result in
    let held = with_result g.A.Ask (fetched_at block.location.endpoint c.loop-block.i block) c.loop-block.ask c.fetch.new.ask c.fetch.result (Err c.in_err-fetch.field-0.0) c.fetch.ensures c.in_err-fetch.was in
    handed g.A.Ask g.met.A.Ask.same g.met.A.Ask.joined (fetching 0 c.args.blocks.now []) c.args.ask.now c.fetch.new.ask c.in_err-fetch.field-0.0 c.from_residual.result
    (fetch_stop g.A.Ask g.met.A.Ask.same g.met.A.Ask.joined (fetching 0 c.args.blocks.now []) c.args.blocks.now c.loop-block.i c.loop-block.block-index block c.loop-block.read.items c.in_err-fetch.field-0.0 c.args.ask.now c.loop-block.ask c.fetch.new.ask
    c.loop-block-test.true c.block-item.is c.loop-block.invariant.on held) c.from_residual.ensures.1

pub returns-in_err-push : goal.returns-in_err-push
returns-in_err-push g c =
    let block = c.block-item.result in
    let bytes = c.in_ok-fetch.field-0 in
    let held = with_result g.A.Ask (fetched_at block.location.endpoint c.loop-block.i block) c.loop-block.ask c.fetch.new.ask c.fetch.result (Ok bytes) c.fetch.ensures c.in_ok-fetch.was in
    handed g.A.Ask g.met.A.Ask.same g.met.A.Ask.joined (fetching 0 c.args.blocks.now []) c.args.ask.now c.fetch.new.ask faults.OutOfMemory c.from_residual-in_err-push.result
    (goes_wanting g.A.Ask g.met.A.Ask.same g.met.A.Ask.joined (fetching 0 c.args.blocks.now []) _ c.args.ask.now c.fetch.new.ask
    (fetch_more g.A.Ask g.met.A.Ask.same g.met.A.Ask.joined (fetching 0 c.args.blocks.now []) c.args.blocks.now c.loop-block.i c.loop-block.block-index block c.loop-block.read.items bytes c.args.ask.now c.loop-block.ask c.fetch.new.ask
    c.loop-block-test.true c.block-item.is c.loop-block.invariant.on held)) c.from_residual-in_err-push.ensures.1

pub loop-block-preserved : goal.loop-block-preserved
loop-block-preserved g c =
    let block = c.block-item.result in
    let bytes = c.in_ok-fetch.field-0 in
    let held = with_result g.A.Ask (fetched_at block.location.endpoint c.loop-block.i block) c.loop-block.ask c.fetch.new.ask c.fetch.result (Ok bytes) c.fetch.ensures c.in_ok-fetch.was in record {
      at = omega arith;
      on = rw c.in_ok-push.ensures.items
          (fetch_more g.A.Ask g.met.A.Ask.same g.met.A.Ask.joined (fetching 0 c.args.blocks.now []) c.args.blocks.now c.loop-block.i c.loop-block.block-index block c.loop-block.read.items bytes c.args.ask.now c.loop-block.ask c.fetch.new.ask
          c.loop-block-test.true c.block-item.is c.loop-block.invariant.on held);
    }

pub returns : goal.returns
returns g c =
    rw c.from_vec.ensures
    (fetch_end g.A.Ask g.met.A.Ask.same g.met.A.Ask.joined (fetching 0 c.args.blocks.now []) c.args.blocks.now c.loop-block.i c.loop-block.block-index c.loop-block.read.items c.args.ask.now c.loop-block.ask
    c.loop-block-test.false c.loop-block.invariant.on)
