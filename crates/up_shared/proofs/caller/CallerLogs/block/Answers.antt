use Rattle.std.proofs.Common.{◌≡◌, Ok, subst}
use Rattle.std.specs.Prelude.{IfOk}
use Rattle.up_calls.specs.Steps.{BlockRead}
use Rattle.up_entry.specs.declared.fetch.Fetch.TheVariants as fetch
use Rattle.up_shared.proofs.Telling.{block_failed, block_told_by, store_calm, tied_read}
use Rattle.up_shared.proofs.caller.CallerLogs.block.Goals as goal

pub returns-clause-given : goal.returns-clause-given
returns-clause-given g c =
    let t = c.lend_store.ensures in
    block_told_by g.D.Disk _ _ c.lend_store.new.job c.args.self.now.shared.now c.args.self.now.seats.now c.lend_store.new.seats c.requires t
    c.args.reference.now t.turn.did_it.reads c.lend_store.new.job.given t.turn.did_it.block

pub returns-clause-failed : goal.returns-clause-failed
returns-clause-failed g c = λ failed.
    let t = c.lend_store.ensures in
    block_failed g.D.Disk _ _ c.lend_store.new.job c.args.self.now.shared.now c.args.self.now.seats.now c.lend_store.new.seats c.requires t
    c.args.reference.now (subst (λ given. IfOk given (BlockRead g.D.Disk t.turn.before t.turn.after c.args.reference.now)) failed t.turn.did_it.block)

pub returns-clause-tie : goal.returns-clause-tie
returns-clause-tie g c =
    let t = c.lend_store.ensures in
    tied_read g.D.Disk _ _ c.lend_store.new.job c.args.self.now.shared.now c.args.self.now.seats.now c.lend_store.new.seats c.requires t
    c.args.self.now.seats.ghost_name t.turn.did_it.reads.log

pub returns-clause-quiet : goal.returns-clause-quiet
returns-clause-quiet g c =
    let t = c.lend_store.ensures in
    store_calm g.D.Disk _ _ c.lend_store.new.job c.args.self.now.shared.now c.args.self.now.seats.now c.lend_store.new.seats c.requires t
    (c.lend_store.new.job.given ≡ Ok fetch.Failed) t.turn.did_it.quiet
