use Rattle.std.proofs.Common.{◌≡◌, ◌≤◌, Some, ap, arith, length, sym}
use Rattle.up_calls.specs.Routes.{Question}
use Rattle.up_host.proofs.TiedLemmas.{quiet_store_now}
use Rattle.up_host.proofs.TurnedLemmas.{asked_store, store_tied}
use Rattle.up_lists.proofs.BeginsLemmas.{length-Begins}
use Rattle.up_wire.specs.declared.replies.Reply.TheVariants as reply
use Rattle.up_host.proofs.logs.HostLogs.ask_store.Goals as goal

pub returns-clause-told : goal.returns-clause-told
returns-clause-told g c =
    let q : Question = record { user = c.args.user.now; request = c.args.request.now } in
    rw (← c.self.view_is) (asked_store g.D.Disk _ c.try_store.new.state c.try_store.ensures.grows c.self.invariant.store_base q c.requires.sound c.try_store.result.0 c.try_store.result.1 c.try_store.ensures.tried)

pub returns-clause-left : goal.returns-clause-left
returns-clause-left g c = rw (← c.self.view_is) (ap Some (sym c.try_store.ensures.tried.position_is))

pub returns-clause-tie : goal.returns-clause-tie
returns-clause-tie g c =
    let q : Question = record { user = c.args.user.now; request = c.args.request.now } in
    rw (← c.self.view_is) (store_tied g.D.Disk _ c.try_store.new.state c.try_store.ensures.grows c.self.invariant.store_base q c.try_store.result.0 c.try_store.result.1 c.try_store.ensures.tried)

pub invariant_of-self : goal.invariant_of-self
invariant_of-self g c =
    let grown : length c.self.inside.store.state.log ≤ length c.try_store.new.state.log = length-Begins c.try_store.ensures.grows.begins in
    let fits = c.self.invariant.store_base in
    record {
      trees_base = c.self.invariant.trees_base;
      store_base = omega (arith, fits, grown);
      keys_base = c.self.invariant.keys_base;
      room = c.self.invariant.room;
    }

pub returns-clause-quiet : goal.returns-clause-quiet
returns-clause-quiet g c =
    quiet_store_now g.D.Disk _ c.try_store.new.state c.try_store.ensures.grows c.self.invariant.store_base c.args.self.now c.self.view_is (c.try_store.result.0 ≡ reply.Io) c.try_store.ensures.tried.quiet
