use Rattle.std.proofs.Common.{◌≡◌, ◌≤◌, Some, ap, arith, length, sym}
use Rattle.up_calls.specs.Routes.{Question}
use Rattle.up_host.proofs.TiedLemmas.{quiet_keys_now}
use Rattle.up_host.proofs.TurnedLemmas.{asked_keys, keys_tied}
use Rattle.up_lists.proofs.BeginsLemmas.{length-Begins}
use Rattle.up_wire.specs.declared.replies.Reply.TheVariants as reply
use Rattle.up_host.proofs.logs.HostLogs.ask_keys.Goals as goal

pub returns-clause-told : goal.returns-clause-told
returns-clause-told g c =
    let q : Question = record { user = c.args.user.now; request = c.args.request.now } in
    rw (← c.self.view_is) (asked_keys g.D.Disk _ c.try_keys.new.state c.try_keys.ensures.grows c.self.invariant.keys_base q c.requires.sound c.try_keys.result.0 c.try_keys.result.1 c.try_keys.ensures.tried)

pub returns-clause-left : goal.returns-clause-left
returns-clause-left g c = rw (← c.self.view_is) (ap Some (sym c.try_keys.ensures.tried.position_is))

pub returns-clause-tie : goal.returns-clause-tie
returns-clause-tie g c =
    let q : Question = record { user = c.args.user.now; request = c.args.request.now } in
    rw (← c.self.view_is) (keys_tied g.D.Disk _ c.try_keys.new.state c.try_keys.ensures.grows c.self.invariant.keys_base q c.try_keys.result.0 c.try_keys.result.1 c.try_keys.ensures.tried)

pub invariant_of-self : goal.invariant_of-self
invariant_of-self g c =
    let grown : length c.self.inside.keys.state.log ≤ length c.try_keys.new.state.log = length-Begins c.try_keys.ensures.grows.begins in
    let fits = c.self.invariant.keys_base in
    record {
      trees_base = c.self.invariant.trees_base;
      store_base = c.self.invariant.store_base;
      keys_base = omega (arith, fits, grown);
      room = c.self.invariant.room;
    }

pub returns-clause-quiet : goal.returns-clause-quiet
returns-clause-quiet g c =
    quiet_keys_now g.D.Disk _ c.try_keys.new.state c.try_keys.ensures.grows c.self.invariant.keys_base c.args.self.now c.self.view_is (c.try_keys.result.0 ≡ reply.Io) c.try_keys.ensures.tried.quiet
