use Rattle.std.proofs.Common.{◌≡◌, ◌≤◌, Ok, arith, length}
use Rattle.up_entry.specs.declared.fetch.Fetch.TheVariants as fetch
use Rattle.up_host.proofs.TiedLemmas.{quiet_store_now}
use Rattle.up_host.proofs.TurnedLemmas.{read_failed, read_given, read_tied}
use Rattle.up_lists.proofs.BeginsLemmas.{length-Begins}
use Rattle.up_host.proofs.logs.HostLogs.block.Goals as goal

pub returns-clause-given : goal.returns-clause-given
returns-clause-given g c =
    read_given g.D.Disk _ c.read_block.new.state c.read_block.ensures.grows c.self.invariant.store_base c.args.self.now c.self.view_is c.args.reference.now c.read_block.result c.read_block.ensures.reads c.read_block.ensures.given

pub returns-clause-failed : goal.returns-clause-failed
returns-clause-failed g c =
    rw (← c.self.view_is) (read_failed g.D.Disk _ c.read_block.new.state c.read_block.ensures.grows c.self.invariant.store_base c.args.reference.now c.read_block.result c.read_block.ensures.given)

pub returns-clause-tie : goal.returns-clause-tie
returns-clause-tie g c =
    rw (← c.self.view_is) (read_tied g.D.Disk _ c.read_block.new.state c.read_block.ensures.grows c.self.invariant.store_base c.read_block.ensures.reads)

pub invariant_of-self : goal.invariant_of-self
invariant_of-self g c =
    let grown : length c.self.inside.store.state.log ≤ length c.read_block.new.state.log = length-Begins c.read_block.ensures.grows.begins in
    let fits = c.self.invariant.store_base in
    record {
      trees_base = c.self.invariant.trees_base;
      store_base = omega (arith, fits, grown);
      keys_base = c.self.invariant.keys_base;
      room = c.self.invariant.room;
    }

pub returns-clause-quiet : goal.returns-clause-quiet
returns-clause-quiet g c =
    quiet_store_now g.D.Disk _ c.read_block.new.state c.read_block.ensures.grows c.self.invariant.store_base c.args.self.now c.self.view_is (c.read_block.result ≡ Ok fetch.Failed) c.read_block.ensures.quiet
