use Rattle.std.proofs.Common.{◌≤◌, arith, length, refl}
use Rattle.up_calls.proofs.SettledLemmas.{puts_settled}
use Rattle.up_host.proofs.SettledLemmas.{host_keys}
use Rattle.up_host.proofs.host.Host.enrol.Goals as goal
use Rattle.up_lists.proofs.BeginsLemmas.{length-Begins}

pub returns-clause-enrols : goal.returns-clause-enrols
returns-clause-enrols g c = rw (← c.self.view_is) (record { state = c.put.new.self; whole = refl; puts = c.put.ensures.puts; grows = c.put.ensures.grows; quiet = c.put.ensures.quiet })

pub returns-clause-stays : goal.returns-clause-stays
returns-clause-stays g c = rw (← c.self.view_is) (host_keys g.D.Disk _ _ c.put.new.self refl (puts_settled g.D.Disk c.args.card _ c.put.new.self c.put.result c.put.ensures.puts))

pub invariant_of-self : goal.invariant_of-self
invariant_of-self g c =
    let grown : length c.self.inside.keys.state.log ≤ length c.put.new.self.log = length-Begins c.put.ensures.grows.begins in
    let fits = c.self.invariant.keys_base in
    record {
      trees_base = c.self.invariant.trees_base;
      store_base = c.self.invariant.store_base;
      keys_base = omega (arith, fits, grown);
      room = c.self.invariant.room;
    }
