use Rattle.std.proofs.Common.{arith}
use Rattle.up_journal.proofs.Kept.{kept_gate, kept_safe, kept_sizes}
use Rattle.up_journal.proofs.journal.Journal.len.Goals as goal

pub returns-clause-sizes : goal.returns-clause-sizes
returns-clause-sizes g c =
    let j = c.self.inside in
    rw (← c.self.view_is) (kept_sizes g.D.Disk j.disk j.limits j.spans.items j.gate j.head j.doubtful c.self.invariant (g.met.D.Disk.sized j.disk))

pub returns-clause-largest : goal.returns-clause-largest
returns-clause-largest g c = rw (← c.self.view_is) c.self.invariant.gates.fitting

pub returns-clause-device : goal.returns-clause-device
returns-clause-device g c =
    let j = c.self.inside in
    let gate = kept_gate g.D.Disk j.disk j.limits j.spans.items j.gate j.head j.doubtful c.self.invariant (g.met.D.Disk.sized j.disk) in
    rw (← c.self.view_is) (omega (arith, gate, c.self.invariant.gates.inside))

pub returns-clause-safe : goal.returns-clause-safe
returns-clause-safe g c =
    let j = c.self.inside in
    rw (← c.self.view_is) (kept_safe g.D.Disk j.disk j.limits j.spans.items j.gate j.head j.doubtful c.self.invariant (g.met.D.Disk.sized j.disk) (g.met.D.Disk.told j.disk))
