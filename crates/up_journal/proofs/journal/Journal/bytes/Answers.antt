use Rattle.std.proofs.Common.{arith}
use Rattle.up_journal.proofs.Kept.{kept_gate}
use Rattle.up_journal.proofs.journal.Journal.bytes.Goals as goal

pub returns : goal.returns
returns g c =
    let j = c.self.inside in
    rw (← c.self.view_is) (let gate = kept_gate g.D.Disk j.disk j.limits j.spans.items j.gate j.head j.doubtful c.self.invariant (g.met.D.Disk.sized j.disk) in omega (arith, gate))
