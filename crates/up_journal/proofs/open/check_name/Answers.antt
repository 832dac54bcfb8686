use Rattle.std.proofs.Common.{true, false}
use Rattle.up_journal.specs.Format1.{format1}
use Rattle.up_journal.specs.Format2.{format2, log_of}
use Rattle.up_journal.proofs.Opened.{damaged_is, named_as, old_is, old_named, unnamed}
use Rattle.up_journal.proofs.open.check_name.Goals as goal

pub returns-then-eq-2-clause-damaged : goal.returns-then-eq-2-clause-damaged
returns-then-eq-2-clause-damaged g c largest =
    let d = g.D.Disk in
    let disk = c.args.disk.now in
    let other = named_as format2 (d.content disk) c.in_ok-name.name c.as_slice.result.now c.as_slice-2.result.now false c.in_ok-name.ensures.name c.as_slice.ensures c.as_slice-2.ensures c.if-eq.ensures in
    let old = named_as format1 (d.content disk) c.in_ok-name.name c.as_slice-3.result.now c.as_slice-4.result.now true c.in_ok-name.ensures.name c.as_slice-3.ensures c.as_slice-4.ensures c.if-eq-2.ensures in
    old_is (log_of largest) (d.content disk) (old_named largest (d.size_of disk) (d.content disk) (g.met.D.Disk.sized disk) c.requires other old)

pub returns-clause-damaged : goal.returns-clause-damaged
returns-clause-damaged g c largest =
    let d = g.D.Disk in
    let disk = c.args.disk.now in
    let other = named_as format2 (d.content disk) c.in_ok-name.name c.as_slice.result.now c.as_slice-2.result.now false c.in_ok-name.ensures.name c.as_slice.ensures c.as_slice-2.ensures c.if-eq.ensures in
    let unknown = named_as format1 (d.content disk) c.in_ok-name.name c.as_slice-3.result.now c.as_slice-4.result.now false c.in_ok-name.ensures.name c.as_slice-3.ensures c.as_slice-4.ensures c.if-eq-2.ensures in
    damaged_is (log_of largest) (d.content disk) 0 (unnamed largest (d.size_of disk) (d.content disk) (g.met.D.Disk.sized disk) c.requires other unknown)
