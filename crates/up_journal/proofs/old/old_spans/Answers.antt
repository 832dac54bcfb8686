use Rattle.std.proofs.Common.{false, sym, arith}
use Rattle.std.proofs.lemmas.Bool.{not-true}
use Rattle.std.specs.Str.{bytes_eq}
use Rattle.up_journal.specs.Format1.{format1}
use Rattle.up_journal.proofs.Olds.{damage_at, new_old, other_old}
use Rattle.up_journal.proofs.Opened.{named_as}
use Rattle.up_journal.proofs.old.old_spans.Goals as goal

pub returns-then-device-clause-log : goal.returns-then-device-clause-log
returns-then-device-clause-log g c =
    let d = g.D.Disk in
    let disk = c.args.disk.now in
    rw c.new.ensures.items (new_old c.args.largest (d.content disk) (d.size_of disk) (g.met.D.Disk.sized disk) (omega (arith, c.size-device.ensures, c.if-device.true)))

pub returns-then-ne-clause-damaged : goal.returns-then-ne-clause-damaged
returns-then-ne-clause-damaged g c place is =
    let d = g.D.Disk in
    let disk = c.args.disk.now in
    let other = named_as format1 (d.content disk) c.in_ok-name.name c.as_slice.result.now c.as_slice-2.result.now false c.in_ok-name.ensures.name c.as_slice.ensures c.as_slice-2.ensures (sym (not-true (bytes_eq c.as_slice.result.now c.as_slice-2.result.now) (sym c.if-ne.ensures))) in
    damage_at c.args.largest (d.content disk) 0 place (other_old c.args.largest (d.size_of disk) (d.content disk) (g.met.D.Disk.sized disk) (omega (arith, c.size-device.ensures, c.if-device.false)) other) is
