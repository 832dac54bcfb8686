use Rattle.std.proofs.Common.{◌≡◌, ◌<◌, ◌≤◌, ◌+◌, ◌-◌, ◌⊎◌, inl, inr, arith}
use Rattle.up_journal.proofs.Heads.{head_broken, head_canonical, head_is, head_whole}
use Rattle.up_journal.proofs.read.read_gate.Goals as goal
use Rattle.up_journal.proofs.read.read_gate.Goals.{then-size-largest-via-then-size-largest, then-size-largest-via-else-size-largest+then-left-head}

pub returns-then-size-largest-clause-gate : goal.returns-then-size-largest-clause-gate
returns-then-size-largest-clause-gate g c =
    let d = g.D.Disk in
    let disk = c.args.disk.now in
    let size = c.length_of-size.result in
    let head = head_is (d.content disk) c.args.place size c.read.new.buf c.read.auto.buf c.in_ok-read.ensures.bytes c.if-gate-ne-OPEN.false c.length_of-size.ensures.number c.length_of-size.ensures.again in
    let broken : (c.args.largest < size) ⊎ (c.args.device - c.args.place ≤ c.args.head + size) =
    (elim c.then-size-largest.branch [
      | then-size-largest-via-then-size-largest w ↦ inl (omega arith)
      | then-size-largest-via-else-size-largest+then-left-head w ↦ inr (omega arith)
    ]) in
    head_broken (d.content disk) c.args.place (d.size_of disk) c.args.head c.args.largest size (g.met.D.Disk.sized disk) (omega (arith, c.requires.inside, c.requires.device)) head
    (elim broken [ inl large ↦ inl large | inr long ↦ inr (omega (arith, long, c.requires.device)) ])

pub returns-clause-gate : goal.returns-clause-gate
returns-clause-gate g c =
    let d = g.D.Disk in
    let disk = c.args.disk.now in
    let size = c.length_of-size.result in
    let head = head_is (d.content disk) c.args.place size c.read.new.buf c.read.auto.buf c.in_ok-read.ensures.bytes c.if-gate-ne-OPEN.false c.length_of-size.ensures.number c.length_of-size.ensures.again in
    head_whole (d.content disk) c.args.place (d.size_of disk) c.args.head c.args.largest size (g.met.D.Disk.sized disk) head c.if-size-largest.false (omega (arith, c.if-left-head.false, c.requires.device))

pub returns-clause-canonical : goal.returns-clause-canonical
returns-clause-canonical g c n is =
    let d = g.D.Disk in
    let disk = c.args.disk.now in
    let size = c.length_of-size.result in
    let head = head_is (d.content disk) c.args.place size c.read.new.buf c.read.auto.buf c.in_ok-read.ensures.bytes c.if-gate-ne-OPEN.false c.length_of-size.ensures.number c.length_of-size.ensures.again in
    head_canonical (d.content disk) c.args.place size n head (let same : size ≡ n = cc in same)
