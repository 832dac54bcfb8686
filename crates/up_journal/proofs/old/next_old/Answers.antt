use Rattle.std.proofs.Common.{◌≡◌, ◌+◌, Ok, [], drop, IfSome, refl, ap, subst, arith}
use Rattle.up_journal.specs.Format1.{format1}
use Rattle.up_journal.specs.Reading.{gate_at}
use Rattle.up_journal.specs.declared.read.Gate.{Gate}
use Rattle.up_journal.proofs.Kept.{is_format1}
use Rattle.up_journal.proofs.Olds.{damage_at, no_link, old_broken, old_record_at}
use Rattle.up_journal.proofs.Opened.{sized_as}
use Rattle.up_journal.proofs.Reading.{gates_more}
use Rattle.up_journal.proofs.old.next_old.Goals as goal

pub returns-in-Broken-clause-damaged : goal.returns-in-Broken-clause-damaged
returns-in-Broken-clause-damaged g c place is =
    let d = g.D.Disk in
    let disk = c.args.disk.now in
    let found = c.args.found.now in
    let sized = sized_as (d.content disk) (d.size_of disk) c.args.device c.requires.device (g.met.D.Disk.sized disk) in
    let broken = subst (λ (s : Gate). IfSome (d.content disk) (λ bytes. s ≡ gate_at 5 c.args.largest (drop found.gate bytes))) c.in-Broken.is c.in_ok-read_gate.ensures.gate in
    damage_at c.args.largest (d.content disk) found.gate place (old_broken c.args.largest c.requires.small found.spans.items found.gate [] c.args.device (d.content disk) c.requires.gates sized c.requires.long broken) is

pub returns-clause-gates : goal.returns-clause-gates
returns-clause-gates g c =
    let d = g.D.Disk in
    let disk = c.args.disk.now in
    let found = c.args.found.now in
    let n = c.in-Open.size in
    let sized = sized_as (d.content disk) (d.size_of disk) c.args.device c.requires.device (g.met.D.Disk.sized disk) in
    let opened = subst (λ (s : Gate). IfSome (d.content disk) (λ bytes. s ≡ gate_at 5 c.args.largest (drop found.gate bytes))) c.in-Open.is c.in_ok-read_gate.ensures.gate in
    let canonical = c.in_ok-read_gate.ensures.canonical n (ap Ok c.in-Open.is) in
    let within = c.in_ok-read_gate.ensures.within n (ap Ok c.in-Open.is) in
    let to_is : found.gate + (5 + n) ≡ found.gate + 5 + n = omega arith in
    rw c.read_gate.ensures.read.same
    (gates_more format1 is_format1 c.args.largest found.spans.items c.push.new.self.items (record { at = found.gate + 5; size = n }) found.gate (found.gate + (5 + n)) [] [] n c.args.device (d.content disk)
    c.requires.gates sized (old_record_at c.args.largest found.gate n (d.content disk) opened canonical) refl (no_link found.gate n (d.content disk)) within.fits within.inside refl refl c.in_ok-push.ensures.items to_is)
