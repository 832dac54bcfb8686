use Rattle.std.proofs.Common.{None, arith}
use Rattle.up_journal.specs.Kept.{log_seen}
use Rattle.up_journal.proofs.Kept.{has_log, kept_gate, kept_safe}
use Rattle.up_journal.proofs.journal.Journal.open.Goals as goal

pub returns-in-Ok-clause-safe : goal.returns-in-Ok-clause-safe
returns-in-Ok-clause-safe g c =
    let d = g.D.Disk in
    let disk = c.find.new.disk in
    let found = c.in-Ok.found in
    record {
      each = λ image left. has_log c.args.limits.largest (log_seen (d.content disk) found.spans.items) image
          ((kept_safe d disk c.args.limits found.spans.items found.gate found.head None c.in-Ok.ensures.kept (g.met.D.Disk.sized disk) (g.met.D.Disk.told disk)).each image left);
    }

pub returns-in-Ok-clause-within : goal.returns-in-Ok-clause-within
returns-in-Ok-clause-within g c =
    let d = g.D.Disk in
    let disk = c.find.new.disk in
    let found = c.in-Ok.found in
    let kept = c.in-Ok.ensures.kept in
    let place = kept_gate d disk c.args.limits found.spans.items found.gate found.head None kept (g.met.D.Disk.sized disk) in
    (omega (arith, place, kept.gates.inside), omega (arith, place, kept.small))
