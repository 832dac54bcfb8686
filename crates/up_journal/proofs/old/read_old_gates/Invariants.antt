use Rattle.std.proofs.Common.{◌-◌, []}
use Rattle.up_lists.specs.Counts.{HasCause, StaysUnless}
use Rattle.up_journal.specs.Cells.{OnlyRead}
use Rattle.up_journal.specs.Format1.{format1}
use Rattle.up_journal.specs.Kept.{AreGates}
use Rattle.up_journal.proofs.old.read_old_gates.Given as goal

abbrev pub invariant-loop-found : goal.invariant-loop-found
invariant-loop-found g l = record {
  gates : AreGates format1 l.largest l.found.spans.items l.found.gate [] l.device (g.D.Disk.content l.disk);
  read : OnlyRead g.D.Disk l.fn.disk l.disk;
  counts : HasCause (g.D.Disk.faults l.fn.disk) (g.D.Disk.faults l.disk) ⊥;
  quiet : StaysUnless (g.D.Disk.faults l.fn.disk) (g.D.Disk.faults l.disk) ⊥;
}

abbrev pub decreases-loop-found : goal.decreases-loop-found
decreases-loop-found g l = l.device - l.found.gate
