-- What the first records tell was noted.
use Rattle.std.proofs.Common.{◌≡◌}
use Rattle.up_audit.proofs.marks.note_log.Given as goal
use Rattle.up_audit.specs.Marks.{Notes, last_snap, told_by}

abbrev pub invariant-loop-i : goal.invariant-loop-i
invariant-loop-i l = record {
  snap : l.snap ≡ last_snap l.tree.log l.i;
  notes : Notes l.fn.used.noted.entries l.used.noted.entries (told_by l.tree.log l.i);
}
