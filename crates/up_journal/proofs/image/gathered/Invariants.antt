use Rattle.std.proofs.Common.{◌≡◌, ◌++◌, drop, length, take, IfSome}
use Rattle.up_lists.specs.Counts.{HasCause, StaysUnless}
use Rattle.up_journal.specs.Cells.{OnlyRead}
use Rattle.up_journal.specs.Format2.{format2}
use Rattle.up_journal.specs.Gates.{behind_gates, front_of, record_list}
use Rattle.up_journal.specs.Journal.{gate_behind}
use Rattle.up_journal.specs.Kept.{payloads_at, sizes_of}
use Rattle.up_journal.proofs.image.gathered.Given as goal

-- the image so far, and the records of what is left, make the whole
abbrev pub invariant-loop-span : goal.invariant-loop-span
invariant-loop-span g l = record {
  image : IfSome (g.D.Disk.content l.fn.disk) (λ bytes. l.so_far.image.items ++ behind_gates (record_list format2 l.so_far.link (payloads_at (drop l.span-index l.spans) bytes)) ≡ front_of format2 (payloads_at l.spans bytes));
  named : take 8 l.so_far.image.items ≡ format2.name;
  long : length l.so_far.image.items ≡ gate_behind (take l.span-index (sizes_of l.spans));
  read : OnlyRead g.D.Disk l.fn.disk l.disk;
  counts : HasCause (g.D.Disk.faults l.fn.disk) (g.D.Disk.faults l.disk) ⊥;
  quiet : StaysUnless (g.D.Disk.faults l.fn.disk) (g.D.Disk.faults l.disk) ⊥;
}
