use Rattle.std.proofs.Common.{◌≡◌, take, map, []}
use Rattle.up_blocks.specs.Kept.{IsIndex, size_kept}
use Rattle.up_blocks.specs.Records.{decoded, fits}
use Rattle.up_blocks.proofs.Replayed.{up_to}
use Rattle.up_lists.specs.Counts.{HasCause, StaysUnless}
use Rattle.up_journal.specs.Journal.{gate_behind}
use Rattle.up_journal.specs.Logs.{EachFits, log_step}
use Rattle.up_journal.specs.Records.{OnlyPayloads, ReadUpTo}
use Rattle.up_blocks.proofs.replay.take_all.Given as goal

abbrev pub invariant-loop-n : goal.invariant-loop-n
invariant-loop-n g l = record {
  so_far : ReadUpTo (log_step decoded fits) [] l.fn.journal.log l.n (gate_behind (take l.n l.fn.journal.sizes)) (up_to l.n l.fn.journal.log l.index.records.items);
  index : IsIndex (up_to l.n l.fn.journal.log l.index.records.items) l.index.records.items l.index.numbers.entries;
  fitting : EachFits fits (up_to l.n l.fn.journal.log l.index.records.items);
  read : OnlyPayloads g.D.Disk l.fn.journal l.journal;
  counts : HasCause (g.D.Disk.faults l.fn.journal.disk) (g.D.Disk.faults l.journal.disk) ⊥;
  quiet : StaysUnless (g.D.Disk.faults l.fn.journal.disk) (g.D.Disk.faults l.journal.disk) ⊥;
  sizes : map size_kept l.index.records.items ≡ take l.n l.fn.journal.sizes;
}
