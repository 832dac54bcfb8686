use Rattle.std.proofs.Common.{◌≡◌, take, []}
use Rattle.up_lists.specs.Counts.{HasCause, StaysUnless}
use Rattle.up_journal.specs.Journal.{gate_behind}
use Rattle.up_journal.specs.Logs.{EachFits, log_step}
use Rattle.up_journal.specs.Records.{OnlyPayloads, ReadUpTo}
use Rattle.up_keys.specs.Keys.{AreLast, sizes_of}
use Rattle.up_keys.specs.Records.{decoded, fits}
use Rattle.up_keys.proofs.replay.take_all.Given as goal

abbrev pub invariant-loop-n : goal.invariant-loop-n
invariant-loop-n g l = record {
  so_far : ReadUpTo (log_step decoded fits) [] l.fn.journal.log l.n (gate_behind (take l.n l.fn.journal.sizes)) l.known.records.items;
  read : OnlyPayloads g.D.Disk l.fn.journal l.journal;
  counts : HasCause (g.D.Disk.faults l.fn.journal.disk) (g.D.Disk.faults l.journal.disk) ⊥;
  quiet : StaysUnless (g.D.Disk.faults l.fn.journal.disk) (g.D.Disk.faults l.journal.disk) ⊥;
  fitting : EachFits fits l.known.records.items;
  last : AreLast l.known.records.items l.known.last.entries;
  sizes : sizes_of l.known.records.items ≡ take l.n l.fn.journal.sizes;
}
