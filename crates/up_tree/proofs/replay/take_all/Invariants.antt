use Rattle.std.proofs.Common.{◌≡◌, take, []}
use Rattle.up_lists.specs.Counts.{HasCause, StaysUnless}
use Rattle.up_journal.specs.Journal.{gate_behind}
use Rattle.up_journal.specs.Logs.{log_step}
use Rattle.up_journal.specs.Records.{OnlyPayloads, ReadUpTo}
use Rattle.up_log_tree.specs.Fits.{fits}
use Rattle.up_log_tree.specs.Sizes.{sizes_of}
use Rattle.up_tree.specs.States.{record_in}
use Rattle.up_tree.proofs.replay.take_all.Given as goal

abbrev pub invariant-loop-n : goal.invariant-loop-n
invariant-loop-n g l = record {
  so_far : ReadUpTo (log_step record_in (fits l.fn.tree.owner)) [] l.fn.journal.log l.n (gate_behind (take l.n l.fn.journal.sizes)) l.tree.log;
  read : OnlyPayloads g.D.Disk l.fn.journal l.journal;
  counts : HasCause (g.D.Disk.faults l.fn.journal.disk) (g.D.Disk.faults l.journal.disk) ⊥;
  quiet : StaysUnless (g.D.Disk.faults l.fn.journal.disk) (g.D.Disk.faults l.journal.disk) ⊥;
  owner : l.tree.owner ≡ l.fn.tree.owner;
  sizes : sizes_of l.tree.log ≡ take l.n l.fn.journal.sizes;
}
