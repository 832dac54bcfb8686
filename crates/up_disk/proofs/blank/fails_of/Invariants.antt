use Rattle.std.proofs.Common.{◌≡◌, take}
use Rattle.up_disk.specs.Planned.{fails_at}
use Rattle.up_disk.proofs.blank.fails_of.Given as goal

-- those of the faults so far
abbrev pub invariant-loop-fault : goal.invariant-loop-fault
invariant-loop-fault l = l.fails ≡ fails_at l.place (take l.fault-index l.faults)
