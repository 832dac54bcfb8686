use Rattle.std.proofs.Common.{codes, subst}
use Rattle.up_disk.specs.contracts.memory.MemDiskDisk.TheImpl as memory
use Rattle.up_host.specs.Opens.{OpensHost}
use Rattle.up_storm.proofs.Names.{owners_differ}
use Rattle.up_storm.specs.Preparing.{storm_limits}
use Rattle.up_storm.proofs.opening.open_host.Goals as goal

pub open-requires-clause-owners : goal.open-requires-clause-owners
open-requires-clause-owners c = owners_differ c.in-Ok.owners c.in-Ok.ensures

pub returns-in-Ok-open : goal.returns-in-Ok-open
returns-in-Ok-open c = record {
  given = c.in-Ok-empty_disks.disks.disks;
  blank = c.in-Ok-empty_disks.ensures.blank;
  operator = c.in_ok-operator.operator;
  operator_is = c.in_ok-operator.ensures;
  opens = subst (λ owners. OpensHost memory.ghosts storm_limits (codes "storm") c.in_ok-operator.operator owners c.in-Ok-empty_disks.disks.disks c.in-Ok-open.host) c.in-Ok.ensures c.in-Ok-open.ensures.opens;
}
