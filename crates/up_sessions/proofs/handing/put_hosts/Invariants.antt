use Rattle.std.proofs.Common.{◌≡◌, ◌≤◌, ◌++◌, length}
use Rattle.std.specs.List.{AllByRecursion, flat_map, sum_by}
use Rattle.up_host.specs.Opens.{LeavesHost, disks_of}
use Rattle.up_sessions.specs.Kept.{disk_count}
use Rattle.up_sessions.proofs.handing.put_hosts.Given as goal

abbrev pub invariant-loop-host : goal.invariant-loop-host
invariant-loop-host g l = record {
  disks : l.disks.disks ++ flat_map disks_of l.left.items ≡ l.fn.disks.disks ++ flat_map disks_of l.fn.hosts.items;
  safe : AllByRecursion (LeavesHost g.D.Disk) l.left.items → AllByRecursion (LeavesHost g.D.Disk) l.fn.hosts.items;
  room : sum_by disk_count l.left.items ≤ l.disks.spare;
}

abbrev pub decreases-loop-host : goal.decreases-loop-host
decreases-loop-host g l = length l.left.items
