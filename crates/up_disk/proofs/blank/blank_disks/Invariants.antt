use Rattle.std.proofs.Common.{◌≡◌, ℕ, IfSome, length, slice_get}
use Rattle.std.specs.List.{AllByRecursion}
use Rattle.up_lists.specs.Calls.{no_call_made}
use Rattle.up_disk.specs.contracts.memory.MemDiskDisk.TheImpl as memory
use Rattle.up_disk.specs.Leaving.{IsBlank}
use Rattle.up_disk.specs.Memory.{plan_of}
use Rattle.up_disk.specs.Planned.{fails_at}
use Rattle.up_disk.proofs.blank.blank_disks.Given as goal

-- each disk so far is blank, and fails as its place says
abbrev pub invariant-loop-place : goal.invariant-loop-place
invariant-loop-place l = record {
  count : length l.disks.disks ≡ l.place;
  blank : AllByRecursion (IsBlank memory.ghosts) l.disks.disks;
  plans : (place : ℕ) → IfSome (slice_get l.disks.disks place) (λ disk. plan_of disk ≡ no_call_made (fails_at place l.fn.faults));
}
