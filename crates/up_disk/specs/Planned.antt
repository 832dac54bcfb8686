-- Which calls of which disks are to fail. This project's own.
use Rattle.std.specs.Prelude.{◌==◌, ℕ, List, map}
use Rattle.std.specs.List.{filter}
use Rattle.up_disk.specs.declared.blank.DiskFault.{DiskFault}

-- the numbers of the calls that are to fail of the disk at a place
abbrev pub fails_at : ℕ → List DiskFault → List ℕ
fails_at place faults = map (λ fault. fault.call) (filter (λ fault. fault.disk == place) faults)
