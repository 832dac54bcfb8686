-- What calls on a script know of what it stands among. This project's own.
use Rattle.std.specs.Prelude.{◌≤◌, List, []}
use Rattle.up_disk.specs.declared.disk.Disk as disk
use Rattle.up_ends.specs.declared.clock.Clock as clock
use Rattle.up_ends.specs.declared.nonces.Nonces as nonces
use Rattle.up_ends.specs.declared.verifier.Verifier as verifier
use Rattle.up_journal.specs.Journal.{AreLimits}
use Rattle.up_journal.specs.declared.limits.Limits.{Limits}
use Rattle.up_keys.specs.Records.{largest_room}
use Rattle.up_peer.specs.declared.loader.Loader as loader
use Rattle.up_sessions.specs.Worlds.{Around, Hosts, Parties, World, no_session}

-- what disks, peers, verifiers, clocks and nonces tell
abbrev pub parties : {D P V C N : Type 0} → disk.Ghosts D → loader.Ghosts P
    → verifier.Ghosts V → clock.Ghosts C → nonces.Ghosts N → Parties D P V C N
parties disks peers verifiers clocks drawn = record { disks = disks; peers = peers; verifiers = verifiers; clocks = clocks; nonces = drawn }

-- what stands around the hosts
abbrev pub around : {P V C N : Type 0} → P → V → C → N → Around P V C N
around peers verifier clock nonces = record { peers = peers; verifier = verifier; clock = clock; nonces = nonces }

-- the hosts, and what stands around them
abbrev pub world : {D P V C N : Type 0} → Hosts D → P → V → C → N → World D P V C N
world state peers verifier clock nonces = record { state = state; around = around peers verifier clock nonces }

-- limits that the trees and keys of a script's hosts may have
pub record AreHostLimits (limits : Limits) : Type 0 where
  pub of_journal : AreLimits limits
  pub least : largest_room ≤ limits.largest
  pub most : limits.largest ≤ 1048000

-- the limits that the program gives them
abbrev pub script_limits : Limits
script_limits = record { records = 1048576; device = 1073741824; largest = 131072 }

-- before the first line there is no host and no session, and all disks are free
abbrev pub at_first : {D : Type 0} → List D → Hosts D
at_first disks = record { hosts = []; sessions = no_session; free = disks }
