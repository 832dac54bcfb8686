-- The hosts of a script side by side, and what stands around them. This project's own.
use Rattle.std.specs.Prelude.{◌≡◌, ◌+◌, ◌-◌, ◌^◌, ◌<◌, ◌≤◌, ℕ, Bool, List, replicate, slice_get, slice_set, Option, Some, None}
use Rattle.std.specs.List.{sum_by}
use Rattle.std.specs.Option.{option_and_then, option_map}
use Rattle.std.specs.Str.{bytes_eq}
use Rattle.up_disk.specs.declared.disk.Disk as disk
use Rattle.up_ends.specs.declared.clock.Clock as clock
use Rattle.up_ends.specs.declared.nonces.Nonces as nonces
use Rattle.up_ends.specs.declared.verifier.Verifier as verifier
use Rattle.up_host.specs.Alone.{HostState, disk_faults}
use Rattle.up_names.specs.Texts.{UserName}
use Rattle.up_peer.specs.declared.loader.Loader as loader
use Rattle.up_sessions.specs.declared.opened.Opened.{Opened}

-- the hosts in the order in which they were opened; at each number the session that is open there, if one is; and the disks that no
-- host has yet, in order
pub record Hosts (D : Type 0) : Type 0 where
  pub hosts : List (HostState D)
  pub sessions : List (Option Opened)
  pub free : List D

-- the session that is open at a number of this list
abbrev pub session_in : List (Option Opened) → ℕ → Option Opened
session_in sessions number = option_and_then (λ session. session) (slice_get sessions number)

-- the session that is open at a number, among those of the hosts
abbrev pub session_at : {D : Type 0} → Hosts D → ℕ → Option Opened
session_at a number = session_in a.sessions number

-- the user of the session that is open at a number of this list
abbrev pub user_in : List (Option Opened) → ℕ → Option UserName
user_in sessions number = option_map (λ (opened : Opened). opened.session.user) (session_in sessions number)

-- the user of the session that is open at a number, among those of the hosts
abbrev pub user_at : {D : Type 0} → Hosts D → ℕ → Option UserName
user_at a number = user_in a.sessions number

-- no session at any of the numbers from 0 to 99
abbrev pub no_session : List (Option Opened)
no_session = replicate 100 None

-- the hosts, with this session open at a number, or with none there
abbrev pub with_session : {D : Type 0} → ℕ → Option Opened → Hosts D → Hosts D
with_session number session a = record a { sessions = slice_set a.sessions number session }

-- whether a host has this name
abbrev pub is_named : {D : Type 0} → List ℕ → HostState D → Bool
is_named name host = bytes_eq host.name name

-- The host at a place became another one, and all else stays.
pub record AtHost {D : Type 0} (place : ℕ) (did : HostState D → HostState D → Type 0) (a b : Hosts D) : Type 0 where
  pub before : HostState D
  pub after : HostState D
  pub there : slice_get a.hosts place ≡ Some before
  pub whole : b ≡ record a { hosts = slice_set a.hosts place after }
  pub done : did before after

-- how often all disks failed, together: those of the hosts, and those that are free
abbrev pub faults_in : {D : Type 0} → disk.Ghosts D → Hosts D → ℕ
faults_in disks a = sum_by (disk_faults disks) a.hosts + sum_by disks.faults a.free

-- The counts of the disks and of the peers never fall, and rose together by at least so many, unless they stand at their end.
pub record CountsRose (disks_before disks_after peers_before peers_after least : ℕ) : Type 0 where
  pub disks : disks_before ≤ disks_after
  pub peers : peers_before ≤ peers_after
  pub io : disks_after + peers_after < 2 ^ 64 - 1 → disks_before + peers_before + least ≤ disks_after + peers_after

-- The count of all that may fail never falls, and rose by at least so many, unless it stands at its end.
pub record RosePerIo (before after least : ℕ) : Type 0 where
  pub later : before ≤ after
  pub io : after < 2 ^ 64 - 1 → before + least ≤ after

-- ---- what stands around the hosts

-- the peers, who judges signatures, the clock, and where challenges come from
pub record Around (P V C N : Type 0) : Type 0 where
  pub peers : P
  pub verifier : V
  pub clock : C
  pub nonces : N

-- the hosts and all that stands around them
pub record World (D P V C N : Type 0) : Type 0 where
  pub state : Hosts D
  pub around : Around P V C N

-- what disks and those around tell
pub record Parties (D P V C N : Type 0) : Type 1 where
  pub disks : disk.Ghosts D
  pub peers : loader.Ghosts P
  pub verifiers : verifier.Ghosts V
  pub clocks : clock.Ghosts C
  pub nonces : nonces.Ghosts N

-- how often disks and peers failed, all together
abbrev pub faults_of : {D P V C N : Type 0} → Parties D P V C N → World D P V C N → ℕ
faults_of who a = faults_in who.disks a.state + who.peers.faults a.around.peers
