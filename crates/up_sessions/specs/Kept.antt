-- What is kept of the hosts of a script besides what contracts see. This project's own.
use Rattle.std.specs.Prelude.{◌≡◌, ◌≤◌, ◌<◌, ◌+◌, ℕ, List, length, slice_get, slice_set, Option, Some}
use Rattle.std.specs.List.{sum_by}
use Rattle.up_host.specs.Alone.{HostState}
use Rattle.up_sessions.specs.declared.opened.Opened.{Opened}

-- how many disks a host has: those of its trees, of its store, and of its keys
abbrev pub disk_count : {D : Type 0} → HostState D → ℕ
disk_count host = length host.trees + 2

-- There are a hundred numbers for sessions, each session is at one of the hosts, and there is room for the disks of all hosts.
pub record IsKept {D : Type 0} (hosts : List (HostState D)) (sessions : List (Option Opened)) (spare : ℕ) : Type 0 where
  pub numbers : length sessions ≡ 100
  pub places : (number : ℕ) (opened : Opened) → slice_get sessions number ≡ Some (Some opened) → opened.place < length hosts
  pub room : sum_by disk_count hosts ≤ spare

-- The host at a place of a list became another one, and so did what stands behind it.
pub record OneOf {D P : Type 0} (place : ℕ) (did : HostState D → HostState D → P → P → Type 0)
    (hosts : List (HostState D)) (old : P) (later : List (HostState D)) (new : P) : Type 0 where
  pub before : HostState D
  pub after : HostState D
  pub there : slice_get hosts place ≡ Some before
  pub whole : later ≡ slice_set hosts place after
  pub done : did before after old new
