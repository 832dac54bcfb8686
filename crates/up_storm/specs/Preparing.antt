-- The host of a storm, before its sessions run. This project's own.
use Rattle.std.specs.Prelude.{◌≡◌, ℕ, zero, suc, ◌+◌, false, List, [], ◌∷◌, ◌++◌, length, codes, Ok}
use Rattle.std.specs.List.{AllByRecursion, list_any}
use Rattle.sha2.specs.Sha256.{sha256}
use Rattle.up_calls.specs.declared.event.Event.{Event}
use Rattle.up_disk.specs.Leaving.{IsBlank}
use Rattle.up_disk.specs.declared.disk.Disk as disk
use Rattle.up_entry.specs.declared.entries.Block.{Block}
use Rattle.up_entry.specs.declared.entries.Endpoint.TheVariants.{Local}
use Rattle.up_host.specs.Alone.{HostState}
use Rattle.up_host.specs.Opens.{OpensHost}
use Rattle.up_host.specs.Runs.{IsHistory}
use Rattle.up_host.specs.declared.run.Call.{Call}
use Rattle.up_journal.specs.declared.limits.Limits.{Limits}
use Rattle.up_names.specs.Texts.{Text, UserName}
use Rattle.up_names.specs.UserNames.{user_of}
use Rattle.up_peer.specs.declared.loader.Loader.{Ghosts}
use Rattle.up_shared.specs.Sharing.{EachPair}
use Rattle.up_storm.specs.Asked.{access_text, directory_text, owner_text, put_of}
use Rattle.up_storm.specs.Sessions.{is_fault}
use Rattle.up_wire.specs.declared.requests.Request.{Request}
use Rattle.up_wire.specs.declared.requests.Request.TheVariants as request

-- a request, and the name of who asks it
pub record Wanted : Type 0 where
  pub who : Text
  pub what : Request

-- a call is what was wanted, at moment 0
pub record IsWanted (wanted : Wanted) (call : Call) : Type 0 where
  pub user : user_of wanted.who ≡ Ok call.session.user
  pub request : call.request ≡ wanted.what
  pub moment : call.moment ≡ 0

-- an owner puts the root of its tree
abbrev pub root_of : Text → Wanted
root_of owner = record { who = owner; what = put_of owner (owner ++ codes "/") 1 [] }

-- a file of one block, which the host's own store keeps
abbrev pub whole_block : Text → Block
whole_block text = record { location = record { endpoint = Local; reference = sha256 text }; offset = 0; size = length text; packdata = [] }

-- the two owners each put the root of their tree
abbrev pub roots : List Wanted
roots = root_of (codes "a@storm.example") ∷ root_of (codes "b@storm.example") ∷ []

-- for session k the owner of its tree puts its directory
abbrev pub directory_of : ℕ → Wanted
directory_of k = record { who = owner_text k; what = put_of (owner_text k) (directory_text k) 1 [] }

-- for session k the owner of its tree has the text of its Access file kept as a block
abbrev pub block_of : ℕ → Wanted
block_of k = record { who = owner_text k; what = request.StorePut (access_text k) }

-- for session k the owner of its tree puts the Access file, whose block is that text
abbrev pub access_of : ℕ → Wanted
access_of k =
    record { who = owner_text k; what = put_of (owner_text k) (directory_text k ++ codes "/Access") 0 (whole_block (access_text k) ∷ []) }

-- what is asked for session k: its directory, the block, and the Access file
abbrev pub prepares : ℕ → List Wanted
prepares k = directory_of k ∷ block_of k ∷ access_of k ∷ []

-- what is asked for the n sessions from k on, one after the other
abbrev pub prepares_from : ℕ → ℕ → List Wanted
prepares_from k zero = []
prepares_from k (suc n) = prepares k ++ prepares_from (k + 1) n

-- all that prepares a host for so many sessions: first what both owners ask, and then what is asked for each session
abbrev pub preparing : ℕ → List Wanted
preparing sessions = roots ++ prepares_from 0 sessions

-- the limits of the logs
abbrev pub storm_limits : Limits
storm_limits = record { records = 1048576; device = 1073741824; largest = 131072 }

-- The host `storm` was opened over empty disks, with the trees of both owners.
pub record IsOpened {D : Type 0} (disks : disk.Ghosts D) (host : HostState D) : Type 0 where
  pub given : List D
  pub blank : AllByRecursion (IsBlank disks) given
  pub operator : UserName
  pub operator_is : user_of (codes "op@storm.example") ≡ Ok operator
  pub opens : OpensHost disks storm_limits (codes "storm") operator (codes "a@storm.example" ∷ codes "b@storm.example" ∷ []) given host

-- Calls were made of a host, one after the other; no disk failed, and memory was there.
pub record HasAskedAll {D L : Type 0} (disks : disk.Ghosts D) (loader : Ghosts L) (none : L)
    (opened : HostState D) (calls : List Call) (host : HostState D) : Type 0 where
  pub after : L
  pub events : List Event
  pub history : IsHistory disks loader opened none calls host after events
  pub sound : list_any (λ (event : Event). is_fault event.reply) events ≡ false

-- all that prepares a host was asked of it
pub record HasPrepared {D L : Type 0} (disks : disk.Ghosts D) (loader : Ghosts L)
    (none : L) (sessions : ℕ) (opened host : HostState D) : Type 0 where
  pub calls : List Call
  pub wanted : EachPair IsWanted (preparing sessions) calls
  pub asked : HasAskedAll disks loader none opened calls host

-- a host that was opened and prepared
pub record IsPrepared {D L : Type 0} (disks : disk.Ghosts D) (loader : Ghosts L)
    (none : L) (sessions : ℕ) (host : HostState D) : Type 0 where
  pub opened : HostState D
  pub is_opened : IsOpened disks opened
  pub prepared : HasPrepared disks loader none sessions opened host

-- calls that were wanted were added to a list
pub record AddsWanted (wanted : List Wanted) (old new : List Call) : Type 0 where
  pub more : List Call
  pub whole : new ≡ old ++ more
  pub each : EachPair IsWanted wanted more
