-- What a client's request asks of a directory, once its texts are read, is of the kind of the request.
use Rattle.std.proofs.Common.{List, ℕ, Result, Ok, Err}
use Rattle.std.specs.Prelude.{⊤}
use Rattle.up_entry.specs.Checking.{◌>>=◌, checked_as, path_or}
use Rattle.up_entry.specs.declared.fault.EntryFault.{EntryFault}
use Rattle.up_entry.specs.declared.puts.Checked.{Checked}
use Rattle.up_entry.specs.declared.puts.PutEntry.{PutEntry}
use Rattle.up_entry.specs.declared.what.What.TheVariants as what
use Rattle.up_list.specs.Asking.{asked_of}
use Rattle.up_list.specs.declared.asking.ReadRequest.{ReadRequest}
use Rattle.up_list.specs.declared.asking.ReadRequest.TheVariants.{Lookup, Put}
use Rattle.up_names.specs.PathNames.{PathName}
use Rattle.up_wire.specs.declared.requests.Request.{Request}
use Rattle.up_wire.specs.declared.requests.Request.TheVariants as request

-- a Lookup asks a Lookup, and a Put a Put
abbrev pub AskedBy : Request → ReadRequest → Type 0
AskedBy (request.Lookup text) (Lookup path) = ⊤
AskedBy (request.Lookup text) other = ⊥
AskedBy (request.Put entry) (Put put) = ⊤
AskedBy (request.Put entry) other = ⊥
AskedBy asked other = ⊤

abbrev pub ReadBy : Request → Result ReadRequest EntryFault → Type 0
ReadBy asked (Ok read) = AskedBy asked read
ReadBy asked (Err why) = ⊤

lookup_by : (text : List ℕ) (m : Result PathName EntryFault) → ReadBy (request.Lookup text) (m >>= λ path. Ok (Lookup path))
lookup_by text (Ok path) = tt
lookup_by text (Err why) = tt

pub lookup_read : (user text : List ℕ) → ReadBy (request.Lookup text) (asked_of user (request.Lookup text))
unfolding asked_of
lookup_read user text = lookup_by text (path_or what.Name text)

put_by : (entry : PutEntry) (m : Result Checked EntryFault) → ReadBy (request.Put entry) (m >>= λ put. Ok (Put put))
put_by entry (Ok put) = tt
put_by entry (Err why) = tt

pub put_read : (user : List ℕ) (entry : PutEntry) → ReadBy (request.Put entry) (asked_of user (request.Put entry))
unfolding asked_of
put_read user entry = put_by entry (checked_as entry user)
