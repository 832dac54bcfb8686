-- What a request asks of a directory, once its texts are read; or what of it is malformed, which no tree is looked at for
-- (this project's own).
use Rattle.std.specs.Prelude.{not, int_le, negsuc, Result, Ok, Err}
use Rattle.up_names.specs.Texts.{Text, UserName}
use Rattle.up_entry.specs.declared.fault.EntryFault.{EntryFault}
use Rattle.up_entry.specs.declared.fault.EntryFault.TheVariants.{Invalid, OutOfMemory}
use Rattle.up_entry.specs.declared.what.What.TheVariants as what
use Rattle.up_entry.specs.Checking.{◌>>=◌, checked_as, path_or, rule}
use Rattle.up_pattern.specs.declared.fault.PatternFault.{PatternFault}
use Rattle.up_pattern.specs.declared.fault.PatternFault.TheVariants as fault
use Rattle.up_pattern.specs.Patterns.{PatternName, pattern_of}
use Rattle.up_policy.specs.Trees.{owns_snapshots}
use Rattle.up_log_tree.specs.Rights.{is_group}
use Rattle.up_wire.specs.declared.requests.Request.{Request}
use Rattle.up_wire.specs.declared.requests.Request.TheVariants as request
use Rattle.up_list.specs.declared.asking.ReadRequest.{ReadRequest}
use Rattle.up_list.specs.declared.asking.ReadRequest.TheVariants.{Lookup, WhichAccess, GroupText, Delete, Put, Glob, Watch}

-- what is malformed of a pattern: its name, or the element with this number
abbrev pub pattern_fault : PatternFault → EntryFault
pattern_fault fault.Name = Invalid what.Name
pattern_fault (fault.Element i) = Invalid (what.Pattern i)
pattern_fault fault.OutOfMemory = OutOfMemory

-- the pattern of a text that has to be one
abbrev pub pattern_or_fault : Text → Result PatternName EntryFault
pattern_or_fault text = elim (pattern_of text) [
  | Ok pattern ↦ Ok pattern
  | Err why ↦ Err (pattern_fault why)
]

-- What a user's request asks, or the first rule that it breaks. A path has to be a path text, a pattern a pattern, an entry one
-- that may be put; GroupText asks of a Group path; a Watch has a sequence of at least -2, and is of no snapshot tree. A
-- request to the store or the keys names no path.
unfoldable pub asked_of : UserName → Request → Result ReadRequest EntryFault
asked_of user (request.Lookup text) = path_or what.Name text >>= λ path. Ok (Lookup path)
asked_of user (request.WhichAccess text) = path_or what.Name text >>= λ path. Ok (WhichAccess path)
asked_of user (request.GroupText text) = do
  path ← path_or what.Name text
  group ← rule what.GroupName (is_group path)
  Ok (GroupText path)
asked_of user (request.Delete text) = path_or what.Name text >>= λ path. Ok (Delete path)
asked_of user (request.Put put) = checked_as put user >>= λ checked. Ok (Put checked)
asked_of user (request.Glob text) = pattern_or_fault text >>= λ pattern. Ok (Glob pattern)
asked_of user (request.Watch text sequence) = do
  path ← path_or what.Name text
  bounded ← rule what.Sequence (int_le (negsuc 1) sequence)
  tree ← rule what.SnapshotWatch (not (owns_snapshots path.owner))
  Ok (Watch path sequence)
asked_of user (request.Get text) = Err (Invalid what.Name)
asked_of user (request.StorePut bytes) = Err (Invalid what.Name)
asked_of user (request.StoreDelete text) = Err (Invalid what.Name)
asked_of user (request.KeyLookup text) = Err (Invalid what.Name)
asked_of user (request.KeyPut card) = Err (Invalid what.Name)

-- the owner of the path, or of the pattern, that is asked of
abbrev pub owner_asked : ReadRequest → UserName
owner_asked (Lookup path) = path.owner
owner_asked (WhichAccess path) = path.owner
owner_asked (GroupText path) = path.owner
owner_asked (Delete path) = path.owner
owner_asked (Put put) = put.entry.name.owner
owner_asked (Glob pattern) = pattern.owner
owner_asked (Watch path sequence) = path.owner
