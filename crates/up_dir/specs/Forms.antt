-- What is known of a request whose texts were read. This project's own.
use Rattle.std.specs.Prelude.{⊤}
use Rattle.up_entry.specs.FixedForm.{HasFixedForm}
use Rattle.up_list.specs.declared.asking.ReadRequest.{ReadRequest}
use Rattle.up_list.specs.declared.asking.ReadRequest.TheVariants.{Lookup, WhichAccess, GroupText, Delete, Put, Glob, Watch}

-- the entry of a Put has the form of entries
abbrev pub IsFormed : ReadRequest → Type 0
IsFormed (Put put) = HasFixedForm put.entry
IsFormed (Lookup path) = ⊤
IsFormed (WhichAccess path) = ⊤
IsFormed (GroupText path) = ⊤
IsFormed (Delete path) = ⊤
IsFormed (Glob pattern) = ⊤
IsFormed (Watch path sequence) = ⊤
