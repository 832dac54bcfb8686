-- Which log a request goes to, and which blocks have to be fetched for it (this project's own).
use Rattle.std.specs.Prelude.{if◌then◌else◌, List, [], ◌∷◌, ◌++◌, map, fold}
use Rattle.std.specs.List.{list_any}
use Rattle.up_entry.specs.declared.entries.Block.{Block}
use Rattle.up_entry.specs.declared.entries.Entry.{Entry}
use Rattle.up_entry.specs.declared.entries.Location.{Location}
use Rattle.up_entry.specs.ControlFiles.{is_control_file}
use Rattle.up_list.specs.declared.asking.ReadRequest.{ReadRequest}
use Rattle.up_list.specs.declared.asking.ReadRequest.TheVariants.{Lookup, WhichAccess, GroupText, Delete, Put, Glob, Watch}
use Rattle.up_answers.specs.Fetching.{location_eq}

-- a list with a location at its end, where it does not have it yet
abbrev pub with_location : List Location → Location → List Location
with_location locations location = if list_any (location_eq location) locations then locations else locations ++ location ∷ []

-- the different locations of blocks, in order
abbrev pub locations_of : List Block → List Location
locations_of blocks = fold with_location [] (map (λ block. block.location) blocks)

-- what has to be fetched for an entry that is put: the blocks of a control file
abbrev pub locations_for : Entry → List Location
locations_for entry = if is_control_file entry.attr.kind entry.name then locations_of entry.blocks else []

-- what has to be fetched for a request: nothing but for a Put
abbrev pub locations_asked : ReadRequest → List Location
locations_asked (Put put) = locations_for put.entry
locations_asked (Lookup path) = []
locations_asked (WhichAccess path) = []
locations_asked (GroupText path) = []
locations_asked (Delete path) = []
locations_asked (Glob pattern) = []
locations_asked (Watch path sequence) = []
