-- What is found in a tree that is looked at.
use Rattle.up_entry.specs.declared.entries.Entry.{Entry}
use Rattle.up_list.specs.declared.found.Found.{Found}
use Rattle.up_list.specs.declared.found.Found.TheVariants.{Kept, Made}

-- the entry that is found
abbrev pub entry_found : Found → Entry
entry_found (Kept entry) = entry.now
entry_found (Made entry) = entry
