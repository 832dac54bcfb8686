-- How the items under a path are found. (That these are all is proved; nothing outside rests on this definition.)
use Rattle.std.specs.Prelude.{◌≡◌, List, ◌++◌}
use Rattle.std.specs.List.{flat_map}
use Rattle.std.specs.Option.{option_to_list}
use Rattle.up_names.specs.PathNames.{PathName}
use Rattle.up_entry.specs.declared.entries.Entry.{Entry}
use Rattle.up_log_tree.specs.Trees.{Tree}
use Rattle.up_list.specs.Entries.{entries_in, entry_at}

-- the items in these directories, one after the other
abbrev pub entries_below : Tree → List Entry → List Entry
entries_below tree entries = flat_map (λ (entry : Entry). entries_in tree entry.name) entries

-- the item at a path, and with each item those in it, and no others
pub record IsClosed (tree : Tree) (path : PathName) (found : List Entry) : Type 0 where
  pub all : found ≡ option_to_list (entry_at tree path) ++ entries_below tree found
