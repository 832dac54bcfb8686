-- What a user is shown of an entry (Upspin access control document; the mark of control files too is this project's own).
use Rattle.std.specs.Prelude.{Bool, true, [], if◌then◌else◌}
use Rattle.up_entry.specs.declared.entries.Entry.{Entry}

-- the entry without its blocks and packdata, marked as incomplete
abbrev pub incomplete : Entry → Entry
incomplete entry = record entry { blocks = []; packdata = []; attr = record entry.attr { incomplete = true } }

-- whole to a user who may read its name, else incomplete
abbrev pub shown_as : Bool → Entry → Entry
shown_as read entry = if read then entry else incomplete entry
