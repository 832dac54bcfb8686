-- The Access file that governs a path (Upspin access control document).
use Rattle.std.specs.Prelude.{if◌then◌else◌, Option, None}
use Rattle.std.specs.Option.{option_and_then}
use Rattle.up_names.specs.PathNames.{PathName}
use Rattle.up_entry.specs.declared.entries.Entry.{Entry}
use Rattle.up_policy.specs.Trees.{owns_snapshots}
use Rattle.up_log_tree.specs.Rights.{access_path, governing_prefix}
use Rattle.up_list.specs.Entries.{entry_at}
use Rattle.up_list.specs.Looks.{Look}

-- The Access file in the path, or in the longest of its prefixes that has one. None governs a path of a snapshot tree, which
-- is this project's own.
unfoldable pub governing_file : Look → PathName → Option Entry
governing_file look path =
    if owns_snapshots look.owner then None
    else option_and_then (λ dir. entry_at look.tree (access_path dir)) (governing_prefix look.tree path)
