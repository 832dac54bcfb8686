-- The events of a log for a user: the changes of items that the user may know of, both now and then. Which rights are tested
-- is this project's own.
use Rattle.std.specs.Prelude.{ℕ, zero, suc, Bool, true, false, ◌&&◌, if◌then◌else◌, List, [], ◌++◌, length, slice_get, Option, Some, None}
use Rattle.std.specs.List.{cons_option}
use Rattle.std.specs.Option.{option_map, option_and_then}
use Rattle.up_names.specs.Texts.{UserName}
use Rattle.up_entry.specs.declared.entries.Entry.{Entry}
use Rattle.up_entry.specs.declared.records.Rec.{Rec}
use Rattle.up_entry.specs.declared.records.Rec.TheVariants.{Put, Delete, Snap}
use Rattle.up_policy.specs.Loadings.{Loading}
use Rattle.up_wire.specs.declared.replies.WatchEvent.{WatchEvent}
use Rattle.up_log_tree.specs.declared.node.Node.{Node}
use Rattle.up_log_tree.specs.Trees.{Tree, node_at, tree_at}
use Rattle.up_log_tree.specs.Logs.{Log}
use Rattle.up_list.specs.Looks.{Look, has_some, shown, look_now, look_after}

-- what a record changes: the entry that it puts, or the one that it deletes
pub record Change : Type 0 where
  pub delete : Bool
  pub entry : Entry

-- the change of a record, by the tree before it; a Snap changes nothing
unfoldable pub change_in : Tree → Rec → Option Change
change_in before (Put entry text) = Some (record { delete = false; entry = entry })
change_in before (Delete path) = option_map (λ (node : Node). record { delete = true; entry = node.entry }) (node_at before path)
change_in before (Snap time) = None

-- the change of record n + 1
unfoldable pub change_at : List Rec → ℕ → Option Change
change_at records n = option_and_then (change_in (tree_at records n)) (slice_get records n)

-- The event of a change by record n + 1, to a user who has any right on its path now and had any directly after the record. Its
-- entry is shown by the rights of now.
unfoldable pub event_of : Look → Look → ℕ → Change → Option WatchEvent
event_of now after n change =
    if has_some now change.entry.name && has_some after change.entry.name
    then Some (record { position = suc n; delete = change.delete; entry = shown now change.entry }) else None

-- the event of record n + 1
unfoldable pub event_at : Log → Loading → UserName → ℕ → Option WatchEvent
event_at log loaded user n =
    option_and_then (event_of (look_now log loaded user) (look_after (suc n) log loaded user) n) (change_at log.records n)

-- the events of the first n records, in order
unfoldable pub events_to : Log → Loading → UserName → ℕ → List WatchEvent
events_to log loaded user zero = []
events_to log loaded user (suc n) = events_to log loaded user n ++ cons_option (event_at log loaded user n) []

-- all events of a log
abbrev pub events : Log → Loading → UserName → List WatchEvent
events log loaded user = events_to log loaded user (length log.records)
