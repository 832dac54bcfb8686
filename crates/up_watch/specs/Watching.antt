-- What contracts see of who watches a tree.
use Rattle.std.specs.Prelude.{ℕ, suc, ◌-◌, Bool, false, if◌then◌else◌, List, Option, Some, None}
use Rattle.std.specs.Option.{option_and_then}
use Rattle.std.specs.Ordering.{is_lt}
use Rattle.up_names.specs.Texts.{UserName}
use Rattle.up_names.specs.PathOrder.{path_cmp}
use Rattle.up_entry.specs.declared.entries.Entry.{Entry}
use Rattle.up_entry.specs.declared.records.Rec.{Rec}
use Rattle.up_entry.specs.declared.records.Rec.TheVariants.{Put, Delete, Snap}
use Rattle.up_policy.specs.Loadings.{Loading}
use Rattle.up_log_tree.specs.Trees.{tree_at, tree_of}
use Rattle.up_log_tree.specs.Logs.{Limits, Log}
use Rattle.up_mem_tree.specs.MemTrees.{TreeLog}
use Rattle.up_list.specs.Looks.{Look, has_some, shown}
use Rattle.up_wire.specs.declared.replies.WatchEvent.{WatchEvent}
use Rattle.up_answers.specs.Events.{Change, change_at, event_of}
use Rattle.up_watch.specs.declared.changed.Changed.{Changed}

-- the log that a tree in memory keeps, under these limits; Watch looks at no limit
abbrev pub log_in : TreeLog → Limits → Log
log_in tree limits = record { owner = tree.owner; limits = limits; records = tree.log }

-- a tree's owner and its log, with a user, and what was loaded of the groups of other owners
pub record Watching : Type 0 where
  pub owner : UserName
  pub log : List Rec
  pub loaded : Loading
  pub user : UserName

-- the tree as it is now, as the user meets it
abbrev pub now : Watching → Look
now watching = record { owner = watching.owner; tree = tree_of watching.log; loaded = watching.loaded; user = watching.user }

-- the watched tree as it was directly after record n, as its user meets it
abbrev pub after : Watching → ℕ → Look
after watching n = record { owner = watching.owner; tree = tree_at watching.log n; loaded = watching.loaded; user = watching.user }

-- what a record changed, as Watch tells it
abbrev pub change_of : Changed → Change
change_of changed = record { delete = changed.delete; entry = changed.entry.now }

-- the entry of a Put
abbrev pub entry_put : Rec → Option Entry
entry_put (Put entry text) = Some entry
entry_put (Delete path) = None
entry_put (Snap time) = None

-- the event of record n, from 1
abbrev pub told : Watching → ℕ → Option WatchEvent
told watching n = option_and_then (event_of (now watching) (after watching (suc (n - 1))) (n - 1)) (change_at watching.log (n - 1))

-- the event of an item, where the user has any right on it
abbrev pub item_told : Look → Entry → Option WatchEvent
item_told look entry =
    if has_some look entry.name then Some (record { position = entry.sequence; delete = false; entry = shown look entry }) else None

-- an event stands before another where its path does
abbrev pub is_before : WatchEvent → WatchEvent → Bool
is_before one two = is_lt (path_cmp one.entry.name two.entry.name)
