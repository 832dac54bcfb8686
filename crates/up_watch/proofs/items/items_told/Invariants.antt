use Rattle.std.proofs.Common.{◌≡◌, map, take}
use Rattle.std.specs.List.{filter_map}
use Rattle.up_list.specs.Founds.{entry_found}
use Rattle.up_watch.specs.Decided.{Remembers}
use Rattle.up_watch.specs.Watching.{item_told, now}
use Rattle.up_watch.proofs.items.items_told.Given as goal

-- what is told of the first items is there
abbrev pub invariant-loop-item : goal.invariant-loop-item
invariant-loop-item l = (l.events.items ≡ filter_map (item_told (now l.reader)) (take l.item-index (map entry_found l.found))) × Remembers l.reader l.known
