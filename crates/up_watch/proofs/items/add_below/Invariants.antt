use Rattle.std.proofs.Common.{map}
use Rattle.up_list.specs.Founds.{entry_found}
use Rattle.up_watch.proofs.ItemsFound.{Walks}
use Rattle.up_watch.proofs.items.add_below.Given as goal

-- the items in the first ones are there
abbrev pub invariant-loop-i : goal.invariant-loop-i
invariant-loop-i g l = Walks (g.O.Onlooker.look l.onlooker).tree (map entry_found l.fn.found.items) l.i (map entry_found l.found.items)
