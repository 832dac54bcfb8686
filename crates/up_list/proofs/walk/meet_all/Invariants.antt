use Rattle.std.proofs.Common.{map, take}
use Rattle.std.specs.Prelude.{filter}
use Rattle.std.specs.List.{AllByRecursion}
use Rattle.up_names.specs.PathNames.{PathName}
use Rattle.up_list.specs.Deciding.{IsDecided}
use Rattle.up_list.specs.Founds.{entry_found}
use Rattle.up_list.specs.Places.{IsIn, Meets}
use Rattle.up_list.specs.Walking.{is_match}
use Rattle.up_list.proofs.walk.meet_all.Given as goal

-- the first items were met, and what was decided holds
abbrev pub invariant-loop-item : goal.invariant-loop-item
invariant-loop-item g l =
    (dir : PathName) → AllByRecursion (IsIn (g.O.Onlooker.look l.onlooker) l.at dir) (map entry_found l.items) → IsDecided (g.O.Onlooker.look l.onlooker) dir l.initial.decided →
    Meets (g.O.Onlooker.look l.onlooker) l.pattern l.at l.initial.walk l.walk (filter (is_match l.pattern l.at) (map entry_found (take l.item-index l.items)))
    × IsDecided (g.O.Onlooker.look l.onlooker) dir l.decided
