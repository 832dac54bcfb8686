use Rattle.std.proofs.Common.{◌≡◌, ◌-◌, [], ◌∷◌, ◌++◌, length, map}
use Rattle.up_list.specs.Places.{ArePlaces, path_in}
use Rattle.up_list.specs.Walking.{walked}
use Rattle.up_list.proofs.walk.walk_from.Given as goal

-- what is found, with what is still to be found, is all
abbrev pub invariant-loop-at : goal.invariant-loop-at
invariant-loop-at g l =
    let look = g.O.Onlooker.look l.onlooker in
    record {
      rows : l.walk.rows.items ++ walked look l.pattern (length l.pattern.elements - l.at) l.at (map path_in l.walk.places.items)
          ≡ walked look l.pattern (length l.pattern.elements - length l.fn.front.elements) (length l.fn.front.elements) (l.fn.front ∷ []);
      places : ArePlaces look l.at l.walk.places.items;
    }
