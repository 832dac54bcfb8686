use Rattle.std.proofs.Common.{map, take}
use Rattle.up_list.specs.Places.{Meets, path_in}
use Rattle.up_list.specs.Walking.{met_from}
use Rattle.up_list.proofs.walk.look_into_all.Given as goal

-- the first places were looked into
abbrev pub invariant-loop-place : goal.invariant-loop-place
invariant-loop-place g l =
    let look = g.O.Onlooker.look l.onlooker in
    Meets look l.pattern l.at l.initial.walk l.walk (met_from look l.pattern l.at (map path_in (take l.place-index l.places)))
