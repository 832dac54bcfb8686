use Rattle.std.proofs.Common.{◌≡◌, ◌<◌, suc, ◌+◌, ◌-◌, [], ◌∷◌, ◌∙◌, arith, length, subst}
use Rattle.up_list.specs.Places.{ArePlaces}
use Rattle.up_list.specs.Walking.{walked}
use Rattle.up_list.proofs.MeetLemmas.{level_found}
use Rattle.up_list.proofs.walk.walk_from.Goals as goal

-- one level more
pub loop-at-preserved : goal.loop-at-preserved
loop-at-preserved g c =
    let look = g.O.Onlooker.look c.args.onlooker.now in
    let end = c.len-at-end.ensures in
    let test = c.loop-at-test.true in
    let low : c.loop-at.at < length c.args.pattern.now.elements = omega arith in
    let up : suc c.loop-at.at ≡ c.loop-at.at + 1 = omega arith in
    record {
      rows = ◌∙◌ {c = walked look c.args.pattern.now (length c.args.pattern.now.elements - length c.args.front.elements) (length c.args.front.elements) (c.args.front ∷ [])}
          (level_found look c.args.pattern.now c.loop-at.at (length c.args.pattern.now.elements) c.loop-at.walk c.look_into_level.new.walk low c.in_ok-look_into_level.ensures) c.loop-at.invariant.rows;
      places = subst (λ n. ArePlaces look n c.look_into_level.new.walk.places.items) up c.in_ok-look_into_level.ensures.places;
    }
