use Rattle.up_list.proofs.MeetLemmas.{level_next}
use Rattle.up_list.proofs.walk.look_into_all.Goals as goal

-- one directory more
pub loop-place-preserved : goal.loop-place-preserved
loop-place-preserved g c =
    level_next (g.O.Onlooker.look c.args.onlooker.now) c.args.pattern.now c.args.at c.args.walk.now c.loop-place.walk c.look_into.new.walk c.args.places.now c.loop-place.place-index c.place-item.result c.loop-place-test.true c.place-item.is
    c.loop-place.invariant c.in_ok-look_into.ensures
