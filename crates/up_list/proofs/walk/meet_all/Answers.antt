use Rattle.std.proofs.Common.{◌≤◌, length, arith}
use Rattle.up_list.specs.Founds.{entry_found}
use Rattle.up_list.specs.Places.{IsIn, IsOwned}
use Rattle.up_list.specs.Walking.{is_match}
use Rattle.up_list.proofs.MeetLemmas.{image_at, meets_next, meets_no_item, meets_whole}
use Rattle.up_list.proofs.walk.meet_all.Goals as goal

pub loop-item-init : goal.loop-item-init
loop-item-init g c = λ dir all is. (meets_no_item (g.O.Onlooker.look c.args.onlooker.now) c.args.pattern.now c.args.at c.args.walk.now, is)

-- one item more
pub loop-item-preserved : goal.loop-item-preserved
loop-item-preserved g c = λ dir all is.
    let look = g.O.Onlooker.look c.args.onlooker.now in
    let so_far = c.loop-item.invariant dir all is in
    let stands : IsIn look c.args.at dir (entry_found c.item-item.result) = image_at entry_found (IsIn look c.args.at dir) c.args.items.now c.loop-item.item-index c.item-item.result c.loop-item-test.true c.item-item.is all in
    let next = c.in_ok-meet_matching.ensures dir stands so_far.1 in
    (meets_next look c.args.pattern.now c.args.at c.args.walk.now c.loop-item.walk c.meet_matching.new.walk entry_found (is_match c.args.pattern.now c.args.at) c.args.items.now c.loop-item.item-index c.item-item.result c.loop-item-test.true c.item-item.is so_far.0 next.0, next.1)

pub meet_matching-requires-clause-owned : goal.meet_matching-requires-clause-owned
meet_matching-requires-clause-owned g c =
    image_at entry_found (IsOwned (g.O.Onlooker.look c.args.onlooker.now)) c.args.items.now c.loop-item.item-index c.item-item.result c.loop-item-test.true c.item-item.is c.requires.owned

pub returns : goal.returns
returns g c = λ dir all is.
    let end : length c.args.items.now ≤ c.loop-item.item-index = omega (arith, c.loop-item-test.false) in
    meets_whole (g.O.Onlooker.look c.args.onlooker.now) c.args.pattern.now c.args.at c.args.walk.now c.loop-item.walk entry_found (is_match c.args.pattern.now c.args.at) c.args.items.now c.loop-item.item-index end (c.loop-item.invariant dir all is).0
