use Rattle.std.proofs.Common.{refl, sym, ◌∙◌}
use Rattle.up_shared.proofs.Adding.{join_adds}
use Rattle.up_shared.proofs.Halves.{both_sit}
use Rattle.up_shared.proofs.Pairs.{each_length}
use Rattle.up_shared.specs.Sharing.{IsTreeSeat}
use Rattle.up_shared.proofs.shared.Shared.join.Goals as goal

pub returns-clause-shares : goal.returns-clause-shares
returns-clause-shares g c =
    let one = each_length IsTreeSeat c.args.self.now.trees.items c.args.seats.now.trees.items c.requires.these.trees in
    let other = each_length IsTreeSeat c.args.self.now.trees.items c.args.other.trees.items c.requires.those.trees in
    join_adds c.args.seats.now c.args.other _ (one ∙ sym other)
    (record { trees = c.join_trees.ensures.joined; store = c.join.ensures.joined; store_limits = refl; keys = c.join-2.ensures.joined; keys_limits = refl })

pub returns-clause-sits : goal.returns-clause-sits
returns-clause-sits g c =
    both_sit c.args.self.now c.args.seats.now c.args.other _
    (record { trees = c.join_trees.ensures.joined; store = c.join.ensures.joined; store_limits = refl; keys = c.join-2.ensures.joined; keys_limits = refl }) c.requires.these c.requires.those
