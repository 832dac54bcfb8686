use Rattle.std.proofs.Common.{refl, rules}
use Rattle.up_shared.proofs.Adding.{split_adds}
use Rattle.up_shared.proofs.Halves.{firsts_sit, seconds_sit}
use Rattle.up_shared.proofs.shared.Shared.split.Goals as goal

pub returns-clause-shares : goal.returns-clause-shares
returns-clause-shares g c =
    split_adds c.args.seats.now _ _
    (record { trees = c.split_trees.ensures.first; store = c.split.ensures.first; store_limits = refl; keys = c.split-2.ensures.first; keys_limits = refl })
    (record { trees = c.split_trees.ensures.second; store = search rules; store_limits = refl; keys = search rules; keys_limits = refl })

pub returns-clause-sits : goal.returns-clause-sits
returns-clause-sits g c =
    firsts_sit c.args.self.now c.args.seats.now _
    (record { trees = c.split_trees.ensures.first; store = c.split.ensures.first; store_limits = refl; keys = c.split-2.ensures.first; keys_limits = refl }) c.requires

pub returns-clause-other : goal.returns-clause-other
returns-clause-other g c =
    seconds_sit c.args.self.now c.args.seats.now _
    (record { trees = c.split_trees.ensures.second; store = search rules; store_limits = refl; keys = search rules; keys_limits = refl }) c.requires
