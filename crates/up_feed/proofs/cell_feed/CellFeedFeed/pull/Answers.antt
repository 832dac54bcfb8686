use Rattle.std.proofs.Common.{ap}
use Rattle.std.specs.Result.{result_ok}
use Rattle.up_feed.proofs.CellLemmas.{few, is_batch}
use Rattle.up_feed.proofs.cell_feed.CellFeedFeed.pull.Goals as goal
use Rattle.up_feed.specs.Feeding.{owner_at}
use Rattle.up_shared.specs.Callers.{sits_later}
use Rattle.up_together.proofs.SittingLemmas.{marks_by_sits, sits_by_marks}

pub pull_at-requires-clause-sits : goal.pull_at-requires-clause-sits
pull_at-requires-clause-sits g c = sits_by_marks c.args.self.now.shared.now c.args.self.now.seats.now c.args.self.now.sits

pub invariant_of-self : goal.invariant_of-self
invariant_of-self g c =
    let pulls = c.pull_at.ensures (owner_at c.args.self.now.shared.now c.args.self.now.place) c.args.self.now.first in
    record {
      first = c.args.self.now.first;
      sits = marks_by_sits c.args.self.now.shared.now c.pull_at.new.seats
          (sits_later c.args.self.now.shared.now c.args.self.now.seats.now c.pull_at.new.seats pulls.later (sits_by_marks c.args.self.now.shared.now c.args.self.now.seats.now c.args.self.now.sits));
    }

pub returns-in-Ok-clause-few : goal.returns-in-Ok-clause-few
returns-in-Ok-clause-few g c =
    let owner = owner_at c.args.self.now.shared.now c.args.self.now.place in
    few owner c.args.from c.args.self.now.seats.now c.pull_at.new.seats (result_ok c.pull_at.result) (c.pull_at.ensures owner c.args.self.now.first) c.in-Ok.batch (ap result_ok c.in-Ok.is)

pub returns-in-Ok-clause-batch : goal.returns-in-Ok-clause-batch
returns-in-Ok-clause-batch g c =
    let owner = owner_at c.args.self.now.shared.now c.args.self.now.place in
    is_batch owner c.args.from c.args.self.now.seats.now c.pull_at.new.seats (result_ok c.pull_at.result) (c.pull_at.ensures owner c.args.self.now.first) c.in-Ok.batch (ap result_ok c.in-Ok.is)
