-- What was pulled, by what the feed gave.
use Rattle.std.proofs.Common.{List, ℕ, Result, Err, IfSome, length, subst, sym}
use Rattle.up_follow.specs.Feeds.{IsBatch}
use Rattle.up_follow.specs.Pulls.{Pulls, Takes}
use Rattle.up_follow.specs.declared.fault.FollowWhy.{FollowWhy}
use Rattle.up_follow.proofs.PullLemmas.{pulls_batch, pulls_none}
use Rattle.up_follow.proofs.taking.pull_into.Goals as goal

pub returns-in-Ok-clause-pulls : goal.returns-in-Ok-clause-pulls
returns-in-Ok-clause-pulls g c =
    let leader = g.F.Feed.leader c.pull.new.self in
    let old = c.args.tree.now in
    let new = c.add_all-added.new.tree in
    pulls_batch g.D.Disk leader c.in-Ok.batch old new c.add_all-added.result c.in-Ok.ensures.few
    (subst (λ n. IfSome leader (IsBatch n c.in-Ok.batch)) c.position-from.ensures.count c.in-Ok.ensures.batch)
    (subst (λ (xs : List (List ℕ)). Takes g.D.Disk xs old new c.add_all-added.result) c.as_slice.ensures c.add_all-added.ensures.takes)

pub returns-in-Err-clause-pulls : goal.returns-in-Err-clause-pulls
returns-in-Err-clause-pulls g c =
    subst (λ (why : FollowWhy). Pulls g.D.Disk (g.F.Feed.leader c.pull.new.self) c.args.tree.now c.args.tree.now (Err why)) (sym c.from.ensures)
    (pulls_none g.D.Disk g.met.D.Disk.only_now (g.F.Feed.leader c.pull.new.self) c.args.tree.now c.in-Err.fault c.position-from.ensures.safe)
