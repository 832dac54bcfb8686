-- What comes of `pull` is what is said of it.
use Rattle.std.proofs.Common.{◌≡◌}
use Rattle.up_following.specs.FollowTurns.{PullCame, result_of_pull, world}
use Rattle.up_following.proofs.TurnLemmas.{weaker}
use Rattle.up_following.proofs.turns.pull.Goals as goal

pub returns-clause-came : goal.returns-clause-came
returns-clause-came g c =
    let a = world c.args.follower.now c.args.feed.now in
    let e = c.pull-pulled.ensures in
    let b = world c.pull-pulled.new.self c.pull-pulled.new.feed in
    weaker (λ came. came ≡ result_of_pull c.pull-pulled.result) (λ came. PullCame g.D.Disk g.F.Feed a came b) c.args.out.now.items c.say_pull_result.new.out.items c.say_pull_result.result
    (λ came said. record {
      result = c.pull-pulled.result;
      pulls = e.pulls;
      disk_cause = e.disk_cause;
      feed_cause = e.feed_cause;
      grows = e.grows;
      feed_grows = e.feed_grows;
      came_is = said;
    }) c.say_pull_result.ensures
