-- What a pull means for a follower whose log follows the leader's.
use Rattle.std.proofs.Common.{ap}
use Rattle.up_follow.proofs.PullLemmas.{pull_follows, pull_sound, pull_whole}
use Rattle.up_follow.proofs.follower.Follower.pull.Goals as goal

pub returns-clause-follows : goal.returns-clause-follows
returns-clause-follows g c = rw (← c.self.view_is)
    (pull_follows g.D.Disk c.self.inside.tree c.pull_into.new.tree c.pull_into.result (g.F.Feed.leader c.args.feed.now) (g.F.Feed.leader c.pull_into.new.feed) c.pull_into.ensures.feed_grows c.pull_into.ensures.pulls)

pub returns-clause-whole : goal.returns-clause-whole
returns-clause-whole g c = rw (← c.self.view_is)
    (pull_whole g.D.Disk c.self.inside.tree c.pull_into.new.tree c.pull_into.result (g.F.Feed.leader c.args.feed.now) (g.F.Feed.leader c.pull_into.new.feed) c.pull_into.ensures.feed_grows c.pull_into.ensures.pulls)

pub returns-clause-sound : goal.returns-clause-sound
returns-clause-sound g c = rw (← c.self.view_is)
    (pull_sound g.D.Disk c.self.inside.tree c.pull_into.new.tree c.pull_into.result (g.F.Feed.leader c.args.feed.now) (g.F.Feed.leader c.pull_into.new.feed) c.pull_into.ensures.feed_grows c.pull_into.ensures.pulls
    (ap (λ f. f.0) c.pull_into.ensures.grows.stays))
