-- What comes of a line is what it says, or that it says nothing.
use Rattle.std.proofs.Common.{refl, sym, ◌∙◌}
use Rattle.up_following.specs.FollowTurns.{LineCame, SaysCame, world}
use Rattle.up_following.proofs.TurnLemmas.{unmade, weaker}
use Rattle.up_following.proofs.turns.run_line.Goals as goal

pub returns-in_err-says-clause-came : goal.returns-in_err-says-clause-came
returns-in_err-says-clause-came g c =
    let a = world c.args.follower.now c.args.feed.now in
    unmade (λ came. LineCame g.D.Disk g.F.Feed a c.args.line.now came a) c.args.out.now.items c.args.out.now.items c.from_residual.result LineCame.unread c.from_residual.ensures.1

pub returns-in_default-clause-came : goal.returns-in_default-clause-came
returns-in_default-clause-came g c = (LineCame.malformed (sym c.in_ok-says.ensures ∙ c.in_default.is), refl)

pub returns-clause-came : goal.returns-clause-came
returns-clause-came g c =
    let a = world c.args.follower.now c.args.feed.now in
    let b = world c.do_line.new.follower c.do_line.new.feed in
    weaker (λ came. SaysCame g.D.Disk g.F.Feed a c.in-Some.says came b) (λ came. LineCame g.D.Disk g.F.Feed a c.args.line.now came b) c.args.out.now.items c.do_line.new.out.items c.do_line.result
    (λ came h. LineCame.says (sym c.in_ok-says.ensures ∙ c.in-Some.is) h) c.do_line.ensures.came
