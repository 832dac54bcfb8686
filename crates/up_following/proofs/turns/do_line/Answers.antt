-- What comes of what a line says is what its call does.
use Rattle.std.proofs.Common.{Ok, ap, append-nil, refl, subst, sym}
use Rattle.up_following.specs.FollowTurns.{AskCame, LineDid, PullCame, SaysCame, world}
use Rattle.up_following.specs.declared.line.FollowLine.{FollowLine}
use Rattle.up_following.proofs.TurnLemmas.{weaker}
use Rattle.up_following.proofs.turns.do_line.Goals as goal

pub returns-in-Silent-clause-came : goal.returns-in-Silent-clause-came
returns-in-Silent-clause-came g c =
    let a = world c.args.follower.now c.args.feed.now in
    (LineDid.Nothing, (subst (λ (what : FollowLine). SaysCame g.D.Disk g.F.Feed a what (Ok LineDid.Nothing) a) (sym c.in-Silent.is) (refl, refl), sym (append-nil c.args.out.now.items)))

pub returns-in-Pull-clause-came : goal.returns-in-Pull-clause-came
returns-in-Pull-clause-came g c =
    let a = world c.args.follower.now c.args.feed.now in
    let b = world c.pull.new.follower c.pull.new.feed in
    weaker (λ came. PullCame g.D.Disk g.F.Feed a came b) (λ came. SaysCame g.D.Disk g.F.Feed a c.args.says came b) c.args.out.now.items c.pull.new.out.items c.pull.result
    (λ came h. subst (λ (what : FollowLine). SaysCame g.D.Disk g.F.Feed a what came b) (sym c.in-Pull.is) h) c.pull.ensures.came

pub returns-in-Ask-clause-came : goal.returns-in-Ask-clause-came
returns-in-Ask-clause-came g c =
    let a = world c.args.follower.now c.args.feed.now in
    let b = world c.ask-asked.new.follower c.args.feed.now in
    weaker (λ came. AskCame c.in-Ask.user c.in-Ask.request c.args.follower.now came) (λ came. SaysCame g.D.Disk g.F.Feed a c.args.says came b) c.args.out.now.items c.ask-asked.new.out.items c.ask-asked.result
    (λ came h. subst (λ (what : FollowLine). SaysCame g.D.Disk g.F.Feed a what came b) (sym c.in-Ask.is) (h, ap (λ s. world s c.args.feed.now) c.ask-asked.ensures.unchanged)) c.ask-asked.ensures.came
