-- Each exit of the loop, by the invariant and what the last call wrote.
use Rattle.std.proofs.Common.{◌≡◌, [], ◌∷◌, subst, ap, arith, refl}
use Rattle.std.proofs.lemmas.Result.{err_from_is_err_and}
use Rattle.up_text.specs.Lines.{script_lines}
use Rattle.up_following.specs.FollowTurns.{world}
use Rattle.up_command.proofs.GatherLemmas.{still_written}
use Rattle.up_following.proofs.RunLemmas.{Followed-end, Followed-fault, Followed-turned, Followed-unwritten, Running, Running-none, Running-turned}
use Rattle.up_following.proofs.run.run_each.Goals as goal

pub loop-line-init : goal.loop-line-init
loop-line-init g c =
    let first = world c.args.follower.now c.args.feed.now in
    record {
      running = Running-none g.D.Disk g.F.Feed (g.K.Sink.held c.args.sink.now) c.new-gathered.result.items first (script_lines c.args.lines.now) c.new-gathered.ensures.items;
      later = omega arith;
      written = refl;
      counted = omega arith;
      tie = g.met.F.Feed.same c.args.feed.now;
    }

pub loop-line-preserved : goal.loop-line-preserved
loop-line-preserved g c =
    let first = world c.args.follower.now c.args.feed.now in
    let before = world c.loop-line.follower c.loop-line.feed in
    let after = world c.run_line.new.follower c.run_line.new.feed in
    let here : Running g.D.Disk g.F.Feed (g.K.Sink.held c.args.sink.now) (g.K.Sink.held c.loop-line.sink) c.loop-line.gathered.items first before (script_lines c.args.lines.now) (c.in-Some.line.now ∷ script_lines c.in-Some.after.now) c.loop-line.number =
    subst (λ left. Running g.D.Disk g.F.Feed (g.K.Sink.held c.args.sink.now) (g.K.Sink.held c.loop-line.sink) c.loop-line.gathered.items first before (script_lines c.args.lines.now) left c.loop-line.number) c.in-Some.ensures.lines c.loop-line.invariant.running in
    record {
      running = Running-turned g.D.Disk g.F.Feed (g.K.Sink.held c.args.sink.now) (g.K.Sink.held c.loop-line.sink) (g.K.Sink.held c.flush.new.sink) c.loop-line.gathered.items c.run_line.new.out.items c.flush.new.gathered.items first before after (script_lines c.args.lines.now)
          c.in-Some.line.now (script_lines c.in-Some.after.now) c.loop-line.number c.run_line.result here c.run_line.ensures.came c.in-Ok.is c.in_ok-flush-in-Ok.ensures.ok;
      later = omega (arith, c.loop-line.invariant.later, c.flush.ensures.later);
      written = still_written (g.K.Sink.faults c.args.sink.now) (g.K.Sink.faults c.loop-line.sink) (g.K.Sink.faults c.flush.new.sink) c.flush.result c.in_ok-flush-in-Ok.was c.flush.ensures.quiet c.loop-line.invariant.written;
      counted = omega (arith, c.loop-line.invariant.counted, c.in-Some.ensures.shorter);
      tie = g.met.F.Feed.joined c.args.feed.now c.loop-line.feed c.run_line.new.feed c.loop-line.invariant.tie c.run_line.ensures.tie;
    }

pub returns-in_err-flush-in-Ok-clause-followed : goal.returns-in_err-flush-in-Ok-clause-followed
returns-in_err-flush-in-Ok-clause-followed g c =
    let first = world c.args.follower.now c.args.feed.now in
    let before = world c.loop-line.follower c.loop-line.feed in
    let after = world c.run_line.new.follower c.run_line.new.feed in
    let here : Running g.D.Disk g.F.Feed (g.K.Sink.held c.args.sink.now) (g.K.Sink.held c.loop-line.sink) c.loop-line.gathered.items first before (script_lines c.args.lines.now) (c.in-Some.line.now ∷ script_lines c.in-Some.after.now) c.loop-line.number =
    subst (λ left. Running g.D.Disk g.F.Feed (g.K.Sink.held c.args.sink.now) (g.K.Sink.held c.loop-line.sink) c.loop-line.gathered.items first before (script_lines c.args.lines.now) left c.loop-line.number) c.in-Some.ensures.lines c.loop-line.invariant.running in
    let p = err_from_is_err_and c.from_residual.result c.from_residual.ensures.1 in
    Followed-unwritten g.D.Disk g.F.Feed (g.K.Sink.held c.args.sink.now) (g.K.Sink.held c.loop-line.sink) (g.K.Sink.held c.flush.new.sink) c.loop-line.gathered.items c.run_line.new.out.items first before after (script_lines c.args.lines.now)
    c.in-Some.line.now (script_lines c.in-Some.after.now) c.loop-line.number c.run_line.result p.0 c.from_residual.result here c.run_line.ensures.came c.in-Ok.is p.1 c.flush.ensures.part

pub returns-in-Err-clause-followed : goal.returns-in-Err-clause-followed
returns-in-Err-clause-followed g c =
    let first = world c.args.follower.now c.args.feed.now in
    let before = world c.loop-line.follower c.loop-line.feed in
    let after = world c.run_line.new.follower c.run_line.new.feed in
    let here : Running g.D.Disk g.F.Feed (g.K.Sink.held c.args.sink.now) (g.K.Sink.held c.loop-line.sink) c.loop-line.gathered.items first before (script_lines c.args.lines.now) (c.in-Some.line.now ∷ script_lines c.in-Some.after.now) c.loop-line.number =
    subst (λ left. Running g.D.Disk g.F.Feed (g.K.Sink.held c.args.sink.now) (g.K.Sink.held c.loop-line.sink) c.loop-line.gathered.items first before (script_lines c.args.lines.now) left c.loop-line.number) c.in-Some.ensures.lines c.loop-line.invariant.running in
    Followed-turned g.D.Disk g.F.Feed (g.K.Sink.held c.args.sink.now) (g.K.Sink.held c.loop-line.sink) (g.K.Sink.held c.end.new.sink) c.loop-line.gathered.items c.run_line.new.out.items first before after (script_lines c.args.lines.now)
    c.in-Some.line.now (script_lines c.in-Some.after.now) c.loop-line.number c.in-Err.why c.end.result here c.in-Err.ensures.came c.end.ensures.code c.end.ensures.whole c.end.ensures.part
    (λ is. ap g.K.Sink.held (c.end.ensures.unwritten is)) c.end.ensures.wanting

pub returns-in_err-finish-clause-followed : goal.returns-in_err-finish-clause-followed
returns-in_err-finish-clause-followed g c =
    let first = world c.args.follower.now c.args.feed.now in
    let before = world c.loop-line.follower c.loop-line.feed in
    let p = err_from_is_err_and c.from_residual-in_err-finish.result c.from_residual-in_err-finish.ensures.1 in
    Followed-fault g.D.Disk g.F.Feed (g.K.Sink.held c.args.sink.now) (g.K.Sink.held c.loop-line.sink) (g.K.Sink.held c.finish.new.sink) c.loop-line.gathered.items first before (script_lines c.args.lines.now) (script_lines c.loop-line.rest.now) c.loop-line.number p.0 c.from_residual-in_err-finish.result p.1
    c.loop-line.invariant.running c.finish.ensures.part

pub returns-clause-followed : goal.returns-clause-followed
returns-clause-followed g c =
    let first = world c.args.follower.now c.args.feed.now in
    let before = world c.loop-line.follower c.loop-line.feed in
    let over : script_lines c.loop-line.rest.now ≡ [] = c.in_default.ensures.no_line in
    let here : Running g.D.Disk g.F.Feed (g.K.Sink.held c.args.sink.now) (g.K.Sink.held c.loop-line.sink) c.loop-line.gathered.items first before (script_lines c.args.lines.now) [] c.loop-line.number =
    subst (λ left. Running g.D.Disk g.F.Feed (g.K.Sink.held c.args.sink.now) (g.K.Sink.held c.loop-line.sink) c.loop-line.gathered.items first before (script_lines c.args.lines.now) left c.loop-line.number) over c.loop-line.invariant.running in
    Followed-end g.D.Disk g.F.Feed (g.K.Sink.held c.args.sink.now) (g.K.Sink.held c.loop-line.sink) (g.K.Sink.held c.finish.new.sink) c.loop-line.gathered.items first before (script_lines c.args.lines.now) c.loop-line.number here c.in_ok-finish.ensures.ok
