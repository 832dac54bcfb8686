use Rattle.std.proofs.Common.{◌<◌, List, sym, subst, Ok}
use Rattle.std.specs.List.{zip}
use Rattle.std.specs.declared.alloc.AllocError.{AllocError}
use Rattle.up_wire.specs.declared.replies.Reply.{Reply}
use Rattle.up_laws.specs.Histories.{IsGoing, IsPlayed}
use Rattle.up_laws.specs.Turns.{turns_of}
use Rattle.up_laws.specs.declared.turns.Pairs.{Pairs}
use Rattle.up_laws.proofs.PlayLemmas.{all_alike, all_made, err_played, goes_on, going_none, moment_read, stops_here, wants_here}
use Rattle.up_laws.proofs.histories.two_histories.Goals as goal

pub take_turns-requires-clause-first : goal.take_turns-requires-clause-first
take_turns-requires-clause-first g c = moment_read c.args.first.now c.loop-i.i c.index-first-i.result c.requires.first_moments c.loop-i-test.true c.index-first-i.is

pub take_turns-requires-clause-second : goal.take_turns-requires-clause-second
take_turns-requires-clause-second g c =
    moment_read c.args.second.now c.loop-i.i c.index-second-i.result c.requires.second_moments (subst (λ m. c.loop-i.i < m) c.requires.lengths c.loop-i-test.true) c.index-second-i.is

pub returns-in_err-take_turns-clause-played : goal.returns-in_err-take_turns-clause-played
returns-in_err-take_turns-clause-played g c =
    err_played g.D.Disk g.E.Disk c.args.user.now (zip (turns_of c.args.first.now) (turns_of c.args.second.now)) (c.args.a.now, c.args.b.now) (c.take_turns.new.a, c.take_turns.new.b) c.in_err-take_turns.field-0.0 c.from_residual.result c.from_residual.ensures.0
    (wants_here g.D.Disk g.E.Disk c.args.user.now c.args.first.now c.args.second.now c.requires.lengths (c.args.a.now, c.args.b.now) (c.loop-i.a, c.loop-i.b) (c.take_turns.new.a, c.take_turns.new.b) c.loop-i.replies c.take_turns.new.replies c.loop-i.i
    c.index-first-i.result c.index-second-i.result c.loop-i-test.true c.index-first-i.is c.index-second-i.is c.loop-i.invariant c.in_err-take_turns.field-0.0 c.in_err-take_turns.ensures)

pub returns-then-branch-clause-played : goal.returns-then-branch-clause-played
returns-then-branch-clause-played g c =
    subst (λ (p : Pairs). IsPlayed {F = AllocError} g.D.Disk g.E.Disk c.args.user.now (zip (turns_of c.args.first.now) (turns_of c.args.second.now)) (c.args.a.now, c.args.b.now) (c.take_turns.new.a, c.take_turns.new.b) (Ok p)) (sym c.stopped_after.ensures)
    (stops_here g.D.Disk g.E.Disk c.args.user.now c.args.first.now c.args.second.now c.requires.lengths (c.args.a.now, c.args.b.now) (c.loop-i.a, c.loop-i.b) (c.take_turns.new.a, c.take_turns.new.b) c.loop-i.replies c.take_turns.new.replies c.loop-i.i
    c.index-first-i.result c.index-second-i.result c.loop-i-test.true c.index-first-i.is c.index-second-i.is c.loop-i.invariant c.in_ok-take_turns.field-0 c.if-branch.true c.in_ok-take_turns.ensures)

pub loop-i-preserved : goal.loop-i-preserved
loop-i-preserved g c =
    goes_on g.D.Disk g.E.Disk c.args.user.now c.args.first.now c.args.second.now c.requires.lengths (c.args.a.now, c.args.b.now) (c.loop-i.a, c.loop-i.b) (c.take_turns.new.a, c.take_turns.new.b) c.loop-i.replies c.take_turns.new.replies c.loop-i.i
    c.index-first-i.result c.index-second-i.result c.loop-i-test.true c.index-first-i.is c.index-second-i.is c.loop-i.invariant c.in_ok-take_turns.field-0 c.if-branch.false c.in_ok-take_turns.ensures

pub returns-clause-played : goal.returns-clause-played
returns-clause-played g c =
    all_made g.D.Disk g.E.Disk c.args.user.now c.args.first.now c.args.second.now c.requires.lengths (c.args.a.now, c.args.b.now) (c.loop-i.a, c.loop-i.b) c.loop-i.replies c.loop-i.i c.loop-i-test.false c.loop-i.invariant

pub returns-clause-alike : goal.returns-clause-alike
returns-clause-alike g c =
    all_alike g.D.Disk g.E.Disk c.args.user.now c.args.first.now c.args.second.now c.requires.lengths (c.args.a.now, c.args.b.now) (c.loop-i.a, c.loop-i.b) c.loop-i.replies c.loop-i.i c.loop-i-test.false c.loop-i.invariant AllocError c.requires.first_moments

pub loop-i-init : goal.loop-i-init
loop-i-init g c =
    subst (λ (pairs : List (Reply × Reply)). IsGoing g.D.Disk g.E.Disk c.args.user.now (zip (turns_of c.args.first.now) (turns_of c.args.second.now)) (c.args.a.now, c.args.b.now) (c.args.a.now, c.args.b.now) pairs 0) (sym c.new-replies.ensures)
    (going_none g.D.Disk g.E.Disk c.args.user.now (zip (turns_of c.args.first.now) (turns_of c.args.second.now)) (c.args.a.now, c.args.b.now))
