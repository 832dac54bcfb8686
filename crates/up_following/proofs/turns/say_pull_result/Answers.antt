-- What is said of a pull, by what it answered.
use Rattle.std.proofs.Common.{◌≡◌, Err, ap, ◌∙◌}
use Rattle.up_follow.specs.declared.fault.FollowWhy.TheVariants as why
use Rattle.up_following.specs.FollowTurns.{LineDid, result_of_pull}
use Rattle.up_following.proofs.TurnLemmas.{says}
use Rattle.up_following.proofs.turns.say_pull_result.Goals as goal

pub returns-in_ok-say_count-in-Ok : goal.returns-in_ok-say_count-in-Ok
returns-in_ok-say_count-in-Ok c =
    says (result_of_pull c.args.pulled) (LineDid.Pulled c.in-Ok.count) c.args.out.now.items c.say_count.new.out.items (ap result_of_pull c.in-Ok.is) c.in_ok-say_count-in-Ok.ensures

pub returns-in_ok-say-in-Err-Failed : goal.returns-in_ok-say-in-Err-Failed
returns-in_ok-say-in-Err-Failed c =
    let failed : c.in-Err-Failed.field-0 ≡ why.Failed = rw c.in-Err-Failed.is at c.in-Err-Failed.field-0-is in
    says (result_of_pull c.args.pulled) LineDid.FeedFailed c.args.out.now.items c.say.new.out.items (ap result_of_pull (c.in-Err-Failed.is ∙ ap Err failed)) c.in_ok-say-in-Err-Failed.ensures

pub returns-in_ok-say_count-in-Err-Strange : goal.returns-in_ok-say_count-in-Err-Strange
returns-in_ok-say_count-in-Err-Strange c =
    let strange : c.in-Err-Strange.field-0 ≡ why.Strange c.in-Err-Strange.position = rw c.in-Err-Strange.is at c.in-Err-Strange.field-0-is in
    says (result_of_pull c.args.pulled) (LineDid.Strange c.in-Err-Strange.position) c.args.out.now.items c.say_count-in-Err-Strange.new.out.items (ap result_of_pull (c.in-Err-Strange.is ∙ ap Err strange)) c.in_ok-say_count-in-Err-Strange.ensures

pub returns-in_ok-say_count-in-Err-Full : goal.returns-in_ok-say_count-in-Err-Full
returns-in_ok-say_count-in-Err-Full c =
    let full : c.in-Err-Full.field-0 ≡ why.Full c.in-Err-Full.records = rw c.in-Err-Full.is at c.in-Err-Full.field-0-is in
    says (result_of_pull c.args.pulled) (LineDid.Full c.in-Err-Full.records) c.args.out.now.items c.say_count-in-Err-Full.new.out.items (ap result_of_pull (c.in-Err-Full.is ∙ ap Err full)) c.in_ok-say_count-in-Err-Full.ensures

pub returns-in_ok-say-in-Err-Io : goal.returns-in_ok-say-in-Err-Io
returns-in_ok-say-in-Err-Io c =
    let io : c.in-Err-Io.field-0 ≡ why.Io = rw c.in-Err-Io.is at c.in-Err-Io.field-0-is in
    says (result_of_pull c.args.pulled) LineDid.DiskFailed c.args.out.now.items c.say-in-Err-Io.new.out.items (ap result_of_pull (c.in-Err-Io.is ∙ ap Err io)) c.in_ok-say-in-Err-Io.ensures
