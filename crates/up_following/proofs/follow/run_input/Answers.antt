-- What came of an input, by whether the disk opens.
use Rattle.up_following.proofs.AnswerLemmas.{refusal_codes, refuses_disk, run_codes, runs_lines}
use Rattle.up_reports.proofs.TellLemmas.{refused_codes}
use Rattle.std.proofs.Common.{refl}
use Rattle.up_following.proofs.follow.run_input.Goals as goal

pub returns-in-Ok-clause-follows : goal.returns-in-Ok-clause-follows
returns-in-Ok-clause-follows g c =
    runs_lines g.D.Disk g.F.Feed c.args.limits c.args.owner c.args.input.now (g.K.Sink.held c.args.sink.now) (g.K.Sink.held c.run_lines-status.new.sink) c.args.disks.now.disks c.put_back.new.disks.disks c.args.feed.now c.run_lines-status.new.feed c.run_lines-status.result
    c.in-Some.disk c.into_disk.result c.take.new.self.disks c.take.result c.in-Ok.follower c.run_lines-status.new.follower c.open.result c.take.ensures.disks c.in-Some.is c.requires.one
    c.in-Ok.is c.in-Ok.ensures.opens c.open.ensures.counts c.run_lines-status.ensures.status c.run_lines-status.ensures.followed c.put_back.ensures.disks c.into_disk.ensures.disk c.into_disk.ensures.safe

pub returns-in-Err-clause-follows : goal.returns-in-Err-clause-follows
returns-in-Err-clause-follows g c =
    refuses_disk g.D.Disk g.F.Feed c.args.limits c.args.owner c.args.input.now (g.K.Sink.held c.args.sink.now) (g.K.Sink.held c.tell_refused.new.sink) c.args.disks.now.disks c.put_back-in-Err.new.disks.disks c.args.feed.now c.args.feed.now c.tell_refused.result
    c.in-Some.disk c.take.new.self.disks c.take.result c.in-Err.fault c.open.result c.take.ensures.disks c.in-Some.is c.requires.one
    c.in-Err.is c.in-Err.ensures.refuses c.open.ensures.opened c.open.ensures.counts c.tell_refused.ensures.answers c.put_back-in-Err.ensures.disks refl

pub returns-in-Ok-clause-status : goal.returns-in-Ok-clause-status
returns-in-Ok-clause-status g c = run_codes c.run_lines-status.result c.run_lines-status.ensures.status

pub returns-in-Err-clause-status : goal.returns-in-Err-clause-status
returns-in-Err-clause-status g c = refusal_codes c.tell_refused.result (refused_codes _ _ _ _ c.tell_refused.ensures.answers)
