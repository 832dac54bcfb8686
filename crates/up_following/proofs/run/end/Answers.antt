-- Where there was no memory for the last line, nothing was written.
use Rattle.std.proofs.Common.{◌++◌}
use Rattle.up_ends.proofs.Going.{WritesPart-none}
use Rattle.up_following.specs.FollowRuns.{stop_text}
use Rattle.up_following.proofs.run.end.Goals as goal

pub returns-in_err-last-clause-part : goal.returns-in_err-last-clause-part
returns-in_err-last-clause-part g c = WritesPart-none (g.K.Sink.held c.args.sink.now) (c.args.gathered.now.items ++ stop_text c.args.number c.args.why)
