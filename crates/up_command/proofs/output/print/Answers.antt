-- Where there was no memory to gather the text, nothing was written.
use Rattle.std.proofs.Common.{◌++◌}
use Rattle.up_ends.proofs.Going.{WritesPart-none}
use Rattle.up_command.proofs.output.print.Goals as goal

pub returns-in_err-extend_from_slice-clause-part :
    goal.returns-in_err-extend_from_slice-clause-part
returns-in_err-extend_from_slice-clause-part g c = WritesPart-none (g.K.Sink.held c.args.sink.now) (c.args.gathered.now.items ++ c.args.text.now)
