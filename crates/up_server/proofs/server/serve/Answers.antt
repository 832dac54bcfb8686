-- There was no memory to read the words, and nothing was printed.
use Rattle.std.proofs.Common.{refl}
use Rattle.up_command.specs.Statuses.{usage_line}
use Rattle.up_ends.proofs.Going.{WritesPart-none}
use Rattle.up_server.proofs.server.serve.Goals as goal

pub returns-in-Err-clause-usage : goal.returns-in-Err-clause-usage
returns-in-Err-clause-usage g c = λ unfit. rw c.code-in-Err.ensures (refl, WritesPart-none (g.K.Sink.held c.args.sink.now) usage_line)
