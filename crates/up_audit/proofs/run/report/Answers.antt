-- There was no memory to audit, and nothing was printed.
use Rattle.up_audit.proofs.TextLemmas.{report_none}
use Rattle.up_audit.proofs.run.report.Goals as goal

pub returns-in_default-clause-answers : goal.returns-in_default-clause-answers
returns-in_default-clause-answers g c = report_none (g.K.Sink.held c.args.sink.now) c.args.logs.now.trees.items c.args.logs.now.store c.code.result c.code.ensures
