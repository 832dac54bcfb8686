-- What was added to the line is run with it.
use Rattle.up_terminal.proofs.SessionLemmas.{added_ran, run_added}
use Rattle.up_terminal.proofs.reading.LineReader.finish.Goals as goal

pub returns-in-Err-clause-ran : goal.returns-in-Err-clause-ran
returns-in-Err-clause-ran g c =
    added_ran g.A.Ask.answers c.args.user.now (g.K.Sink.held c.args.sink.now) c.args.ask.now c.args.self.now.line c.args.bytes.now c.args.self.now.number c.in-Err.why c.in-Err.ensures.kinds c.in-Err.ensures.long

pub returns-in-Ok-clause-ran : goal.returns-in-Ok-clause-ran
returns-in-Ok-clause-ran g c =
    run_added g.A.Ask.answers c.args.user.now (g.K.Sink.held c.args.sink.now) (g.K.Sink.held c.run.new.sink) c.args.ask.now c.run.new.ask c.args.self.now.line c.args.bytes.now c.args.self.now.number c.add.new.self c.run.result c.in-Ok.ensures.added c.run.ensures.ran
