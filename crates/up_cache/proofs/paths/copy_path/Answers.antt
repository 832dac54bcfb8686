use Rattle.std.proofs.Common.{sym, ◌∙◌}
use Rattle.up_cache.proofs.Runs.{word_bad, word_got, word_unread}
use Rattle.up_cache.proofs.paths.copy_path.Goals as goal

pub returns-in-Ok-Some-clause-copied : goal.returns-in-Ok-Some-clause-copied
returns-in-Ok-Some-clause-copied g c =
    word_got g.A.Ask.answers (g.K.Sink.held c.args.sink.now) (g.K.Sink.held c.copy_file.new.sink) c.args.ask.now c.copy_file.new.ask c.args.word.now c.in-Ok-Some.path c.copy_file.result
    (sym c.in-Ok-Some.ensures ∙ c.in-Ok-Some.field-0-is) c.copy_file.ensures.copied

pub returns-in-Ok-None-clause-copied : goal.returns-in-Ok-None-clause-copied
returns-in-Ok-None-clause-copied g c =
    word_bad g.A.Ask.answers (g.K.Sink.held c.args.sink.now) (g.K.Sink.held c.print.new.sink) c.args.ask.now c.args.word.now c.print.result (sym c.in-Ok-None.ensures ∙ c.in-Ok-None.field-0-is) c.print.ensures.printed

pub returns-in-Err-clause-copied : goal.returns-in-Err-clause-copied
returns-in-Err-clause-copied g c = word_unread g.A.Ask.answers (g.K.Sink.held c.args.sink.now) c.args.ask.now c.args.word.now
