use Rattle.std.proofs.Common.{refl, rules}
use Rattle.std.specs.Prelude.{map, string_bytes}
use Rattle.up_cache.specs.Printing.{code_by}
use Rattle.up_cache.specs.Ties.{seen}
use Rattle.up_cache.proofs.Images.{copied_new}
use Rattle.up_cache.proofs.Runs.{copied_none}
use Rattle.up_cache.proofs.copying.copy_all.Goals as goal

pub returns-in-Ok-clause-copied : goal.returns-in-Ok-clause-copied
returns-in-Ok-clause-copied g c =
    copied_new g.A.Ask.answers (g.K.Sink.held c.args.sink.now) (g.K.Sink.held c.copy_over.new.sink) c.args.ask.now _ c.in-Ok.cache _ (seen c.copy_over.new.through) (map string_bytes c.args.words.now) (code_by c.copy_over.result)
    refl c.in-Ok.ensures (search rules) c.copy_over.ensures.copied

pub returns-in-Err-clause-copied : goal.returns-in-Err-clause-copied
returns-in-Err-clause-copied g c = copied_none g.A.Ask.answers (g.K.Sink.held c.args.sink.now) c.args.ask.now (map string_bytes c.args.words.now)
