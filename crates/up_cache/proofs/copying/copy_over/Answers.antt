use Rattle.std.proofs.Common.{refl}
use Rattle.std.specs.Prelude.{map, string_bytes}
use Rattle.up_cache.specs.Caching.{CachedAnswers}
use Rattle.up_cache.specs.Ties.{seen}
use Rattle.up_cache.specs.declared.through.Through.{Through}
use Rattle.up_cache.proofs.Images.{running_image, stopped_image}
use Rattle.up_cache.proofs.Runs.{copied_counted, copied_stop}
use Rattle.up_cache.proofs.copying.copy_over.Goals as goal

pub returns-in-Ok-clause-copied : goal.returns-in-Ok-clause-copied
returns-in-Ok-clause-copied g c =
    copied_counted g.A.Ask.answers (g.K.Sink.held c.args.sink.now) (g.K.Sink.held c.copy_paths.new.sink) (g.K.Sink.held c.print_counts.new.sink) (seen c.args.through.now) (seen c.copy_paths.new.ask) (map string_bytes c.args.words.now)
    c.copy_paths.new.ask.asked c.copy_paths.new.ask.kept c.print_counts.result
    (running_image (λ (t : Through g.row.A.Denot). seen t) _ (CachedAnswers g.A.Ask.answers) (λ a b request given is. is) (g.K.Sink.held c.args.sink.now) (g.K.Sink.held c.copy_paths.new.sink) c.args.through.now c.copy_paths.new.ask (map string_bytes c.args.words.now) c.in-Ok.ensures.copied)
    refl refl c.print_counts.ensures.printed

pub returns-in-Err-clause-copied : goal.returns-in-Err-clause-copied
returns-in-Err-clause-copied g c =
    copied_stop g.A.Ask.answers (g.K.Sink.held c.args.sink.now) (g.K.Sink.held c.copy_paths.new.sink) (seen c.args.through.now) (seen c.copy_paths.new.ask) (map string_bytes c.args.words.now) c.in-Err.why
    (stopped_image (λ (t : Through g.row.A.Denot). seen t) _ (CachedAnswers g.A.Ask.answers) (λ a b request given is. is) (g.K.Sink.held c.args.sink.now) (g.K.Sink.held c.copy_paths.new.sink) c.args.through.now c.copy_paths.new.ask (map string_bytes c.args.words.now) c.in-Err.why c.in-Err.ensures.copied)
