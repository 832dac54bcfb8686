-- What a command's run promises, by what was done, or by its words.
use Rattle.std.proofs.Common.{◌∷◌, [], refl, sym, subst, ◌∙◌}
use Rattle.std.specs.Prelude.{map, string_bytes}
use Rattle.up_ends.proofs.Going.{WritesPart-none}
use Rattle.up_command.specs.Statuses.{IsOneOf, usage_line}
use Rattle.up_cache.specs.Copying.{copy_paths}
use Rattle.up_cache.proofs.Runs.{copied_steady, none_copied}
use Rattle.up_cache.proofs.copying.copy_run.Goals as goal

pub returns-in-Ok-Some-clause-steady : goal.returns-in-Ok-Some-clause-steady
returns-in-Ok-Some-clause-steady g c =
    copied_steady g.A.Ask.answers _ c.in-Ok-Some.user (sym c.in-Ok-Some.ensures ∙ c.in-Ok-Some.field-0-is) (g.K.Sink.held c.args.sink.now) (g.K.Sink.held c.copy_all.new.sink) c.args.ask.now c.copy_all.new.ask
    (map string_bytes c.paths_of.result.now) (copy_paths (map string_bytes c.args.words.now)) c.paths_of.ensures c.code.result _ c.code.ensures c.copy_all.ensures.copied

pub returns-in-Err-clause-meaning : goal.returns-in-Err-clause-meaning
returns-in-Err-clause-meaning g c = none_copied g.A.Ask.answers _ (g.K.Sink.held c.args.sink.now) c.args.ask.now (copy_paths (map string_bytes c.args.words.now)) c.code-in-Err.result c.code-in-Err.ensures

pub returns-in-Err-clause-usage : goal.returns-in-Err-clause-usage
returns-in-Err-clause-usage g c = λ none.
    (subst (IsOneOf (3 ∷ 4 ∷ 64 ∷ [])) (sym c.code-in-Err.ensures) refl, refl, WritesPart-none (g.K.Sink.held c.args.sink.now) usage_line)
