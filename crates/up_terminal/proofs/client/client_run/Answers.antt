-- What a command's run promises, by what its session did, or by its words.
use Rattle.std.proofs.Common.{◌≡◌, ◌∷◌, [], ℕ, refl, sym, subst, ◌∙◌}
use Rattle.up_ends.proofs.Going.{WritesPart-none}
use Rattle.up_command.specs.Statuses.{IsOneOf, usage_line}
use Rattle.up_terminal.specs.Runs.{Means}
use Rattle.up_terminal.specs.Sessions.{code_by}
use Rattle.up_terminal.specs.declared.stop.Stop.TheVariants as stop
use Rattle.up_terminal.proofs.EndLemmas.{cause_by, completes_faultless, none_meant, of_user}
use Rattle.up_terminal.proofs.client.client_run.Goals as goal

pub returns-in-Ok-Some-clause-complete : goal.returns-in-Ok-Some-clause-complete
returns-in-Ok-Some-clause-complete g c =
    let answers = g.A.Ask.answers in
    let user = c.in-Ok-Some.user in
    let ended = c.run_input-ended.result in
    let after = c.run_input-ended.new in
    let left = g.S.Source.left c.args.source.now in
    let left_now = g.S.Source.left after.source in
    let given = g.S.Source.given c.args.source.now in
    let given_now = g.S.Source.given after.source in
    let held = g.K.Sink.held c.args.sink.now in
    let held_now = g.K.Sink.held after.sink in
    let status = c.code.result in
    let same : status ≡ code_by ended = c.code.ensures in
    let means : Means answers user left left_now given given_now held held_now c.args.ask.now status after.ask =
    subst (λ (n : ℕ). Means answers user left left_now given given_now held held_now c.args.ask.now n after.ask) (sym same) c.run_input-ended.ensures.means in
    of_user _ user _ (sym c.in-Ok-Some.ensures ∙ c.in-Ok-Some.field-0-is)
    (completes_faultless answers user left left_now given given_now held held_now c.args.ask.now after.ask status (g.S.Source.faults c.args.source.now) (g.S.Source.faults after.source) (g.K.Sink.faults c.args.sink.now) (g.K.Sink.faults after.sink)
    (g.A.Ask.faults c.args.ask.now) (g.A.Ask.faults after.ask) means (cause_by _ _ ended stop.ReadFault status same c.run_input-ended.ensures.source_cause) (cause_by _ _ ended stop.WriteFault status same c.run_input-ended.ensures.sink_cause)
    (cause_by _ _ ended stop.AskFault status same c.run_input-ended.ensures.ask_cause))

pub returns-in-Err-clause-meaning : goal.returns-in-Err-clause-meaning
returns-in-Err-clause-meaning g c = none_meant g.A.Ask.answers _ (g.S.Source.left c.args.source.now) (g.S.Source.given c.args.source.now) (g.K.Sink.held c.args.sink.now) c.args.ask.now c.code-in-Err.result c.code-in-Err.ensures

pub returns-in-Err-clause-usage : goal.returns-in-Err-clause-usage
returns-in-Err-clause-usage g c = λ none.
    (subst (IsOneOf (3 ∷ 4 ∷ 64 ∷ [])) (sym c.code-in-Err.ensures) refl, refl, refl, WritesPart-none (g.K.Sink.held c.args.sink.now) usage_line)
