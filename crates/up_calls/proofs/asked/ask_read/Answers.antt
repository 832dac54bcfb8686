use Rattle.std.proofs.Common.{◌≡◌, ◌∙◌, ap, sym, subst, Some}
use Rattle.up_calls.proofs.CameLemmas.{nothing_bare}
use Rattle.up_calls.proofs.ReadLemmas.{route_read}
use Rattle.up_calls.proofs.ShownLemmas.{all_shown}
use Rattle.up_calls.specs.Routes.{LogName, Question, log_asked, log_by}
use Rattle.up_calls.specs.declared.service.Service.{Service}
use Rattle.up_calls.specs.declared.service.Service.TheVariants as service
use Rattle.up_edits.specs.Routes.{route_of}
use Rattle.up_edits.specs.declared.routes.Route.TheVariants as route
use Rattle.up_calls.proofs.asked.ask_read.Goals as goal

pub ask_owner-requires-clause-to : goal.ask_owner-requires-clause-to
ask_owner-requires-clause-to g c =
    route_read c.args.user.now c.args.request.now c.args.asked.now c.requires.read ∙ sym (ap (λ to. route.Tree to.0 to.1) c.in-Ok.ensures)

pub returns-in-Ok-clause-tie : goal.returns-in-Ok-clause-tie
returns-in-Ok-clause-tie g c =
    let q : Question = record { user = c.args.user.now; request = c.args.request.now } in
    let to : route_of q.user q.request ≡ route.Tree c.in-Ok.owner c.in-Ok.locations =
    route_read q.user q.request c.args.asked.now c.requires.read ∙ sym (ap (λ to. route.Tree to.0 to.1) c.in-Ok.ensures) in
    let log : log_asked q ≡ Some (LogName.OfTree c.in-Ok.owner) = ap (λ (s : Service). log_by s (route_of q.user q.request)) c.requires.directory ∙ ap (log_by service.Directory) to in
    subst (λ name. g.B.Logs.tied name c.args.logs.now c.ask_owner.new.logs) (sym log) c.ask_owner.ensures.tie

pub returns-in-Err-clause-came : goal.returns-in-Err-clause-came
returns-in-Err-clause-came g c =
    let q : Question = record { user = c.args.user.now; request = c.args.request.now } in
    let logs = c.args.logs.now in
    nothing_bare g.L.Loader g.met.L.Loader.same (g.B.Logs.operator_of logs) (λ log n. g.B.Logs.left log n logs logs) (λ log. g.B.Logs.rises log logs logs) (g.B.Logs.views logs) q
    c.args.loader.now c.bare.result c.args.now c.bare.ensures

pub returns-in-Err-clause-quiet : goal.returns-in-Err-clause-quiet
returns-in-Err-clause-quiet g c =
    let q : Question = record { user = c.args.user.now; request = c.args.request.now } in
    let logs = c.args.logs.now in
    all_shown (λ log. g.B.Logs.quiet log logs logs) q c.bare.result (λ log. g.met.B.Logs.quiet_same log logs)
