use Rattle.std.proofs.Common.{Some, ap, sym, ◌∙◌}
use Rattle.up_calls.proofs.CameLemmas.{asked_tree, came_elsewhere, came_served, wanting_bare}
use Rattle.up_calls.proofs.ShownLemmas.{all_shown, tree_shown, wanting_shown}
use Rattle.up_calls.specs.Routes.{LogName, Question}
use Rattle.up_calls.specs.declared.event.Event.{Event}
use Rattle.up_calls.proofs.asked.ask_owner.Goals as goal

pub ask_there-requires-clause-there : goal.ask_there-requires-clause-there
ask_there-requires-clause-there g c = sym c.has.ensures ∙ c.if-not-has.false

pub returns-then-not-has-clause-came : goal.returns-then-not-has-clause-came
returns-then-not-has-clause-came g c =
    let q : Question = record { user = c.args.user.now; request = c.args.request.now } in
    let logs = c.args.logs.now in
    came_elsewhere g.L.Loader g.met.L.Loader.same (g.B.Logs.operator_of logs) (λ log n. g.B.Logs.left log n logs logs) (λ log. g.B.Logs.rises log logs logs) q c.args.loader.now c.args.now
    (g.B.Logs.views logs) c.args.owner.now c.args.locations c.bare.result c.requires.directory c.requires.to (sym c.has.ensures ∙ c.if-not-has.true) c.bare.ensures

pub returns-then-not-has-clause-quiet : goal.returns-then-not-has-clause-quiet
returns-then-not-has-clause-quiet g c =
    let q : Question = record { user = c.args.user.now; request = c.args.request.now } in
    let logs = c.args.logs.now in
    all_shown (λ log. g.B.Logs.quiet log logs logs) q c.bare.result (λ log. g.met.B.Logs.quiet_same log logs)

pub returns-then-not-has-clause-tie : goal.returns-then-not-has-clause-tie
returns-then-not-has-clause-tie g c = g.met.B.Logs.wider (Some (LogName.OfTree c.args.owner.now)) c.args.logs.now c.args.logs.now (g.met.B.Logs.same c.args.logs.now)

pub returns-in-Ok-clause-came : goal.returns-in-Ok-clause-came
returns-in-Ok-clause-came g c =
    let q : Question = record { user = c.args.user.now; request = c.args.request.now } in
    let first = c.args.logs.now in
    let last = c.ask_there.new.logs in
    came_served g.L.Loader (g.B.Logs.operator_of first) (λ log n. g.B.Logs.left log n first last) (λ log. g.B.Logs.rises log first last) (g.B.Logs.views first) (g.B.Logs.views last) c.args.owner.now q
    c.args.loader.now c.ask_there.new.loader c.args.locations c.args.now c.in-Ok.event c.requires.directory c.requires.to c.in-Ok.ensures.served c.in-Ok.ensures.left

pub returns-in-Ok-clause-quiet : goal.returns-in-Ok-clause-quiet
returns-in-Ok-clause-quiet g c =
    let q : Question = record { user = c.args.user.now; request = c.args.request.now } in
    let first = c.args.logs.now in
    let last = c.ask_there.new.logs in
    tree_shown (λ log. g.B.Logs.quiet log first last) q c.in-Ok.event c.args.owner.now (asked_tree q c.args.owner.now c.args.locations c.requires.directory c.requires.to) c.in-Ok.ensures.quiet

pub returns-in-Ok-clause-moment : goal.returns-in-Ok-clause-moment
returns-in-Ok-clause-moment g c = c.in-Ok.ensures.served.answered.moment_is

pub returns-in-Err-clause-came : goal.returns-in-Err-clause-came
returns-in-Err-clause-came g c =
    let q : Question = record { user = c.args.user.now; request = c.args.request.now } in
    let first = c.args.logs.now in
    let last = c.ask_there.new.logs in
    wanting_bare g.L.Loader (g.B.Logs.operator_of first) (λ log n. g.B.Logs.left log n first last) (λ log. g.B.Logs.rises log first last) (g.B.Logs.views first) (g.B.Logs.views last) q
    c.args.loader.now c.ask_there.new.loader c.bare-in-Err.result c.args.now c.bare-in-Err.ensures c.in-Err.ensures.wanting c.in-Err.ensures.tried

pub returns-in-Err-clause-quiet : goal.returns-in-Err-clause-quiet
returns-in-Err-clause-quiet g c =
    let q : Question = record { user = c.args.user.now; request = c.args.request.now } in
    let first = c.args.logs.now in
    let last = c.ask_there.new.logs in
    wanting_shown (λ log. g.B.Logs.quiet log first last) q c.bare-in-Err.result c.args.owner.now (asked_tree q c.args.owner.now c.args.locations c.requires.directory c.requires.to)
    (ap (λ (e : Event). e.reply) c.bare-in-Err.ensures) c.in-Err.ensures.apart
