use Rattle.std.proofs.Common.{Some, ap, sym, ◌∙◌}
use Rattle.up_calls.proofs.CameLemmas.{asked_store, store_came, store_malformed}
use Rattle.up_calls.proofs.ShownLemmas.{all_shown, log_shown}
use Rattle.up_calls.specs.Routes.{LogName, Question}
use Rattle.up_calls.specs.declared.event.Event.{Event}
use Rattle.up_calls.proofs.asking.ask_store.Goals as goal

pub returns-in-Some-clause-came : goal.returns-in-Some-clause-came
returns-in-Some-clause-came g c =
    let q : Question = record { user = c.args.user.now; request = c.args.request.now } in
    let logs = c.args.logs.now in
    store_malformed g.L.Loader g.met.L.Loader.same (g.B.Logs.operator_of logs) (λ log n. g.B.Logs.left log n logs logs) (λ log. g.B.Logs.rises log logs logs) q c.args.loader.now c.args.now
    (g.B.Logs.views logs) c.in-Some.what c.bare.result c.requires.store (sym c.store_fault.ensures ∙ c.in-Some.is) c.bare.ensures

pub returns-clause-came : goal.returns-clause-came
returns-clause-came g c =
    let q : Question = record { user = c.args.user.now; request = c.args.request.now } in
    let first = c.args.logs.now in
    let last = c.ask_store-reply.new.self in
    store_came g.L.Loader g.met.L.Loader.same (g.B.Logs.operator_of first) (λ log n. g.B.Logs.left log n first last) (λ log. g.B.Logs.rises log first last) q c.args.loader.now c.args.now
    (g.B.Logs.views first) (g.B.Logs.views last) c.ask_store-reply.result.0 c.ask_store-reply.result.1 c.bare-2.result c.requires.store (sym c.store_fault.ensures ∙ c.in-None.is) c.bare-2.ensures
    c.ask_store-reply.ensures.told c.ask_store-reply.ensures.left (g.met.B.Logs.stays (Some LogName.OfStore) first last c.ask_store-reply.ensures.tie)

pub returns-in-Some-clause-quiet : goal.returns-in-Some-clause-quiet
returns-in-Some-clause-quiet g c =
    let q : Question = record { user = c.args.user.now; request = c.args.request.now } in
    let logs = c.args.logs.now in
    all_shown (λ log. g.B.Logs.quiet log logs logs) q c.bare.result (λ log. g.met.B.Logs.quiet_same log logs)

pub returns-clause-quiet : goal.returns-clause-quiet
returns-clause-quiet g c =
    let q : Question = record { user = c.args.user.now; request = c.args.request.now } in
    let first = c.args.logs.now in
    let last = c.ask_store-reply.new.self in
    log_shown (λ log. g.B.Logs.quiet log first last) q c.bare-2.result LogName.OfStore c.ask_store-reply.result.0 (asked_store q c.requires.store) (ap (λ (e : Event). e.reply) c.bare-2.ensures) c.ask_store-reply.ensures.quiet
