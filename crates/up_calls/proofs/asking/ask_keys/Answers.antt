use Rattle.std.proofs.Common.{◌≡◌, None, Some, ap}
use Rattle.up_calls.proofs.CameLemmas.{asked_keys, keys_came, keys_malformed, nothing_bare}
use Rattle.up_calls.proofs.ShownLemmas.{all_shown, log_shown}
use Rattle.up_calls.specs.Routes.{LogName, Question}
use Rattle.up_calls.specs.Services.{key_fault}
use Rattle.up_calls.specs.declared.event.Event.{Event}
use Rattle.up_calls.proofs.asking.ask_keys.Goals as goal

pub returns-in-Ok-Some-clause-came : goal.returns-in-Ok-Some-clause-came
returns-in-Ok-Some-clause-came g c =
    let q : Question = record { user = c.args.user.now; request = c.args.request.now } in
    let logs = c.args.logs.now in
    let fault = c.in-Ok-Some.ensures in
    let is = c.in-Ok-Some.field-0-is in
    let there : key_fault c.args.request.now ≡ Some c.in-Ok-Some.what = cc in
    keys_malformed g.L.Loader g.met.L.Loader.same (g.B.Logs.operator_of logs) (λ log n. g.B.Logs.left log n logs logs) (λ log. g.B.Logs.rises log logs logs) q c.args.loader.now c.args.now
    (g.B.Logs.views logs) c.in-Ok-Some.what c.bare.result c.requires.keys there c.bare.ensures

pub returns-in-Err-clause-came : goal.returns-in-Err-clause-came
returns-in-Err-clause-came g c =
    let q : Question = record { user = c.args.user.now; request = c.args.request.now } in
    let logs = c.args.logs.now in
    nothing_bare g.L.Loader g.met.L.Loader.same (g.B.Logs.operator_of logs) (λ log n. g.B.Logs.left log n logs logs) (λ log. g.B.Logs.rises log logs logs) (g.B.Logs.views logs) q
    c.args.loader.now c.bare-in-Err.result c.args.now c.bare-in-Err.ensures

pub returns-clause-came : goal.returns-clause-came
returns-clause-came g c =
    let q : Question = record { user = c.args.user.now; request = c.args.request.now } in
    let first = c.args.logs.now in
    let last = c.ask_keys-reply.new.self in
    let fault = c.in-Ok-None.ensures in
    let is = c.in-Ok-None.field-0-is in
    let sound : key_fault c.args.request.now ≡ None = cc in
    keys_came g.L.Loader g.met.L.Loader.same (g.B.Logs.operator_of first) (λ log n. g.B.Logs.left log n first last) (λ log. g.B.Logs.rises log first last) q c.args.loader.now c.args.now
    (g.B.Logs.views first) (g.B.Logs.views last) c.ask_keys-reply.result.0 c.ask_keys-reply.result.1 c.bare-2.result c.requires.keys sound c.bare-2.ensures
    c.ask_keys-reply.ensures.told c.ask_keys-reply.ensures.left (g.met.B.Logs.stays (Some LogName.OfKeys) first last c.ask_keys-reply.ensures.tie)

pub returns-in-Ok-Some-clause-quiet : goal.returns-in-Ok-Some-clause-quiet
returns-in-Ok-Some-clause-quiet g c =
    let q : Question = record { user = c.args.user.now; request = c.args.request.now } in
    let logs = c.args.logs.now in
    all_shown (λ log. g.B.Logs.quiet log logs logs) q c.bare.result (λ log. g.met.B.Logs.quiet_same log logs)

pub returns-in-Err-clause-quiet : goal.returns-in-Err-clause-quiet
returns-in-Err-clause-quiet g c =
    let q : Question = record { user = c.args.user.now; request = c.args.request.now } in
    let logs = c.args.logs.now in
    all_shown (λ log. g.B.Logs.quiet log logs logs) q c.bare-in-Err.result (λ log. g.met.B.Logs.quiet_same log logs)

pub returns-clause-quiet : goal.returns-clause-quiet
returns-clause-quiet g c =
    let q : Question = record { user = c.args.user.now; request = c.args.request.now } in
    let first = c.args.logs.now in
    let last = c.ask_keys-reply.new.self in
    log_shown (λ log. g.B.Logs.quiet log first last) q c.bare-2.result LogName.OfKeys c.ask_keys-reply.result.0 (asked_keys q c.requires.keys) (ap (λ (e : Event). e.reply) c.bare-2.ensures) c.ask_keys-reply.ensures.quiet
