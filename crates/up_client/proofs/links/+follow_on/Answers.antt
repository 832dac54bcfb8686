use Rattle.std.proofs.Common.{Err, Ok, arith, rules}
use Rattle.up_client.specs.Links.{following}
use Rattle.up_client.specs.Talks.{reply_to}
use Rattle.up_client.specs.declared.links.Step.TheVariants as steps
use Rattle.up_client.proofs.Exits.{handed, with_result}
use Rattle.up_client.proofs.Following.{follow_stop}
use Rattle.up_client.proofs.Steps.{on_some_step, step_done, step_fault, step_on, stepped}
use Rattle.up_client.proofs.links.+follow_on.Goals as goal

pub returns-in_err-reply : goal.returns-in_err-reply
returns-in_err-reply g t c =
    let request = g.R.AtPath.request c.args.request.now in
    let path = c.args.path.now in
    let fault = c.in_err-reply.field-0.0 in
    handed g.A.Ask g.met.A.Ask.same g.met.A.Ask.joined (following request c.args.more path) c.args.ask.now c.ask_at.new.ask fault c.from_residual.result
    (follow_stop g.A.Ask g.met.A.Ask.same g.met.A.Ask.joined request c.args.more path c.args.ask.now c.ask_at.new.ask fault
    (with_result g.A.Ask (reply_to (request path)) c.args.ask.now c.ask_at.new.ask c.ask_at.result (Err fault) c.ask_at.ensures c.in_err-reply.was)) c.from_residual.ensures.1

pub follow_on-requires : goal.follow_on-requires
follow_on-requires g t c =
    let some = on_some_step c.args.more c.args.path.now c.in_ok-reply.reply c.in_ok-step.step c.in-On.next c.in_ok-step.ensures c.in-On.is in
    search (rules, arith)

pub returns-in_err-step : goal.returns-in_err-step
returns-in_err-step g t c =
    let request = g.R.AtPath.request c.args.request.now in
    let path = c.args.path.now in
    let fault = c.in_err-step.field-0.0 in
    handed g.A.Ask g.met.A.Ask.same g.met.A.Ask.joined (following request c.args.more path) c.args.ask.now c.ask_at.new.ask fault c.from_residual-in_err-step.result
    (step_fault g.A.Ask g.met.A.Ask.same g.met.A.Ask.joined request c.args.more path c.args.ask.now c.ask_at.new.ask c.in_ok-reply.reply fault
    (with_result g.A.Ask (reply_to (request path)) c.args.ask.now c.ask_at.new.ask c.ask_at.result (Ok c.in_ok-reply.reply) c.ask_at.ensures c.in_ok-reply.was) c.in_err-step.ensures) c.from_residual-in_err-step.ensures.1

pub returns-in-On : goal.returns-in-On
returns-in-On g t c =
    let request = g.R.AtPath.request c.args.request.now in
    let path = c.args.path.now in
    step_on g.A.Ask g.met.A.Ask.same g.met.A.Ask.joined request c.args.more path c.in-On.next c.args.ask.now c.ask_at.new.ask c.follow_on.new.ask c.in_ok-reply.reply c.follow_on.result
    (with_result g.A.Ask (reply_to (request path)) c.args.ask.now c.ask_at.new.ask c.ask_at.result (Ok c.in_ok-reply.reply) c.ask_at.ensures c.in_ok-reply.was)
    (stepped c.args.more path c.in_ok-reply.reply c.in_ok-step.step (steps.On c.in-On.next) c.in_ok-step.ensures c.in-On.is) c.follow_on.ensures

pub returns-in-Done : goal.returns-in-Done
returns-in-Done g t c =
    let request = g.R.AtPath.request c.args.request.now in
    let path = c.args.path.now in
    step_done g.A.Ask g.met.A.Ask.same g.met.A.Ask.joined request c.args.more path c.args.ask.now c.ask_at.new.ask c.in_ok-reply.reply c.in-Done.done
    (with_result g.A.Ask (reply_to (request path)) c.args.ask.now c.ask_at.new.ask c.ask_at.result (Ok c.in_ok-reply.reply) c.ask_at.ensures c.in_ok-reply.was)
    (stepped c.args.more path c.in_ok-reply.reply c.in_ok-step.step (steps.Done c.in-Done.done) c.in_ok-step.ensures c.in-Done.is)
