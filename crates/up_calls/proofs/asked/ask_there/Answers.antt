use Rattle.std.proofs.Common.{◌≡◌, [], None, Some}
use Rattle.up_calls.proofs.AsksLemmas.{Tries-none}
use Rattle.up_calls.proofs.CameLemmas.{if_ok, on_err, on_err_now, served_if}
use Rattle.up_calls.proofs.GatherLemmas.{stays_trans}
use Rattle.up_calls.proofs.ShownLemmas.{apart_all, quiet_if}
use Rattle.up_calls.proofs.TurnLemmas.{some_later}
use Rattle.up_calls.specs.Answered.{TreeAnswered}
use Rattle.up_calls.specs.Routes.{LogName, Question}
use Rattle.up_calls.specs.declared.event.Event.{Event}
use Rattle.up_calls.proofs.asked.ask_there.Goals as goal

pub ask_loaded-event-requires-clause-ready : goal.ask_loaded-event-requires-clause-ready
ask_loaded-event-requires-clause-ready g c = g.met.B.Logs.still None c.args.logs.now c.gather_blocks.new.logs c.gather_blocks.ensures.tie c.requires.ready

pub ask_loaded-event-requires-clause-there : goal.ask_loaded-event-requires-clause-there
ask_loaded-event-requires-clause-there g c =
    some_later ((g.B.Logs.views c.args.logs.now).tree c.args.owner.now) ((g.B.Logs.views c.gather_blocks.new.logs).tree c.args.owner.now)
    ((g.met.B.Logs.later None c.args.logs.now c.gather_blocks.new.logs c.gather_blocks.ensures.tie).trees c.args.owner.now) c.requires.there

pub returns-in_err-fetched-clause-wanting : goal.returns-in_err-fetched-clause-wanting
returns-in_err-fetched-clause-wanting g c = on_err_now c.from_residual.result (g.met.B.Logs.stays None c.args.logs.now c.gather_blocks.new.logs c.gather_blocks.ensures.tie)

pub returns-in_err-fetched-clause-apart : goal.returns-in_err-fetched-clause-apart
returns-in_err-fetched-clause-apart g c = on_err_now c.from_residual.result c.gather_blocks.ensures.apart

pub returns-in_err-fetched-clause-tried : goal.returns-in_err-fetched-clause-tried
returns-in_err-fetched-clause-tried g c = record {
  between = c.gather_blocks.new.loader;
  blocks = c.gather_blocks.ensures.tried;
  groups = Tries-none g.L.Loader.loads g.L.Loader.faults g.L.Loader.tied g.met.L.Loader.same c.gather_blocks.new.loader;
}

pub returns-in_err-fetched-clause-tie : goal.returns-in_err-fetched-clause-tie
returns-in_err-fetched-clause-tie g c = g.met.B.Logs.wider (Some (LogName.OfTree c.args.owner.now)) c.args.logs.now c.gather_blocks.new.logs c.gather_blocks.ensures.tie

pub returns-clause-served : goal.returns-clause-served
returns-clause-served g c =
    let who = Some (LogName.OfTree c.args.owner.now) in
    let q : Question = record { user = c.args.user.now; request = c.args.request.now } in
    let first = c.args.logs.now in
    let mid = c.gather_blocks.new.logs in
    let last = c.ask_loaded-event.new.logs in
    served_if g.L.Loader (g.B.Logs.operator_of first) (λ log. g.B.Logs.rises log first last) c.args.owner.now q c.args.locations c.args.now
    (λ h. g.met.B.Logs.rises_within LogName.OfStore who first first mid last (g.met.B.Logs.wider who first first (g.met.B.Logs.same first)) h c.ask_loaded-event.ensures.tie)
    (λ h. g.met.B.Logs.rises_within (LogName.OfTree c.args.owner.now) who first mid last last (g.met.B.Logs.wider who first mid c.gather_blocks.ensures.tie) h (g.met.B.Logs.wider who last last (g.met.B.Logs.same last)))
    (g.B.Logs.operator_of mid) (g.met.B.Logs.asks_as None first mid c.gather_blocks.ensures.tie)
    (g.B.Logs.views first) (g.B.Logs.views mid) (g.B.Logs.views last) (g.met.B.Logs.later None first mid c.gather_blocks.ensures.tie) (g.met.B.Logs.later who mid last c.ask_loaded-event.ensures.tie)
    (g.met.B.Logs.stays None first mid c.gather_blocks.ensures.tie) c.args.loader.now c.gather_blocks.new.loader c.ask_loaded-event.new.loader c.in_ok-fetched.fetched
    c.in_ok-fetched.ensures.locations c.in_ok-fetched.ensures.gathered c.ask_loaded-event.result c.ask_loaded-event.ensures.answered

pub returns-clause-quiet : goal.returns-clause-quiet
returns-clause-quiet g c =
    let q : Question = record { user = c.args.user.now; request = c.args.request.now } in
    let tree = LogName.OfTree c.args.owner.now in
    let first = c.args.logs.now in
    let mid = c.gather_blocks.new.logs in
    let last = c.ask_loaded-event.new.logs in
    let fetched = c.in_ok-fetched.fetched in
    quiet_if g.B.Logs.quiet g.met.B.Logs.quiet_joined first mid last c.args.owner.now fetched c.ask_loaded-event.result
    (if_ok c.ask_loaded-event.result
    (λ (e : Event). TreeAnswered g.L.Loader (g.B.Logs.operator_of mid) (g.B.Logs.rises tree mid last) (g.B.Logs.views mid) (g.B.Logs.views last) c.args.owner.now q c.gather_blocks.new.loader c.ask_loaded-event.new.loader fetched c.args.now e)
    (λ (e : Event). e.fetched ≡ fetched) (λ e h. h.fetched_is) c.ask_loaded-event.ensures.answered)
    c.in_ok-fetched.ensures.quiet c.ask_loaded-event.ensures.quiet

pub returns-clause-apart : goal.returns-clause-apart
returns-clause-apart g c =
    on_err c.ask_loaded-event.result
    (λ h. apart_all g.B.Logs.quiet g.met.B.Logs.quiet_joined c.args.logs.now c.gather_blocks.new.logs c.ask_loaded-event.new.logs LogName.OfStore c.gather_blocks.ensures.apart h)
    c.ask_loaded-event.ensures.calm

pub returns-clause-left : goal.returns-clause-left
returns-clause-left g c =
    let tree = LogName.OfTree c.args.owner.now in
    let first = c.args.logs.now in
    let mid = c.gather_blocks.new.logs in
    let last = c.ask_loaded-event.new.logs in
    if_ok c.ask_loaded-event.result (λ (e : Event). g.B.Logs.left tree e.position mid last) (λ (e : Event). g.B.Logs.left tree e.position first last)
    (λ e h. g.met.B.Logs.left_since tree e.position first mid last (g.met.B.Logs.wider (Some tree) first mid c.gather_blocks.ensures.tie) (g.met.B.Logs.stays None first mid c.gather_blocks.ensures.tie) h)
    c.ask_loaded-event.ensures.left

pub returns-clause-wanting : goal.returns-clause-wanting
returns-clause-wanting g c =
    on_err c.ask_loaded-event.result
    (λ h. stays_trans None (g.B.Logs.views c.args.logs.now) (g.B.Logs.views c.gather_blocks.new.logs) (g.B.Logs.views c.ask_loaded-event.new.logs) (g.met.B.Logs.stays None c.args.logs.now c.gather_blocks.new.logs c.gather_blocks.ensures.tie) h)
    c.ask_loaded-event.ensures.wanting

pub returns-clause-tie : goal.returns-clause-tie
returns-clause-tie g c =
    let who = Some (LogName.OfTree c.args.owner.now) in
    g.met.B.Logs.joined who c.args.logs.now c.gather_blocks.new.logs c.ask_loaded-event.new.logs (g.met.B.Logs.wider who c.args.logs.now c.gather_blocks.new.logs c.gather_blocks.ensures.tie) c.ask_loaded-event.ensures.tie

pub ask_loaded-event-requires-clause-kept : goal.ask_loaded-event-requires-clause-kept
ask_loaded-event-requires-clause-kept g c = record { seen = λ v is. c.new-kept.ensures v.fixed.0 v.seen [] }
