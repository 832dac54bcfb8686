use Rattle.std.proofs.Common.{◌≡◌, ◌+◌, [], List, length, take, sym, ap, subst, ◌∙◌, arith}
use Rattle.std.proofs.Math.Seq.{take-length}
use Rattle.up_host.proofs.RunLemmas.{history_none, history_taken, moment_at}
use Rattle.up_host.specs.Runs.{IsHistory}
use Rattle.up_calls.specs.declared.event.Event.{Event}
use Rattle.up_host.proofs.run.ask_each.Goals as goal

pub ask-event-requires : goal.ask-event-requires
ask-event-requires g c = record { moment = moment_at c.args.calls.now c.loop-call.call-index c.call-item.result c.requires.moments c.loop-call-test.true c.call-item.is }

pub loop-call-init : goal.loop-call-init
loop-call-init g c = record {
  history = subst (λ (events : List Event). IsHistory g.D.Disk g.L.Loader c.args.host.now c.args.loader.now [] c.args.host.now c.args.loader.now events) (sym c.requires.none) (history_none g.D.Disk g.L.Loader c.args.host.now c.args.loader.now);
  room = omega (arith, c.requires.room);
}

pub loop-call-preserved : goal.loop-call-preserved
loop-call-preserved g c = record {
  history = subst (λ (events : List Event). IsHistory g.D.Disk g.L.Loader c.args.host.now c.args.loader.now (take (c.loop-call.call-index + 1) c.args.calls.now) c.ask-event.new.self c.ask-event.new.loader events) (sym c.push_reserved.ensures.items)
      (history_taken g.D.Disk g.L.Loader c.args.host.now c.loop-call.host c.ask-event.new.self c.args.loader.now c.loop-call.loader c.ask-event.new.loader c.args.calls.now c.loop-call.call-index c.call-item.result c.loop-call.events.items c.ask-event.result
      c.loop-call.invariant.history c.loop-call-test.true c.call-item.is
      (record { asked = c.ask-event.ensures.asked; alone = c.ask-event.ensures.alone; counts = c.ask-event.ensures.counts; quiet = c.ask-event.ensures.quiet; stays = c.ask-event.ensures.stays; operator = c.ask-event.ensures.operator }) c.ask-event.ensures.moment);
  room = omega (arith, c.loop-call.invariant.room, c.push_reserved.ensures.len, c.push_reserved.ensures.capacity);
}

pub returns : goal.returns
returns g c =
    let i : c.loop-call.call-index ≡ length c.args.calls.now = omega (arith, c.loop-call-test.false, c.loop-call.auto.call-index-end) in
    let all : take c.loop-call.call-index c.args.calls.now ≡ c.args.calls.now = ap (λ n. take n c.args.calls.now) i ∙ take-length c.args.calls.now in
    subst (λ calls. IsHistory g.D.Disk g.L.Loader c.args.host.now c.args.loader.now calls c.loop-call.host c.loop-call.loader c.loop-call.events.items) all c.loop-call.invariant.history
