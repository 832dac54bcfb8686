use Rattle.std.proofs.Common.{◌≤◌, sym, subst, arith}
use Rattle.up_shared.specs.Callers.{seats_same, seats_trans}
use Rattle.up_storm.proofs.Running.{on_ok, running_next, running_none}
use Rattle.up_shared.specs.Sharing.{SeatsLater}
use Rattle.up_storm.specs.Sessions.{Session}
use Rattle.up_storm.specs.Telling.{total}
use Rattle.up_storm.proofs.session.Worker.run.Goals as goal

pub loop-call-init : goal.loop-call-init
loop-call-init g c = record {
  running = running_none g.L.Loader c.args.shared.now c.args.full c.args.k c.args.requests c.args.self.now;
  few = subst (λ t. total t ≤ 0) (sym c.requires.fresh) (omega arith);
  sits = c.requires.sits;
  later = seats_same c.args.self.now.seats;
}

pub returns-then-is_err-clause-later : goal.returns-then-is_err-clause-later
returns-then-is_err-clause-later g c =
    subst (λ (s : Session g.row.D.Denot g.row.L.Denot). SeatsLater c.args.self.now.seats s.seats) (sym c.self.view_is)
    (seats_trans c.args.self.now.seats c.loop-call.self.seats c.ask-asked.new.self.seats c.loop-call.invariant.later c.ask-asked.ensures.later)

pub loop-call-preserved : goal.loop-call-preserved
loop-call-preserved g c =
    let had = c.loop-call.invariant.few in
    let more = c.ask-asked.ensures.few in
    record {
      running = running_next g.L.Loader c.args.shared.now c.args.full c.args.k c.args.requests c.args.self.now c.loop-call.self c.ask-asked.new.self c.loop-call.call c.loop-call-test.true c.loop-call.invariant.running (on_ok c.ask-asked.result _ (sym c.if-is_err.ensures.value) c.ask-asked.ensures.asked);
      few = omega (arith, had, more);
      sits = c.ask-asked.ensures.sits;
      later = seats_trans c.args.self.now.seats c.loop-call.self.seats c.ask-asked.new.self.seats c.loop-call.invariant.later c.ask-asked.ensures.later;
    }
