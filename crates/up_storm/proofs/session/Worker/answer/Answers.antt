use Rattle.std.proofs.Common.{subst}
use Rattle.up_shared.specs.Callers.{seats_same}
use Rattle.up_storm.proofs.Asking.{answered}
use Rattle.up_storm.specs.Asked.{request_of}
use Rattle.up_storm.specs.Sessions.{IsAnswered, Session}
use Rattle.up_wire.specs.declared.requests.Request.{Request}
use Rattle.up_storm.proofs.session.Worker.answer.Goals as goal

pub returns-in_err-request-clause-later : goal.returns-in_err-request-clause-later
returns-in_err-request-clause-later g c = seats_same c.args.self.now.seats

pub returns-clause-answered : goal.returns-clause-answered
returns-clause-answered g c =
    let e = c.ask-event.ensures in
    let i = c.self.inside in
    subst (λ (s : Session g.row.D.Denot g.row.L.Denot). IsAnswered g.L.Loader c.args.shared.now s.seats s.peers (record { user = s.user; request = request_of c.args.k c.args.draw }) c.ask-event.result c.ask-event.new.seats c.ask-event.new.loader)
    c.self.view_is
    (subst (λ (r : Request). IsAnswered g.L.Loader c.args.shared.now i.seats i.peers (record { user = i.session.user; request = r }) c.ask-event.result c.ask-event.new.seats c.ask-event.new.loader)
    c.in_ok-request.ensures
    (answered g.L.Loader c.args.shared.now i.seats c.ask-event.new.seats i.peers c.ask-event.new.loader (record { user = i.session.user; request = c.in_ok-request.request }) c.ask-event.result e.asked e.looked e.risen e.rounds e.alike e.later e.moment))
