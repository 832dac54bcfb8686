use Rattle.std.proofs.Common.{refl}
use Rattle.up_sessions.proofs.AtLemmas.{answered}
use Rattle.up_sessions.proofs.talking.SessionAskAsk.ask.Goals as goal

pub returns-clause-given : goal.returns-clause-given
returns-clause-given g c = (
  answered g.D.Disk g.P.Loader c.args.self.now.place c.args.self.now.asker.session.now.user c.args.self.now.asker.moment c.args.request.now c.ask_at-event.result c.args.self.now.hosts.now c.ask_at-event.new.hosts
      c.args.self.now.asker.peers.now c.ask_at-event.new.asker.peers.now c.ask_at-event.ensures.asks,
  refl,
  c.ask_at-event.ensures.session,
  c.ask_at-event.ensures.moment,
)
