use Rattle.std.proofs.Common.{◌<◌, length, subst, sym}
use Rattle.up_sessions.proofs.KeptLemmas.{kept_closed, kept_open}
use Rattle.up_sessions.specs.Kept.{IsKept}
use Rattle.up_sessions.specs.Worlds.{Hosts}
use Rattle.up_sessions.proofs.sessions.Sessions.seat.Goals as goal

pub invariant_of-self : goal.invariant_of-self
invariant_of-self g c =
    let within : c.args.place < length c.self.inside.hosts.items = subst (λ (a : Hosts _). c.args.place < length a.hosts) (sym c.self.view_is) c.requires.place in
    kept_open c.self.inside.hosts.items c.self.inside.sessions.items c.self.inside.free.spare c.args.number (record { place = c.args.place; session = c.in-Some.session }) c.self.invariant within

pub invariant_of-self-in-None : goal.invariant_of-self-in-None
invariant_of-self-in-None g c =
    subst (λ sessions. IsKept c.self.inside.hosts.items sessions c.self.inside.free.spare) (sym c.close.ensures)
    (kept_closed c.self.inside.hosts.items c.self.inside.sessions.items c.self.inside.free.spare c.args.number c.self.invariant)
