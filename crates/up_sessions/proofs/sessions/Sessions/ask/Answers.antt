use Rattle.std.proofs.Common.{◌∙◌, ℕ, ap, refl, rules, subst, sym}
use Rattle.up_sessions.proofs.AtLemmas.{at_opened, kept_over, place_within}
use Rattle.up_sessions.specs.Asking.{AsksOne}
use Rattle.up_sessions.specs.Kept.{OneOf}
use Rattle.up_sessions.specs.Others.{others}
use Rattle.up_sessions.specs.Worlds.{session_in}
use Rattle.up_sessions.specs.declared.opened.Opened.{Opened}
use Rattle.up_sessions.proofs.sessions.Sessions.ask.Goals as goal

pub ask_at-requires : goal.ask_at-requires
ask_at-requires g c =
    place_within c.self.inside.hosts.items c.deref_mut.result.now c.self.inside.sessions.items c.self.inside.free.spare c.args.number c.in-Some.opened.now c.self.invariant c.deref_mut.ensures.value
    (sym (c.in-Some.ensures ∙ ap (λ sessions. session_in sessions c.args.number) c.deref.ensures.value))

pub returns : goal.returns
returns g c =
    at_opened c.args.self.now _ c.self.inside.hosts.items c.deref_mut.result.now c.ask_at.new.hosts _ c.self.inside.hosts.len c.args.number c.in-Some.opened.now
    (λ (opened : Opened) hosts. AsksOne g.D.Disk g.P.Loader (others opened.place hosts) (record { user = opened.session.user; request = c.args.request.now }) c.args.now c.ask_at.result) c.args.peers.now c.ask_at.new.asker.peers.now _
    c.deref_mut.ensures.value (ap (λ h. h.hosts) c.self.view_is) c.deref_mut.ensures.len refl refl (search rules)
    (sym (c.in-Some.ensures ∙ ap (λ sessions. session_in sessions c.args.number) (c.deref.ensures.value ∙ ap (λ h. h.sessions) c.self.view_is)))
    (subst (λ (m : ℕ). OneOf c.in-Some.opened.now.place (AsksOne g.D.Disk g.P.Loader (others c.in-Some.opened.now.place c.deref_mut.result.now) (record { user = c.in-Some.opened.now.session.user; request = c.args.request.now }) m c.ask_at.result)
    c.deref_mut.result.now c.args.peers.now c.ask_at.new.hosts c.ask_at.new.asker.peers.now) c.of.ensures c.ask_at.ensures.asks)
    (ap (λ h. h.sessions) c.self.view_is) (ap (λ h. h.free) c.self.view_is)

pub invariant_of-self : goal.invariant_of-self
invariant_of-self g c =
    kept_over g.D.Disk c.in-Some.opened.now.place _ c.self.inside.hosts.items c.deref_mut.result.now c.ask_at.new.hosts _ c.self.inside.sessions.items c.self.inside.free.spare c.self.inside.hosts.len c.args.peers.now c.ask_at.new.asker.peers.now
    c.deref_mut.ensures.value c.deref_mut.ensures.len refl c.self.invariant c.ask_at.ensures.asks c.ask_at.ensures.asks.done.stays.settled
