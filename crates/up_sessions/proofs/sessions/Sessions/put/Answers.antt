use Rattle.std.proofs.Common.{◌∙◌, ℕ, ap, of_z, refl, rules, subst, sym, to_z, w64}
use Rattle.up_client.specs.Putting.{put_talk}
use Rattle.up_names.specs.Texts.{UserName}
use Rattle.up_sessions.proofs.AmongLemmas.{same_put, talks_at}
use Rattle.up_sessions.proofs.AtLemmas.{at_opened, kept_over, place_within}
use Rattle.up_sessions.proofs.IoLemmas.{put_io}
use Rattle.up_sessions.proofs.OddLemmas.{put_comes}
use Rattle.up_sessions.specs.Kept.{OneOf}
use Rattle.up_sessions.specs.Others.{others}
use Rattle.up_sessions.specs.Talking.{TalksTo}
use Rattle.up_sessions.specs.Worlds.{session_in}
use Rattle.up_sessions.specs.declared.opened.Opened.{Opened}
use Rattle.up_sessions.specs.declared.talking.SessionAsk.{SessionAsk}
use Rattle.up_sign.specs.SigningOn.{Signing}
use Rattle.up_sessions.proofs.sessions.Sessions.put.Goals as goal

pub invariant_of-ask : goal.invariant_of-ask
invariant_of-ask g c = record {
  within =
      place_within c.self.inside.hosts.items c.as_mut_slice-hosts.result.now c.self.inside.sessions.items c.self.inside.free.spare c.args.number c.in-Some.opened.now c.self.invariant c.as_mut_slice-hosts.ensures.value
      (sym (c.in-Some.ensures ∙ ap (λ sessions. session_in sessions c.args.number) c.deref.ensures.value));
}

pub returns : goal.returns
returns g c =
    at_opened c.args.self.now _ c.self.inside.hosts.items c.as_mut_slice-hosts.result.now c.put.new.ask.hosts.now _ c.self.inside.hosts.len c.args.number c.in-Some.opened.now
    (λ (opened : Opened) hosts. TalksTo g.D.Disk g.P.Loader (others opened.place hosts) opened.session.user c.args.now (put_talk opened.session.user c.args.path.now c.args.time c.args.sequence c.args.bytes.now) c.put.result) c.args.peers.now c.put.new.ask.asker.peers.now _
    c.as_mut_slice-hosts.ensures.value (ap (λ h. h.hosts) c.self.view_is) c.as_mut_slice-hosts.ensures.len (search rules) refl (search rules)
    (sym (c.in-Some.ensures ∙ ap (λ sessions. session_in sessions c.args.number) (c.deref.ensures.value ∙ ap (λ h. h.sessions) c.self.view_is)))
    (subst (λ (m : ℕ). OneOf c.in-Some.opened.now.place (TalksTo g.D.Disk g.P.Loader (others c.in-Some.opened.now.place c.as_mut_slice-hosts.result.now) c.in-Some.opened.now.session.user m (put_talk c.in-Some.opened.now.session.user c.args.path.now c.args.time c.args.sequence c.args.bytes.now) c.put.result)
    c.as_mut_slice-hosts.result.now c.args.peers.now c.put.new.ask.hosts.now c.put.new.ask.asker.peers.now) c.of.ensures
    (talks_at g.D.Disk g.P.Loader (λ (s : SessionAsk g.row.D.Denot g.row.P.Denot g.D.Disk g.P.Loader). s.hosts.now) (λ (s : SessionAsk g.row.D.Denot g.row.P.Denot g.D.Disk g.P.Loader). s.asker.peers.now) (λ (s : SessionAsk g.row.D.Denot g.row.P.Denot g.D.Disk g.P.Loader). s.place)
    (λ (s : SessionAsk g.row.D.Denot g.row.P.Denot g.D.Disk g.P.Loader). s.asker.session.now) (λ (n : Signing). n.user) (λ (s : SessionAsk g.row.D.Denot g.row.P.Denot g.D.Disk g.P.Loader). s.asker.moment)
    (put_talk c.in-Some.opened.now.session.user c.args.path.now c.args.time c.args.sequence c.args.bytes.now) _ c.put.result _ c.put.new.ask
    (place_within c.self.inside.hosts.items c.as_mut_slice-hosts.result.now c.self.inside.sessions.items c.self.inside.free.spare c.args.number c.in-Some.opened.now c.self.invariant c.as_mut_slice-hosts.ensures.value
    (sym (c.in-Some.ensures ∙ ap (λ sessions. session_in sessions c.args.number) c.deref.ensures.value)))
    (put_io c.in-Some.opened.now.session.user c.args.path.now c.args.time c.args.sequence c.args.bytes.now) (put_comes c.in-Some.opened.now.session.user c.args.path.now c.args.time c.args.sequence c.args.bytes.now)
    (ap (λ (user : UserName). put_talk user c.args.path.now (to_z w64 (of_z w64 c.args.time)) (to_z w64 (of_z w64 c.args.sequence)) c.args.bytes.now) c.user.ensures
    ∙ same_put c.in-Some.opened.now.session.user c.args.path.now c.args.time c.args.sequence c.args.bytes.now c.ranges.time c.ranges.sequence) c.put.ensures.talk))
    (ap (λ h. h.sessions) c.self.view_is) (ap (λ h. h.free) c.self.view_is)

pub invariant_of-self : goal.invariant_of-self
invariant_of-self g c =
    let one =
    talks_at g.D.Disk g.P.Loader (λ (s : SessionAsk g.row.D.Denot g.row.P.Denot g.D.Disk g.P.Loader). s.hosts.now) (λ (s : SessionAsk g.row.D.Denot g.row.P.Denot g.D.Disk g.P.Loader). s.asker.peers.now) (λ (s : SessionAsk g.row.D.Denot g.row.P.Denot g.D.Disk g.P.Loader). s.place)
    (λ (s : SessionAsk g.row.D.Denot g.row.P.Denot g.D.Disk g.P.Loader). s.asker.session.now) (λ (n : Signing). n.user) (λ (s : SessionAsk g.row.D.Denot g.row.P.Denot g.D.Disk g.P.Loader). s.asker.moment)
    (put_talk c.in-Some.opened.now.session.user c.args.path.now c.args.time c.args.sequence c.args.bytes.now) _ c.put.result _ c.put.new.ask
    (place_within c.self.inside.hosts.items c.as_mut_slice-hosts.result.now c.self.inside.sessions.items c.self.inside.free.spare c.args.number c.in-Some.opened.now c.self.invariant c.as_mut_slice-hosts.ensures.value
    (sym (c.in-Some.ensures ∙ ap (λ sessions. session_in sessions c.args.number) c.deref.ensures.value)))
    (put_io c.in-Some.opened.now.session.user c.args.path.now c.args.time c.args.sequence c.args.bytes.now) (put_comes c.in-Some.opened.now.session.user c.args.path.now c.args.time c.args.sequence c.args.bytes.now)
    (ap (λ (user : UserName). put_talk user c.args.path.now (to_z w64 (of_z w64 c.args.time)) (to_z w64 (of_z w64 c.args.sequence)) c.args.bytes.now) c.user.ensures
    ∙ same_put c.in-Some.opened.now.session.user c.args.path.now c.args.time c.args.sequence c.args.bytes.now c.ranges.time c.ranges.sequence) c.put.ensures.talk in
    kept_over g.D.Disk c.in-Some.opened.now.place _ c.self.inside.hosts.items c.as_mut_slice-hosts.result.now c.put.new.ask.hosts.now _ c.self.inside.sessions.items c.self.inside.free.spare c.self.inside.hosts.len c.args.peers.now c.put.new.ask.asker.peers.now
    c.as_mut_slice-hosts.ensures.value c.as_mut_slice-hosts.ensures.len (search rules) c.self.invariant one one.done.stays.settled
