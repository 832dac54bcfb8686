use Rattle.std.proofs.Common.{rules, ◌≡◌, None, refl, subst}
use Rattle.up_calls.specs.Routes.{OwnStays}
use Rattle.up_feed.proofs.talking.feed_talk.Goals as goal
use Rattle.up_feed.specs.Feeding.{leader_among}
use Rattle.up_feed.specs.declared.talking.Leading.{Leading}
use Rattle.up_shared.specs.Callers.{sits_later}
use Rattle.up_shared.specs.Sharing.{SeatsLater, views_of}
use Rattle.up_talk.specs.Turns.{ends}
use Rattle.up_together.proofs.AnsweringLemmas.{ends_well, talks_seen}
use Rattle.up_together.proofs.SittingLemmas.{marks_by_sits}

pub invariant_of-leading : goal.invariant_of-leading
invariant_of-leading g c = record { sits = marks_by_sits c.args.host.now c.args.seats.now c.requires.sits }

pub returns-clause-talks : goal.returns-clause-talks
returns-clause-talks g c =
    talks_seen (λ (s : Leading g.row.D.Denot g.row.R.Denot). s.shared.now) (λ (s : Leading g.row.D.Denot g.row.R.Denot). s.seats.now) (λ (s : Leading g.row.D.Denot g.row.R.Denot). tt)
    (λ (a b : Leading g.row.D.Denot g.row.R.Denot). (b.seats.ghost_name ≡ a.seats.ghost_name) × (b.shared.now ≡ a.shared.now) × SeatsLater a.seats.now b.seats.now × OwnStays None (views_of a.seats.now) (views_of b.seats.now))
    (leader_among g.V.Verifier g.N.Nonces) _ c.talk_to.new.answerer c.args.host.now _ c.args.seats.now _ tt tt c.args.verifier.now c.talk_to.new.verifier _ _
    c.args.nonces.now c.talk_to.new.nonces (ends g.S.Source g.K.Sink c.args.source.now c.args.sink.now) (ends g.S.Source g.K.Sink c.talk_to.new.source c.talk_to.new.sink) c.talk_to.result
    refl refl refl (search rules) (search rules) refl c.talk_to.ensures.talks

pub returns-clause-complete : goal.returns-clause-complete
returns-clause-complete g c =
    ends_well (λ (s : Leading g.row.D.Denot g.row.R.Denot). s.shared.now) (λ (s : Leading g.row.D.Denot g.row.R.Denot). s.seats.now) (λ (s : Leading g.row.D.Denot g.row.R.Denot). tt)
    (λ (a b : Leading g.row.D.Denot g.row.R.Denot). (b.seats.ghost_name ≡ a.seats.ghost_name) × (b.shared.now ≡ a.shared.now) × SeatsLater a.seats.now b.seats.now × OwnStays None (views_of a.seats.now) (views_of b.seats.now))
    (leader_among g.V.Verifier g.N.Nonces) _ c.talk_to.new.answerer c.args.host.now _ c.args.seats.now _ tt tt c.args.verifier.now c.talk_to.new.verifier _ _
    c.args.nonces.now c.talk_to.new.nonces (ends g.S.Source g.K.Sink c.args.source.now c.args.sink.now) (ends g.S.Source g.K.Sink c.talk_to.new.source c.talk_to.new.sink) c.talk_to.result
    refl refl refl (search rules) (search rules) refl c.talk_to.ensures.complete

pub returns-clause-sits : goal.returns-clause-sits
returns-clause-sits g c = sits_later c.args.host.now c.args.seats.now _ (subst (SeatsLater c.args.seats.now) (search rules) c.talk_to.ensures.tie.2) c.requires.sits
