use Rattle.std.proofs.Common.{rules, ◌≡◌, refl, subst}
use Rattle.up_shared.specs.Callers.{sits_later}
use Rattle.up_shared.specs.Sharing.{SeatsLater}
use Rattle.up_talk.specs.Turns.{ends}
use Rattle.up_together.proofs.AnsweringLemmas.{ends_well, talks_seen}
use Rattle.up_together.proofs.SittingLemmas.{marks_by_sits}
use Rattle.up_together.specs.Together.{together_among}
use Rattle.up_together.specs.declared.together.Together.{Together}
use Rattle.up_together.proofs.together.talk.Goals as goal

pub invariant_of-together : goal.invariant_of-together
invariant_of-together g c = record { sits = marks_by_sits c.args.host.now c.args.seats.now c.requires.sits }

pub returns-clause-talks : goal.returns-clause-talks
returns-clause-talks g c =
    talks_seen (λ (s : Together g.row.D.Denot g.row.R.Denot g.row.L.Denot). s.shared.now) (λ (s : Together g.row.D.Denot g.row.R.Denot g.row.L.Denot). s.seats.now) (λ (s : Together g.row.D.Denot g.row.R.Denot g.row.L.Denot). s.loader.now)
    (λ (a b : Together g.row.D.Denot g.row.R.Denot g.row.L.Denot). (b.seats.ghost_name ≡ a.seats.ghost_name) × (b.loader.ghost_name ≡ a.loader.ghost_name) × (b.shared.now ≡ a.shared.now) × SeatsLater a.seats.now b.seats.now
    × g.L.Loader.tied a.loader.now b.loader.now)
    (together_among g.L.Loader g.V.Verifier g.C.Clock g.N.Nonces) _ c.talk_to.new.answerer c.args.host.now _ c.args.seats.now _ c.args.peers.now _ c.args.verifier.now c.talk_to.new.verifier c.args.clock.now c.talk_to.new.clock
    c.args.nonces.now c.talk_to.new.nonces (ends g.S.Source g.K.Sink c.args.source.now c.args.sink.now) (ends g.S.Source g.K.Sink c.talk_to.new.source c.talk_to.new.sink) c.talk_to.result
    refl refl refl (search rules) (search rules) (search rules) c.talk_to.ensures.talks

pub returns-clause-complete : goal.returns-clause-complete
returns-clause-complete g c =
    ends_well (λ (s : Together g.row.D.Denot g.row.R.Denot g.row.L.Denot). s.shared.now) (λ (s : Together g.row.D.Denot g.row.R.Denot g.row.L.Denot). s.seats.now) (λ (s : Together g.row.D.Denot g.row.R.Denot g.row.L.Denot). s.loader.now)
    (λ (a b : Together g.row.D.Denot g.row.R.Denot g.row.L.Denot). (b.seats.ghost_name ≡ a.seats.ghost_name) × (b.loader.ghost_name ≡ a.loader.ghost_name) × (b.shared.now ≡ a.shared.now) × SeatsLater a.seats.now b.seats.now
    × g.L.Loader.tied a.loader.now b.loader.now)
    (together_among g.L.Loader g.V.Verifier g.C.Clock g.N.Nonces) _ c.talk_to.new.answerer c.args.host.now _ c.args.seats.now _ c.args.peers.now _ c.args.verifier.now c.talk_to.new.verifier c.args.clock.now c.talk_to.new.clock
    c.args.nonces.now c.talk_to.new.nonces (ends g.S.Source g.K.Sink c.args.source.now c.args.sink.now) (ends g.S.Source g.K.Sink c.talk_to.new.source c.talk_to.new.sink) c.talk_to.result
    refl refl refl (search rules) (search rules) (search rules) c.talk_to.ensures.complete

pub returns-clause-sits : goal.returns-clause-sits
returns-clause-sits g c = sits_later c.args.host.now c.args.seats.now _ (subst (SeatsLater c.args.seats.now) (search rules) c.talk_to.ensures.tie.3) c.requires.sits
