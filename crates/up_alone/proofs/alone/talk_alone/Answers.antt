use Rattle.std.proofs.Common.{rules, ◌≡◌, refl}
use Rattle.up_alone.proofs.AnsweringLemmas.{ends_well, talks_seen}
use Rattle.up_alone.specs.Alone.{alone_among}
use Rattle.up_alone.specs.declared.alone.Alone.{Alone}
use Rattle.up_talk.specs.Turns.{ends}
use Rattle.up_alone.proofs.alone.talk_alone.Goals as goal

pub returns-clause-talks : goal.returns-clause-talks
returns-clause-talks g c =
    talks_seen (λ (s : Alone g.row.D.Denot g.row.L.Denot). s.host.now) (λ (s : Alone g.row.D.Denot g.row.L.Denot). s.loader.now)
    (λ (a b : Alone g.row.D.Denot g.row.L.Denot). (b.host.ghost_name ≡ a.host.ghost_name) × (b.loader.ghost_name ≡ a.loader.ghost_name) × (b.host.now.name ≡ a.host.now.name) × (b.host.now.operator ≡ a.host.now.operator)
    × g.L.Loader.tied a.loader.now b.loader.now)
    (alone_among g.D.Disk g.L.Loader g.V.Verifier g.C.Clock g.N.Nonces) _ c.talk_to.new.answerer c.args.host.now _ c.args.peers.now _ c.args.verifier.now c.talk_to.new.verifier c.args.clock.now c.talk_to.new.clock
    c.args.nonces.now c.talk_to.new.nonces (ends g.S.Source g.K.Sink c.args.source.now c.args.sink.now) (ends g.S.Source g.K.Sink c.talk_to.new.source c.talk_to.new.sink) c.talk_to.result
    refl refl (search rules) (search rules) c.talk_to.ensures.talks

pub returns-clause-complete : goal.returns-clause-complete
returns-clause-complete g c =
    ends_well (λ (s : Alone g.row.D.Denot g.row.L.Denot). s.host.now) (λ (s : Alone g.row.D.Denot g.row.L.Denot). s.loader.now)
    (λ (a b : Alone g.row.D.Denot g.row.L.Denot). (b.host.ghost_name ≡ a.host.ghost_name) × (b.loader.ghost_name ≡ a.loader.ghost_name) × (b.host.now.name ≡ a.host.now.name) × (b.host.now.operator ≡ a.host.now.operator)
    × g.L.Loader.tied a.loader.now b.loader.now)
    (alone_among g.D.Disk g.L.Loader g.V.Verifier g.C.Clock g.N.Nonces) _ c.talk_to.new.answerer c.args.host.now _ c.args.peers.now _ c.args.verifier.now c.talk_to.new.verifier c.args.clock.now c.talk_to.new.clock
    c.args.nonces.now c.talk_to.new.nonces (ends g.S.Source g.K.Sink c.args.source.now c.args.sink.now) (ends g.S.Source g.K.Sink c.talk_to.new.source c.talk_to.new.sink) c.talk_to.result
    refl refl (search rules) (search rules) c.talk_to.ensures.complete
