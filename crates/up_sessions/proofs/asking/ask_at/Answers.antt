use Rattle.std.proofs.Common.{◌≡◌, ◌∷◌, ◌++◌, refl, ap, rules, ◌∙◌}
use Rattle.up_sessions.proofs.AmongLemmas.{asks_among}
use Rattle.up_sessions.proofs.AtLemmas.{one_of}
use Rattle.up_sessions.specs.Asking.{AsksOne}
use Rattle.up_sessions.specs.declared.behind.Behind.{Behind}
use Rattle.up_sessions.proofs.asking.ask_at.Goals as goal

pub returns-clause-asks : goal.returns-clause-asks
returns-clause-asks g c =
    let cut : c.split_at_mut-before.result.1.now ≡ c.in-Some.host.now ∷ c.in-Some.after.now = c.in-Some.ensures.cases.0 in
    one_of c.args.hosts.now _ c.split_at_mut-before.result.0.now c.in-Some.after.now c.in-Some.host.now c.ask.new.self c.args.place c.args.asker.now.peers.now c.ask.new.loader.peers.now
    (λ hs. AsksOne g.D.Disk g.P.Loader hs (record { user = c.args.asker.now.session.now.user; request = c.args.request.now }) c.args.asker.now.moment c.ask.result)
    (c.split_at_mut-before.ensures.value ∙ ap (λ xs. c.split_at_mut-before.result.0.now ++ xs) cut) c.split_at_mut-before.ensures.front_len refl
    (asks_among g.P.Loader (λ (b : Behind g.row.D.Denot g.row.P.Denot). b.peers.now) (λ (b : Behind g.row.D.Denot g.row.P.Denot). b.before.now) (λ (b : Behind g.row.D.Denot g.row.P.Denot). b.after.now)
    (λ (a b : Behind g.row.D.Denot g.row.P.Denot). b.peers.ghost_name ≡ a.peers.ghost_name) g.D.Disk (record { user = c.args.asker.now.session.now.user; request = c.args.request.now }) c.args.asker.now.moment c.ask.result c.in-Some.host.now
    c.ask.new.self _ c.ask.new.loader _ (search rules) c.ask.ensures.asked c.ask.ensures.alone c.ask.ensures.alike c.ask.ensures.counts c.ask.ensures.quiet (c.ask.ensures.moment ∙ search rules)
    (record { name_is = c.ask.ensures.name; operator_is = c.ask.ensures.operator; settled = c.ask.ensures.stays }))
