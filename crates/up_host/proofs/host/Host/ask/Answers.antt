use Rattle.std.proofs.Common.{subst}
use Rattle.up_calls.specs.Alike.{TellsNoMore}
use Rattle.up_calls.specs.Calls.{Asked}
use Rattle.up_calls.specs.Routes.{Question}
use Rattle.up_host.proofs.AskedLemmas.{alone_by, counts_of}
use Rattle.up_host.specs.Alone.{IsAlone, RisesAsShown, views}
use Rattle.up_names.specs.Texts.{UserName}
use Rattle.up_host.proofs.host.Host.ask.Goals as goal

pub returns-clause-asked : goal.returns-clause-asked
returns-clause-asked g c =
    subst (λ (u : UserName). Asked g.L.Loader c.args.self.now.operator (views g.D.Disk c.args.self.now) c.args.loader.now (record { user = u; request = c.args.request.now }) c.ask.result (views g.D.Disk c.ask.new.logs) c.ask.new.loader)
    c.user.ensures c.ask.ensures.asked

pub returns-clause-alone : goal.returns-clause-alone
returns-clause-alone g c =
    let q : Question = record { user = c.user.result.now; request = c.args.request.now } in
    subst (λ (u : UserName). IsAlone (views g.D.Disk c.args.self.now) (views g.D.Disk c.ask.new.logs) (record { user = u; request = c.args.request.now }) c.ask.result) c.user.ensures
    (alone_by g.D.Disk c.args.self.now c.ask.new.logs q c.ask.result c.ask.ensures.tie c.ask.ensures.leaves c.ask.ensures.rounds)

pub returns-clause-counts : goal.returns-clause-counts
returns-clause-counts g c =
    let q : Question = record { user = c.user.result.now; request = c.args.request.now } in
    counts_of g.D.Disk g.L.Loader c.args.self.now c.ask.new.logs c.args.loader.now c.ask.new.loader q c.ask.result c.ask.ensures.tie.counts c.ask.ensures.asked.loads.some c.ask.ensures.risen

pub returns-clause-quiet : goal.returns-clause-quiet
returns-clause-quiet g c =
    subst (λ (u : UserName). RisesAsShown (views g.D.Disk c.args.self.now) (views g.D.Disk c.ask.new.logs) (record { user = u; request = c.args.request.now }) c.ask.result) c.user.ensures c.ask.ensures.quiet

pub returns-clause-tie : goal.returns-clause-tie
returns-clause-tie g c = c.ask.ensures.loader

pub returns-clause-alike : goal.returns-clause-alike
returns-clause-alike g c =
    subst (λ (u : UserName). TellsNoMore (views g.D.Disk c.ask.new.logs) (record { user = u; request = c.args.request.now }) c.ask.result) c.user.ensures c.ask.ensures.alike

pub returns-clause-stays : goal.returns-clause-stays
returns-clause-stays g c = c.ask.ensures.tie.stays

pub returns-clause-operator : goal.returns-clause-operator
returns-clause-operator g c = c.ask.ensures.tie.operator

pub returns-clause-name : goal.returns-clause-name
returns-clause-name g c = c.ask.ensures.tie.name
