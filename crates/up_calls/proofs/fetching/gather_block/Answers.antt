use Rattle.std.proofs.Common.{◌≡◌, Ok}
use Rattle.up_calls.proofs.AsksLemmas.{Tries-none, Tries-one}
use Rattle.up_calls.proofs.ShownLemmas.{but_apart, elsewhere_quiet, local_quiet}
use Rattle.up_calls.specs.Routes.{LogName}
use Rattle.up_entry.specs.declared.fetch.Fetch.TheVariants as fetch
use Rattle.up_calls.proofs.fetching.gather_block.Goals as goal

pub returns-in-Local-clause-quiet : goal.returns-in-Local-clause-quiet
returns-in-Local-clause-quiet g c =
    local_quiet (λ log. g.B.Logs.quiet log c.args.logs.now c.block.new.self) c.args.location.now.endpoint c.block.result c.in-Local.is c.block.ensures.quiet

pub returns-in-Local-clause-apart : goal.returns-in-Local-clause-apart
returns-in-Local-clause-apart g c = but_apart (λ log. g.B.Logs.quiet log c.args.logs.now c.block.new.self) LogName.OfStore (c.block.result ≡ Ok fetch.Failed) c.block.ensures.quiet

pub returns-in-Address-clause-quiet : goal.returns-in-Address-clause-quiet
returns-in-Address-clause-quiet g c =
    elsewhere_quiet (λ log. g.B.Logs.quiet log c.args.logs.now c.args.logs.now) c.args.location.now.endpoint c.fetch.result (λ log. g.met.B.Logs.quiet_same log c.args.logs.now)

pub returns-in-Address-clause-apart : goal.returns-in-Address-clause-apart
returns-in-Address-clause-apart g c = record { others = λ log other. g.met.B.Logs.quiet_same log c.args.logs.now }

pub returns-in-Local-clause-tried : goal.returns-in-Local-clause-tried
returns-in-Local-clause-tried g c = Tries-none g.L.Loader.fetches g.L.Loader.faults g.L.Loader.tied g.met.L.Loader.same c.args.loader.now

pub returns-in-Address-clause-tried : goal.returns-in-Address-clause-tried
returns-in-Address-clause-tried g c =
    Tries-one g.L.Loader.fetches g.L.Loader.faults g.L.Loader.tied c.args.loader.now c.fetch.new.self _ _ _ c.fetch.ensures.given c.fetch.ensures.counts c.fetch.ensures.tie
