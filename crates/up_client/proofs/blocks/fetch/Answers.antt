use Rattle.std.proofs.Common.{Err, sym, subst}
use Rattle.up_entry.specs.declared.entries.Endpoint.{Endpoint}
use Rattle.up_client.specs.declared.fault.ClientFault.TheVariants as faults
use Rattle.up_client.specs.Getting.{fetched_at}
use Rattle.up_client.specs.Talks.{Talks}
use Rattle.up_client.proofs.Holding.{talks_done}
use Rattle.up_client.proofs.blocks.fetch.Goals as goal

pub returns-in-Address : goal.returns-in-Address
returns-in-Address g c =
    subst (λ (at : Endpoint). Talks g.A.Ask (fetched_at at c.args.i c.args.block.now) c.args.ask.now (Err (faults.Elsewhere c.args.i)) c.args.ask.now) (sym c.in-Address.is)
    (talks_done g.A.Ask g.met.A.Ask.same g.met.A.Ask.joined (Err (faults.Elsewhere c.args.i)) c.args.ask.now (λ failed. cc))
