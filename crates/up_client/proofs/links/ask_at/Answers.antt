use Rattle.std.proofs.Common.{subst}
use Rattle.up_wire.specs.declared.requests.Request.{Request}
use Rattle.up_client.specs.Talks.{Talks, reply_to}
use Rattle.up_client.proofs.Exits.{exit_wanting}
use Rattle.up_client.proofs.links.ask_at.Goals as goal

pub returns-in_err-asked : goal.returns-in_err-asked
returns-in_err-asked g c =
    exit_wanting g.A.Ask g.met.A.Ask.same g.met.A.Ask.joined (reply_to (g.R.AtPath.request c.args.request.now c.args.path.now)) c.args.ask.now c.from_residual.result c.from_residual.ensures.1

pub returns : goal.returns
returns g c = subst (λ (r : Request). Talks g.A.Ask (reply_to r) c.args.ask.now c.reply_to.result c.reply_to.new.ask) c.in_ok-asked.ensures c.reply_to.ensures
