use Rattle.std.proofs.Common.{sym, subst}
use Rattle.up_answers.specs.Fetching.{Fetched}
use Rattle.up_calls.specs.Gathered.{BlocksGathered}
use Rattle.up_calls.specs.Routes.{LogName}
use Rattle.up_calls.proofs.BlockLemmas.{blocks_one}
use Rattle.up_calls.proofs.ShownLemmas.{next_unread}
use Rattle.up_calls.proofs.fetching.gather_next.Goals as goal

pub returns-clause-gathered : goal.returns-clause-gathered
returns-clause-gathered g c =
    let rises = g.B.Logs.rises LogName.OfStore c.args.logs.now c.gather_block.new.logs in
    let v = (g.B.Logs.views c.args.logs.now).store in
    let w = (g.B.Logs.views c.gather_block.new.logs).store in
    subst (λ (after : Fetched). BlocksGathered g.L.Loader rises v w c.args.loader.now c.gather_block.new.loader c.args.fetched.now after) (sym c.in_ok-push.ensures.items)
    (blocks_one g.L.Loader rises v w c.args.loader.now c.gather_block.new.loader c.args.fetched.now c.args.location c.in_ok-given.given c.in_ok-given.ensures.gathered)

pub returns-clause-quiet : goal.returns-clause-quiet
returns-clause-quiet g c =
    next_unread (λ log. g.B.Logs.quiet log c.args.logs.now c.gather_block.new.logs) c.args.fetched.now _ c.args.location c.in_ok-given.given c.in_ok-push.ensures.items c.in_ok-given.ensures.quiet
