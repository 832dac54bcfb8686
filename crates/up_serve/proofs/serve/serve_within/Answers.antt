-- Where nothing is amiss there is a host, or memory was wanting.
use Rattle.up_serve.proofs.ServeLemmas.{complete_if}
use Rattle.up_serve.proofs.serve.serve_within.Goals as goal

pub returns-clause-complete : goal.returns-clause-complete
returns-clause-complete g c = complete_if g.D.Disk c.args.limits c.args.plan c.args.disks.disks _ _ _ _ _ _ _ _ _ _ c.serve_plan.result c.serve_plan.ensures.serves c.serve_plan.ensures.causes
