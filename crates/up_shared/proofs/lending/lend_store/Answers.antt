use Rattle.std.proofs.Common.{refl, subst}
use Rattle.up_blocks.specs.Blocks.{limits_of, log_of}
use Rattle.up_cell.specs.Turned.{Turned}
use Rattle.up_shared.proofs.lending.lend_store.Goals as goal

pub returns : goal.returns
returns g c = record {
  count = c.seen.result;
  seat = c.lend.new.seat;
  turn = subst (λ v. Turned log_of (λ state. g.D.Disk.faults state.disk) limits_of g.J.Job.did c.args.job.now c.lend.new.job v c.lend.new.seat) c.seen.ensures.seat c.lend.ensures;
  store = refl;
  trees = refl;
  store_limits = refl;
  keys = refl;
  keys_limits = refl;
}
