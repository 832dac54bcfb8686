use Rattle.std.proofs.Common.{[]}
use Rattle.up_storm.proofs.Beginning.{beginning_next, each_next, fresh_next, number_next}
use Rattle.up_storm.proofs.sessions.begun.Goals as goal

pub loop-k-preserved : goal.loop-k-preserved
loop-k-preserved g c = record {
  begun = beginning_next [] c.args.plan.seed c.args.seats.now c.args.shared.now c.loop-k.k c.loop-k.seats c.begin.new.seats c.loop-k.workers.items c.begin.new.workers.items c.loop-k.invariant.begun c.in_ok-begin.ensures.begun;
  number = number_next [] c.args.shared.now c.args.plan.seed c.loop-k.k c.loop-k.seats c.begin.new.seats c.loop-k.workers.items c.begin.new.workers.items c.in_ok-begin.ensures.begun c.loop-k.invariant.number;
  sits = c.in_ok-begin.ensures.sits;
  each = each_next [] c.args.shared.now c.args.plan.seed c.loop-k.k c.loop-k.seats c.begin.new.seats c.loop-k.workers.items c.begin.new.workers.items c.in_ok-begin.ensures.begun c.loop-k.invariant.each;
  fresh = fresh_next [] c.args.shared.now c.args.plan.seed c.loop-k.k c.loop-k.seats c.begin.new.seats c.loop-k.workers.items c.begin.new.workers.items c.in_ok-begin.ensures.begun c.loop-k.invariant.fresh;
}
