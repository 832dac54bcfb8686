use Rattle.std.proofs.Common.{arith}
use Rattle.std.specs.Map.{keys_of}
use Rattle.up_foreign.proofs.LeftLemmas.{covers_all}
use Rattle.up_foreign.proofs.left.Left.new.Goals as goal

pub returns-in-Ok : goal.returns-in-Ok
returns-in-Ok c = record {
  covers = λ whole. covers_all c.args.tree.now c.args.loaded.now c.args.range.path.now c.args.range.above (keys_of c.others-others.result.now.entries) c.add_all.new.groups.entries c.others-others.ensures c.in-Ok.ensures.own c.in-Ok.ensures.read;
  soon = c.soonest.ensures (λ n group there. omega arith);
}
