use Rattle.std.proofs.Common.{subst}
use Rattle.up_mem_tree.specs.Kept.{IsStepFor}
use Rattle.up_mem_tree.proofs.Within.{own_in_range, parent_within}
use Rattle.up_mem_tree.proofs.kept.Kept.make_room.Goals as goal

pub reserve_step-requires-clause-above : goal.reserve_step-requires-clause-above
reserve_step-requires-clause-above c =
    let of = c.requires.of in
    parent_within c.args.self.now c.requires.stands of.0 c.in-Some.step (subst (IsStepFor c.args.self.now of.0) c.in-Some.is of.1)

pub reserve_step-requires-clause-range : goal.reserve_step-requires-clause-range
reserve_step-requires-clause-range c =
    let of = c.requires.of in
    own_in_range c.args.self.now c.requires.stands of.0 c.in-Some.step (subst (IsStepFor c.args.self.now of.0) c.in-Some.is of.1)
