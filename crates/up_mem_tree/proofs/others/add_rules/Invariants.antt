use Rattle.std.proofs.Common.{take}
use Rattle.up_policy.specs.Reached.{groups_named}
use Rattle.up_mem_tree.specs.Others.{Grows, HasOthers, named_by}
use Rattle.up_mem_tree.proofs.others.add_rules.Given as goal

-- the groups that the first rules name were added
abbrev pub invariant-loop-rule : goal.invariant-loop-rule
invariant-loop-rule l = Grows l.fn.others l.others × HasOthers l.owner (named_by l.others l.position) (groups_named (take l.rule-index l.rules))
