use Rattle.std.proofs.Common.{◌≡◌, drop}
use Rattle.up_policy.specs.Members.{groups_in}
use Rattle.up_policy.specs.Reached.{with_paths}
use Rattle.up_policy.specs.Verdicts.{items_for}
use Rattle.up_policy.proofs.met.Met.add_granted.Given as goal

-- the groups of the rules that are left give what those of all rules give
abbrev pub invariant-loop-rule : goal.invariant-loop-rule
invariant-loop-rule l = with_paths l.self (groups_in (items_for l.right (drop l.rule-index l.rules))) ≡ with_paths l.fn.self (groups_in (items_for l.right l.rules))
