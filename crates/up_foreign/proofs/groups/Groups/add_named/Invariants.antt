use Rattle.std.proofs.Common.{◌≡◌, drop}
use Rattle.up_policy.specs.Reached.{groups_named, with_paths}
use Rattle.up_foreign.proofs.groups.Groups.add_named.Given as goal

-- the groups of the rules that are left give what those of all rules give
abbrev pub invariant-loop-rule : goal.invariant-loop-rule
invariant-loop-rule l = with_paths l.self (groups_named (drop l.rule-index l.rules)) ≡ with_paths l.fn.self (groups_named l.rules)
