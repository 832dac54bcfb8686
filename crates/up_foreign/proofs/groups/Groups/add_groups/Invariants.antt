use Rattle.std.proofs.Common.{◌≡◌, drop}
use Rattle.up_policy.specs.Members.{groups_in}
use Rattle.up_policy.specs.Reached.{with_paths}
use Rattle.up_foreign.proofs.groups.Groups.add_groups.Given as goal

-- the groups among the items that are left give what all give
abbrev pub invariant-loop-item : goal.invariant-loop-item
invariant-loop-item l = with_paths l.self (groups_in (drop l.item-index l.items)) ≡ with_paths l.fn.self (groups_in l.items)
