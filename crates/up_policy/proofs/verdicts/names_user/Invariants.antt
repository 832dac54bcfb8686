use Rattle.std.proofs.Common.{◌≡◌, drop}
use Rattle.std.specs.List.{list_any}
use Rattle.up_policy.specs.Members.{is_user}
use Rattle.up_policy.specs.Verdicts.{items_for}
use Rattle.up_policy.proofs.verdicts.names_user.Given as goal

-- no rule so far has such an item
abbrev pub invariant-loop-rule : goal.invariant-loop-rule
invariant-loop-rule l = list_any (is_user l.user) (items_for l.right l.rules) ≡ list_any (is_user l.user) (items_for l.right (drop l.rule-index l.rules))
