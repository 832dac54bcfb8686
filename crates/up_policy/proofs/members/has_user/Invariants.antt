use Rattle.std.proofs.Common.{◌≡◌, drop}
use Rattle.std.specs.List.{list_any}
use Rattle.up_policy.specs.Members.{is_user}
use Rattle.up_policy.proofs.members.has_user.Given as goal

-- no item so far is the user
abbrev pub invariant-loop-item : goal.invariant-loop-item
invariant-loop-item l = list_any (is_user l.user) (drop l.item-index l.items) ≡ list_any (is_user l.user) l.items
