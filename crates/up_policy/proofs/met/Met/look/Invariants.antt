use Rattle.std.proofs.Common.{◌≡◌, drop}
use Rattle.std.specs.List.{list_any}
use Rattle.up_policy.specs.Members.{groups_in, is_user}
use Rattle.up_policy.specs.Reached.{with_paths}
use Rattle.up_policy.proofs.met.Met.look.Given as goal

-- no item so far is the user, and the groups among those that are left give what all give
abbrev pub invariant-loop-item : goal.invariant-loop-item
invariant-loop-item l = record {
  found : list_any (is_user l.user) (drop l.item-index l.items) ≡ list_any (is_user l.user) l.items;
  added : with_paths l.self (groups_in (drop l.item-index l.items)) ≡ with_paths l.fn.self (groups_in l.items);
}
