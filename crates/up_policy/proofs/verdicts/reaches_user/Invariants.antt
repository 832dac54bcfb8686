use Rattle.std.proofs.Common.{◌++◌, ◌-◌, length}
use Rattle.std.specs.Map.{keys_of}
use Rattle.up_policy.specs.Members.{groups_in, text_of}
use Rattle.up_policy.specs.Reached.{nameable}
use Rattle.up_policy.specs.Verdicts.{items_for}
use Rattle.up_policy.proofs.SearchLemmas.{Looked, Without}
use Rattle.up_policy.proofs.verdicts.reaches_user.Given as goal

-- the groups so far were looked at, and none has the user
abbrev pub invariant-loop-group : goal.invariant-loop-group
invariant-loop-group g l = record {
  looked : Looked (text_of (g.F.Facts.tree l.facts) l.loaded) (groups_in (items_for l.fn.right l.rules)) l.next l.met;
  without : Without (text_of (g.F.Facts.tree l.facts) l.loaded) l.user l.next l.met;
}

abbrev pub decreases-loop-group : goal.decreases-loop-group
decreases-loop-group g l =
    length (nameable (text_of (g.F.Facts.tree l.facts) l.loaded) (g.F.Facts.group_paths l.facts ++ keys_of l.loaded) (groups_in (items_for l.fn.right l.rules))) - l.next
