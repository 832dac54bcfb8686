use Rattle.std.proofs.Common.{◌++◌, ◌-◌, length}
use Rattle.std.specs.Map.{keys_of}
use Rattle.up_policy.specs.Members.{text_of}
use Rattle.up_policy.specs.Reached.{groups_named, is_wanted, nameable}
use Rattle.up_policy.proofs.SearchLemmas.{Looked, Added}
use Rattle.up_policy.proofs.needed_groups.add_needed.Given as goal

-- the groups so far were looked at, and those to be loaded were added
abbrev pub invariant-loop-group : goal.invariant-loop-group
invariant-loop-group g l = record {
  looked : Looked (text_of (g.F.Facts.tree l.facts) l.loaded) (groups_named l.rules) l.next l.met;
  added : Added (is_wanted (g.F.Facts.tree l.facts) l.loaded) l.fn.out l.next l.met l.out;
}

abbrev pub decreases-loop-group : goal.decreases-loop-group
decreases-loop-group g l =
    length (nameable (text_of (g.F.Facts.tree l.facts) l.loaded) (g.F.Facts.group_paths l.facts ++ keys_of l.loaded) (groups_named l.rules)) - l.next
