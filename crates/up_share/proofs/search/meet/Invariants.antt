use Rattle.std.proofs.Common.{◌++◌, ◌-◌, length}
use Rattle.std.specs.Map.{keys_of}
use Rattle.up_policy.specs.Members.{groups_in, text_of}
use Rattle.up_policy.specs.Reached.{nameable}
use Rattle.up_policy.specs.Verdicts.{items_for}
use Rattle.up_policy.proofs.SearchLemmas.{Looked}
use Rattle.up_rights.specs.declared.Right.TheVariants.{Read}
use Rattle.up_share.proofs.search.meet.Given as goal

-- the groups so far were looked at
abbrev pub invariant-loop-next : goal.invariant-loop-next
invariant-loop-next g l = Looked (text_of (g.F.Facts.tree l.facts) l.loaded) (groups_in (items_for Read l.rules)) l.next l.met

abbrev pub decreases-loop-next : goal.decreases-loop-next
decreases-loop-next g l =
    length (nameable (text_of (g.F.Facts.tree l.facts) l.loaded) (g.F.Facts.group_paths l.facts ++ keys_of l.loaded) (groups_in (items_for Read l.rules))) - l.next
