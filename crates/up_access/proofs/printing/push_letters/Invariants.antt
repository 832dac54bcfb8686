-- The letters so far are there, and what stands between them and the next.
use Rattle.std.proofs.Common.{◌≡◌, ◌++◌, take, codes, filter}
use Rattle.std.specs.List.{join_by}
use Rattle.up_rights.specs.RightSets.{has_right}
use Rattle.up_rights.specs.Words.{letter}
use Rattle.up_access.proofs.JoinLemmas.{before_next}
use Rattle.up_access.proofs.printing.push_letters.Given as goal

abbrev pub invariant-loop-right : goal.invariant-loop-right
invariant-loop-right l =
    let listed = filter (has_right l.set) (take l.right-index l.rights) in
    (l.out.items ≡ l.fn.out.items ++ join_by letter (codes ",") listed) × (l.between ≡ before_next (codes ",") listed)
