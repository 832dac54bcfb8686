use Rattle.std.proofs.Common.{◌≡◌, drop}
use Rattle.up_policy.specs.Members.{text_of}
use Rattle.up_share.proofs.LoopLemmas.{with_members}
use Rattle.up_share.proofs.search.add_members.Given as goal

-- the groups that are left give what all give
abbrev pub invariant-loop-i : goal.invariant-loop-i
invariant-loop-i g l = with_members (text_of (g.F.Facts.tree l.facts) l.loaded) l.readers.entries (drop l.i l.met) ≡ with_members (text_of (g.F.Facts.tree l.facts) l.loaded) l.fn.readers.entries l.met
