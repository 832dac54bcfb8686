use Rattle.std.proofs.Common.{◌≡◌, drop}
use Rattle.up_share.specs.Readers.{lacks_text}
use Rattle.up_share.proofs.LoopLemmas.{with_those}
use Rattle.up_share.proofs.search.add_unread.Given as goal

-- the groups that are left give what all give
abbrev pub invariant-loop-i : goal.invariant-loop-i
invariant-loop-i g l = with_those (lacks_text (g.F.Facts.tree l.facts) l.loaded) l.unread.entries (drop l.i l.met) ≡ with_those (lacks_text (g.F.Facts.tree l.facts) l.loaded) l.fn.unread.entries l.met
