use Rattle.std.proofs.Common.{rules}
use Rattle.std.proofs.lemmas.Iterator.Search.{find_from_yields_List}
use Rattle.std.proofs.lemmas.Iterator.{YieldsList-from_slice}
use Rattle.up_sessions.specs.Others.{has_tree}
use Rattle.up_sessions.proofs.behind.first_in.Goals as goal

pub returns : goal.returns
returns g c = find_from_yields_List (has_tree {D = g.row.D.Denot} c.args.owner.now) _ _ _ c.find.ensures.ran (YieldsList-from_slice c.args.hosts.now c.iter.ensures.rest) (λ x b q k. search rules)
