-- The disks of the opened trees and the refused one stand before the others.
use Rattle.std.proofs.Common.{arith}
use Rattle.std.proofs.lemmas.Grind.{common_steps}
use Rattle.up_reports.proofs.OpeningLemmas.{in_order}
use Rattle.up_reports.proofs.opening.give_back.Goals as goal

pub turn-requires : goal.turn-requires
turn-requires g c = grind (arith, common_steps)

pub returns-clause-disks : goal.returns-clause-disks
returns-clause-disks g c = in_order _ _ _ _ _ _ _ c.put_trees.ensures.disks c.put_back.ensures.disks c.len-left.ensures c.turn.ensures.disks
