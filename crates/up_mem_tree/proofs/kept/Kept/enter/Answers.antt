use Rattle.std.proofs.Common.{refl}
use Rattle.up_mem_tree.proofs.Within.{entered_stands}
use Rattle.up_mem_tree.proofs.kept.Kept.enter.Goals as goal

pub returns-clause-stands : goal.returns-clause-stands
returns-clause-stands c =
    entered_stands c.args.self.now c.enter_change-before.new.self _ c.args.rec c.enter_change-before.result c.requires.stands c.requires.fits c.enter_change-before.ensures
    refl c.push_reserved-2.ensures.items c.push_reserved.ensures.items refl refl
