use Rattle.std.proofs.Common.{ap, ◌∙◌}
use Rattle.std.specs.FinMap.Entries.{find}
use Rattle.std.specs.Ordering.{nat_cmp}
use Rattle.up_mem_tree.proofs.SnapTimes.{snap_is}
use Rattle.up_mem_tree.proofs.kept.Kept.snap_at.Goals as goal

pub returns-in-Some : goal.returns-in-Some
returns-in-Some c =
    let self = c.args.self.now in
    c.in-Some.ensures ∙ ap (find nat_cmp c.args.time) c.requires.snaps ∙ snap_is c.args.time self.owner self.log.items c.requires.log.fitting

pub returns-in-None : goal.returns-in-None
returns-in-None c =
    let self = c.args.self.now in
    c.in-None.ensures ∙ ap (find nat_cmp c.args.time) c.requires.snaps ∙ snap_is c.args.time self.owner self.log.items c.requires.log.fitting
