use Rattle.std.proofs.Common.{ap, is_some, ◌∙◌}
use Rattle.std.specs.FinMap.Entries.{find}
use Rattle.std.specs.Ordering.{nat_cmp}
use Rattle.up_mem_tree.proofs.SnapTimes.{is_taken}
use Rattle.up_mem_tree.proofs.kept.Kept.has_snap.Goals as goal

pub returns-in-Some : goal.returns-in-Some
returns-in-Some c = ap is_some c.in-Some.ensures ∙ ap (λ e. is_some (find nat_cmp c.args.time e)) c.requires.snaps ∙ is_taken c.args.time c.args.self.now.log.items

pub returns-in-None : goal.returns-in-None
returns-in-None c = ap is_some c.in-None.ensures ∙ ap (λ e. is_some (find nat_cmp c.args.time e)) c.requires.snaps ∙ is_taken c.args.time c.args.self.now.log.items
