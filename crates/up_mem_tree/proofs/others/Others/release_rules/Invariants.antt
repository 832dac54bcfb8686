use Rattle.std.proofs.Common.{Some}
use Rattle.up_mem_tree.specs.Others.{Releases}
use Rattle.up_mem_tree.proofs.others.Others.release_rules.Given as goal

-- no more was released
abbrev pub invariant-loop-rule : goal.invariant-loop-rule
invariant-loop-rule l = Releases (Some l.gone) l.position l.fn.self l.self
