use Rattle.std.proofs.Common.{Some}
use Rattle.up_mem_tree.specs.Others.{Releases}
use Rattle.up_mem_tree.proofs.others.Others.release_items.Given as goal

-- no more was released
abbrev pub invariant-loop-item : goal.invariant-loop-item
invariant-loop-item l = Releases (Some l.gone) l.position l.fn.self l.self
