use Rattle.std.proofs.Common.{take}
use Rattle.up_mem_tree.specs.Namings.{IsFirstOf}
use Rattle.up_mem_tree.proofs.namings.first_met.Given as goal

-- of the first texts
abbrev pub invariant-loop-text : goal.invariant-loop-text
invariant-loop-text l = IsFirstOf l.kept.log.items (take l.text-index l.texts) l.path l.above l.first
