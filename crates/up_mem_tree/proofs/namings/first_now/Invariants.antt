use Rattle.std.proofs.Common.{take}
use Rattle.std.specs.Map.{keys_of}
use Rattle.up_mem_tree.specs.Namings.{IsFirstNow}
use Rattle.up_mem_tree.proofs.namings.first_now.Given as goal

-- of the first records
abbrev pub invariant-loop-i : goal.invariant-loop-i
invariant-loop-i l = IsFirstNow l.kept.log.items (take l.i (keys_of l.records.entries)) l.path l.above l.first
