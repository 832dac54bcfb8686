-- Those of the first blocks that were not noted.
use Rattle.std.proofs.Common.{◌≡◌, take}
use Rattle.std.specs.List.{filter}
use Rattle.up_audit.proofs.audit.loose_blocks.Given as goal
use Rattle.up_audit.specs.Audits.{held_in}
use Rattle.up_audit.specs.Marks.{is_loose}

abbrev pub invariant-loop-i : goal.invariant-loop-i
invariant-loop-i g l = l.loose ≡ filter (is_loose l.used.noted.entries) (take l.i (held_in l.blocks.log))
