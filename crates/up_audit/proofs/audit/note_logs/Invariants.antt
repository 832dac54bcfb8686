-- What the logs gone through use was noted.
use Rattle.std.proofs.Common.{map, take}
use Rattle.std.specs.List.{flat_map}
use Rattle.up_audit.proofs.audit.note_logs.Given as goal
use Rattle.up_audit.specs.Audits.{used_in}
use Rattle.up_audit.specs.Marks.{Notes}
use Rattle.up_tree.specs.States.{entries_of}

abbrev pub invariant-loop-tree : goal.invariant-loop-tree
invariant-loop-tree g l = Notes l.fn.used.noted.entries l.used.noted.entries (flat_map used_in (map entries_of (take l.tree-index l.trees)))
