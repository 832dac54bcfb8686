use Rattle.std.proofs.Common.{◌≡◌, length, take}
use Rattle.up_log_tree.specs.Trees.{tree_of}
use Rattle.up_storm.proofs.logs.rows_of.Given as goal

-- so many items stand after these records
abbrev pub invariant-loop-n : goal.invariant-loop-n
invariant-loop-n g l = l.rows ≡ length (tree_of (take l.n l.state.log))
