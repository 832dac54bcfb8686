use Rattle.std.proofs.Common.{◌≡◌, take}
use Rattle.up_log_tree.specs.Trees.{tree_of}
use Rattle.up_share.specs.Known.{paths_in}
use Rattle.up_share.proofs.report.add_paths.Given as goal

-- the paths of the tree of the records so far
abbrev pub invariant-loop-n : goal.invariant-loop-n
invariant-loop-n g l = l.paths.entries ≡ paths_in (tree_of (take l.n l.state.log))
