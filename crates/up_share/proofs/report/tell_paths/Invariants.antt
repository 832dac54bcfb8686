use Rattle.up_log_tree.specs.Trees.{tree_of}
use Rattle.up_share.proofs.KnownLemmas.{ToldSoFar}
use Rattle.up_share.proofs.report.tell_paths.Given as goal

-- the paths so far were told of
abbrev pub invariant-loop-i : goal.invariant-loop-i
invariant-loop-i g l = ToldSoFar l.state.owner (tree_of l.state.log) l.fn.text.items l.i l.known l.text.items
