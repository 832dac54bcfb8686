use Rattle.std.proofs.Common.{sym, ◌∙◌}
use Rattle.up_log_tree.specs.Trees.{tree_at}
use Rattle.up_foreign.proofs.NotedLemmas.{noted_already}
use Rattle.up_foreign.proofs.noted.Noted.note_then.Goals as goal

-- the text was looked at
pub returns-then-has-clause-added : goal.returns-then-has-clause-added
returns-then-has-clause-added c =
    let tree = c.args.tree.now in
    noted_already tree.owner c.args.loaded.now (tree_at tree.log c.args.n) c.recall.ensures.log.plain c.args.path.now c.in-Some.dir (sym c.in-Some.is ∙ c.in_ok-dir.ensures) c.args.names.now
    (c.has.ensures c.args.loaded.now c.args.names.now c.requires.noted c.if-has.true)
