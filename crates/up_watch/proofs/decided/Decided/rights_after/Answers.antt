use Rattle.std.proofs.Common.{◌≡◌, Some, false, ap, sym, ◌∙◌}
use Rattle.up_policy.specs.Trees.{owns_snapshots}
use Rattle.up_log_tree.specs.Rights.{governing_prefix}
use Rattle.up_log_tree.specs.Trees.{tree_at}
use Rattle.up_watch.specs.Watching.{after}
use Rattle.up_watch.proofs.DecidedLemmas.{decided_already, rights_in}
use Rattle.up_watch.proofs.decided.Decided.rights_after.Goals as goal

-- it was decided already
pub returns-in-Some-still-clause-held : goal.returns-in-Some-still-clause-held
returns-in-Some-still-clause-held c =
    let plain : owns_snapshots c.args.reader.now.owner ≡ false = sym (ap owns_snapshots c.tree-tree.ensures.owner) ∙ c.recall.ensures.log.plain in
    let is : Some c.in-Some.dir ≡ governing_prefix (tree_at c.args.reader.now.log c.args.n) c.args.path.now = sym c.in-Some.is ∙ (c.in_ok-dir.ensures ∙ ap (λ l. governing_prefix (tree_at l c.args.n) c.args.path.now) c.tree-tree.ensures.log) in
    decided_already (after c.args.reader.now c.args.n) c.args.path.now c.in-Some.dir c.is_control-control.result c.in-Some-still.held plain is c.is_control-control.ensures c.in-Some-still.ensures

-- it is decided now, and kept where there is memory
pub returns-in_err-add-clause-decided : goal.returns-in_err-add-clause-decided
returns-in_err-add-clause-decided c =
    let plain : owns_snapshots c.args.reader.now.owner ≡ false = sym (ap owns_snapshots c.tree-tree.ensures.owner) ∙ c.recall.ensures.log.plain in
    let is : Some c.in-Some.dir ≡ governing_prefix (tree_at c.args.reader.now.log c.args.n) c.args.path.now = sym c.in-Some.is ∙ (c.in_ok-dir.ensures ∙ ap (λ l. governing_prefix (tree_at l c.args.n) c.args.path.now) c.tree-tree.ensures.log) in
    c.add.ensures c.args.reader.now (sym (rights_in (after c.args.reader.now c.args.n) c.args.path.now c.in-Some.dir c.is_control-control.result plain is c.is_control-control.ensures) ∙ sym c.in_ok-held.ensures) c.requires.decided

pub returns-clause-decided : goal.returns-clause-decided
returns-clause-decided c =
    let plain : owns_snapshots c.args.reader.now.owner ≡ false = sym (ap owns_snapshots c.tree-tree.ensures.owner) ∙ c.recall.ensures.log.plain in
    let is : Some c.in-Some.dir ≡ governing_prefix (tree_at c.args.reader.now.log c.args.n) c.args.path.now = sym c.in-Some.is ∙ (c.in_ok-dir.ensures ∙ ap (λ l. governing_prefix (tree_at l c.args.n) c.args.path.now) c.tree-tree.ensures.log) in
    c.add.ensures c.args.reader.now (sym (rights_in (after c.args.reader.now c.args.n) c.args.path.now c.in-Some.dir c.is_control-control.result plain is c.is_control-control.ensures) ∙ sym c.in_ok-held.ensures) c.requires.decided
