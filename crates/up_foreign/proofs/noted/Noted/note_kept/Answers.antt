use Rattle.std.proofs.Common.{List, ap, arith, sym, ◌∙◌}
use Rattle.std.proofs.lemmas.List.{take_all}
use Rattle.up_entry.specs.declared.records.Rec.{Rec}
use Rattle.up_foreign.proofs.NotedLemmas.{noted_grows, noted_one}
use Rattle.up_foreign.specs.Foreign.{needed_in}
use Rattle.up_log_tree.specs.Trees.{tree_of}
use Rattle.up_policy.specs.Reached.{with_paths}
use Rattle.up_foreign.proofs.noted.Noted.note_kept.Goals as goal

-- no text governs the path
pub returns-in_default-clause-noted : goal.returns-in_default-clause-noted
returns-in_default-clause-noted c =
    noted_grows c.args.tree.now c.args.loaded.now c.args.self.now c.args.names.now (needed_in c.args.tree.now.owner c.args.loaded.now (tree_of c.args.tree.now.log, c.args.path.now)) c.note.new.names c.requires.noted c.in_ok-note.ensures.added

pub returns-clause-noted : goal.returns-clause-noted
returns-clause-noted c =
    let tree = c.args.tree.now in
    let count = c.position-records.ensures.count in
    noted_one tree c.args.loaded.now c.position-records.ensures.log.plain c.position-records.result c.args.path.now c.in-Some.dir (sym c.in-Some.is ∙ c.in_ok-dir.ensures) c.args.self.now c.add.new.self c.args.names.now c.note.new.names c.requires.noted
    (c.in_ok-note.ensures.added ∙ ap (λ (records : List Rec). with_paths c.args.names.now (needed_in tree.owner c.args.loaded.now (tree_of records, c.args.path.now))) (sym (take_all c.position-records.result tree.log (omega (arith, count)))))
    c.in_ok-add.ensures
