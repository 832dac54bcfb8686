use Rattle.std.proofs.Common.{ℕ, List, ◌++◌, codes, ap, ◌∙◌}
use Rattle.up_names.specs.PathNames.{canonical}
use Rattle.up_log_tree.specs.Trees.{tree_of}
use Rattle.up_text.specs.Words.{coded}
use Rattle.up_share.proofs.KnownLemmas.{told_ungoverned}
use Rattle.up_share.proofs.ToldLemmas.{on_ok}
use Rattle.up_share.proofs.report.tell_ungoverned.Goals as goal

pub returns : goal.returns
returns g c =
    on_ok c.push_line.result (λ is. told_ungoverned c.args.state.now.owner (tree_of c.args.state.now.log) c.args.path.now c.args.known.now c.search.new.self c.args.text.now.items c.push_line.new.text.items c.in_ok-word.word
    c.recall.ensures.log.plain c.requires.none c.requires.file c.in_ok-word.ensures.searched c.in_ok-word.ensures.word (is ∙ ap (λ (w : List ℕ). c.args.text.now.items ++ (coded (canonical c.args.path.now) ++ codes " " ++ w ++ codes "\n")) c.as_slice.ensures)) c.push_line.ensures
