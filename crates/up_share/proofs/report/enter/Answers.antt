use Rattle.std.proofs.Common.{◌≡◌, sym, subst}
use Rattle.up_log_tree.specs.Trees.{Tree, after_record}
use Rattle.up_share.specs.Known.{paths_in}
use Rattle.up_share.proofs.PathLemmas.{entered_delete, entered_put}
use Rattle.up_share.proofs.ToldLemmas.{on_ok}
use Rattle.up_share.proofs.report.enter.Goals as goal

pub returns-in-Put : goal.returns-in-Put
returns-in-Put c =
    on_ok c.add_path.result (λ is. subst (λ r. (tree : Tree) → c.args.paths.now.entries ≡ paths_in tree → c.add_path.new.paths.entries ≡ paths_in (after_record tree r)) (sym c.in-Put.is)
    (entered_put c.in-Put.entry c.in-Put.field-1 c.args.paths.now.entries c.add_path.new.paths.entries is)) c.add_path.ensures

pub returns-in-Delete : goal.returns-in-Delete
returns-in-Delete c =
    subst (λ r. (tree : Tree) → c.args.paths.now.entries ≡ paths_in tree → c.remove-was.new.self.entries ≡ paths_in (after_record tree r)) (sym c.in-Delete.is)
    (entered_delete c.in-Delete.path c.args.paths.now.entries c.remove-was.new.self.entries c.remove-was.ensures.entries)
