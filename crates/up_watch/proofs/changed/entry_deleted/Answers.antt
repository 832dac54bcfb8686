use Rattle.std.proofs.Common.{sym, ◌∙◌}
use Rattle.std.specs.Option.{option_copied}
use Rattle.up_watch.proofs.Puts.{deleted_none, deleted_some}
use Rattle.up_watch.proofs.changed.entry_deleted.Goals as goal

pub returns-in-Some : goal.returns-in-Some
returns-in-Some c =
    let tree = c.args.tree.now in
    λ path is. deleted_some tree.owner tree.log c.recall.ensures.log c.args.n path is c.in-Some.before (option_copied c.entry_put.result) (sym c.in-Some.is ∙ c.change_before.ensures) c.entry_put.ensures

pub returns-in-None : goal.returns-in-None
returns-in-None c =
    let tree = c.args.tree.now in
    λ path is. deleted_none tree.owner tree.log c.recall.ensures.log c.args.n path is (sym c.in-None.is ∙ c.change_before.ensures)
