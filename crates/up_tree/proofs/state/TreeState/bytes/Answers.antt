use Rattle.std.proofs.Common.{ap, ◌∙◌}
use Rattle.up_journal.specs.Journal as journal
use Rattle.up_tree.proofs.Sizes.{log_bytes}
use Rattle.up_tree.proofs.state.TreeState.bytes.Goals as goal

pub returns : goal.returns
returns g c =
    rw (← c.self.view_is) (c.bytes.ensures ∙ ap journal.bytes_of c.self.invariant.keeps.sizes ∙ log_bytes c.self.inside.tree.log)
