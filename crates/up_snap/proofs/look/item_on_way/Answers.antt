use Rattle.std.proofs.Common.{length, ap, sym, ◌∙◌}
use Rattle.std.specs.Prelude.{option_map}
use Rattle.up_list.specs.Founds.{entry_found}
use Rattle.up_answers.specs.SnapshotTrees.{snapshots_to}
use Rattle.up_snap.proofs.LookLemmas.{way_itself}
use Rattle.up_snap.proofs.look.item_on_way.Goals as goal

pub returns-in-Some : goal.returns-in-Some
returns-in-Some c =
    let tree = c.args.tree.now in
    way_itself (snapshots_to tree.owner tree.log (length tree.log)) c.args.path.now (entry_found c.in-Some.found)
    (sym (ap (option_map entry_found) c.in-Some.is) ∙ c.in_ok-found.ensures)

pub item_above-requires-clause-none : goal.item_above-requires-clause-none
item_above-requires-clause-none c = sym c.in_ok-found.ensures ∙ ap (option_map entry_found) c.in-None.is
