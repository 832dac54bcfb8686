use Rattle.std.proofs.Common.{length, map, ap, sym, ◌∙◌}
use Rattle.std.specs.Map.{keys_of}
use Rattle.std.specs.Option.{option_copied, option_map}
use Rattle.up_list.specs.Entries.{entry_at}
use Rattle.up_list.specs.Founds.{entry_found}
use Rattle.up_answers.specs.SnapshotTrees.{snapshots_to}
use Rattle.up_snap.proofs.ListedLemmas.{made_all, made_step}
use Rattle.up_snap.proofs.MadeLemmas.{key_first, made_listed}
use Rattle.up_snap.proofs.listing.made_under.Goals as goal

pub loop-i-init : goal.loop-i-init
loop-i-init c = ap (map entry_found) c.new-items.ensures.items

pub returns-in_default : goal.returns-in_default
returns-in_default c =
    let tree = c.args.tree.now in
    let names = c.args.names.now.entries in
    made_listed tree.owner tree.log c.recall.ensures.log c.args.dir.now names c.requires (map entry_found c.loop-i.items.items)
    (made_all (entry_at (snapshots_to tree.owner tree.log (length tree.log))) (keys_of names) c.loop-i.i (map entry_found c.loop-i.items.items)
    (sym c.key_at.ensures ∙ ap option_copied c.in_default.is) c.loop-i.invariant)

pub made_item-requires : goal.made_item-requires
made_item-requires c =
    let tree = c.args.tree.now in
    c.get.ensures
    ∙ key_first tree.owner tree.log c.recall.ensures.log c.args.dir.now c.args.names.now.entries c.requires
    c.loop-i.i c.in-Some.path.now (sym c.key_at.ensures ∙ ap option_copied c.in-Some.is)

pub loop-i-preserved : goal.loop-i-preserved
loop-i-preserved c =
    let tree = c.args.tree.now in
    made_step (entry_at (snapshots_to tree.owner tree.log (length tree.log))) (keys_of c.args.names.now.entries) c.loop-i.i c.in-Some.path.now (option_map entry_found c.in_ok-found.found) (map entry_found c.loop-i.items.items) _
    (sym c.key_at.ensures ∙ ap option_copied c.in-Some.is) c.in_ok-found.ensures c.loop-i.invariant c.in_ok-push_found.ensures
