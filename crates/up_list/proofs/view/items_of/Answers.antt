use Rattle.std.proofs.Common.{◌∷◌, [], map, sym, ap, ◌∙◌}
use Rattle.std.proofs.lemmas.List.{map-append}
use Rattle.std.specs.Option.{option_copied, option_map}
use Rattle.up_log_tree.specs.Trees.{tree_of}
use Rattle.up_mem_tree.specs.Nodes.{node_of}
use Rattle.up_list.specs.Founds.{entry_found}
use Rattle.up_list.proofs.ViewLemmas.{child_stands, items_end, items_on, rooted_log}
use Rattle.up_list.proofs.view.items_of.Goals as goal

-- there is no other child
pub returns-in_default : goal.returns-in_default
returns-in_default c =
    let tree = c.args.tree.now in
    items_end tree.owner (tree_of tree.log) (rooted_log tree.owner tree.log c.recall.ensures.log) c.args.dir.now c.loop-i.i (map entry_found c.loop-i.items.items)
    (sym c.child.ensures ∙ ap option_copied c.in_default.is) c.loop-i.invariant

-- a child stands
pub unreachable-requires : goal.unreachable-requires
unreachable-requires c =
    let tree = c.args.tree.now in
    child_stands tree.owner (tree_of tree.log) (rooted_log tree.owner tree.log c.recall.ensures.log) c.args.dir.now c.loop-i.i c.in-Some.path.now
    (sym c.child.ensures ∙ ap option_copied c.in-Some.is) (sym c.node.ensures ∙ ap (option_map node_of) c.in_default-node.is)

-- one item more
pub loop-i-preserved : goal.loop-i-preserved
loop-i-preserved c =
    let tree = c.args.tree.now in
    ap (map entry_found) c.in_ok-push.ensures.items
    ∙ (map-append entry_found c.loop-i.items.items (_ ∷ [])
    ∙ items_on tree.owner (tree_of tree.log) (rooted_log tree.owner tree.log c.recall.ensures.log) c.args.dir.now c.loop-i.i c.in-Some.path.now (node_of c.in-Some-node.node) (map entry_found c.loop-i.items.items)
    (sym c.child.ensures ∙ ap option_copied c.in-Some.is) (sym c.node.ensures ∙ ap (option_map node_of) c.in-Some-node.is) c.loop-i.invariant)
