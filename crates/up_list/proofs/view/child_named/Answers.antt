use Rattle.std.proofs.Common.{sym, ap, ◌∙◌, arith}
use Rattle.std.proofs.lemmas.Option.{slice_get_past}
use Rattle.std.specs.Option.{option_copied, option_map}
use Rattle.up_log_tree.specs.Trees.{children, tree_of}
use Rattle.up_mem_tree.specs.Nodes.{node_of}
use Rattle.up_list.specs.Seen.{has_name}
use Rattle.up_list.proofs.FewLemmas.{children_few}
use Rattle.up_list.proofs.ViewLemmas.{child_stands, named_here, named_none, named_on, rooted_log}
use Rattle.up_list.proofs.view.child_named.Goals as goal

-- there is no other child
pub returns-in_default : goal.returns-in_default
returns-in_default c =
    let tree = c.args.tree.now in
    named_none tree.owner (tree_of tree.log) (rooted_log tree.owner tree.log c.position-i-end.ensures.log) c.args.dir.now c.args.name.now c.loop-i.i
    (sym c.child.ensures ∙ ap option_copied c.in_default.is) c.loop-i.invariant

pub returns : goal.returns
returns c =
    let tree = c.args.tree.now in
    named_none tree.owner (tree_of tree.log) (rooted_log tree.owner tree.log c.position-i-end.ensures.log) c.args.dir.now c.args.name.now c.loop-i.i
    (slice_get_past (children (tree_of tree.log) c.args.dir.now) c.loop-i.i (omega (arith, children_few tree.log c.args.dir.now, c.loop-i-test.false, c.position-i-end.ensures.count))) c.loop-i.invariant

-- a child stands
pub unreachable-requires : goal.unreachable-requires
unreachable-requires c =
    let tree = c.args.tree.now in
    child_stands tree.owner (tree_of tree.log) (rooted_log tree.owner tree.log c.position-i-end.ensures.log) c.args.dir.now c.loop-i.i c.in-Some.path.now
    (sym c.child.ensures ∙ ap option_copied c.in-Some.is) (sym c.node.ensures ∙ ap (option_map node_of) c.in_default-node.is)

-- this one has the name
pub returns-then-has_name : goal.returns-then-has_name
returns-then-has_name c =
    let tree = c.args.tree.now in
    named_here tree.owner (tree_of tree.log) (rooted_log tree.owner tree.log c.position-i-end.ensures.log) c.args.dir.now c.args.name.now c.loop-i.i c.in-Some.path.now (node_of c.in-Some-node.node)
    (sym c.child.ensures ∙ ap option_copied c.in-Some.is) (sym c.node.ensures ∙ ap (option_map node_of) c.in-Some-node.is) c.loop-i.invariant
    (ap (λ n. has_name n c.args.name.now (node_of c.in-Some-node.node).entry) (sym c.len-at.ensures) ∙ (sym c.has_name.ensures ∙ c.if-has_name.true))

-- this one has another
pub loop-i-preserved : goal.loop-i-preserved
loop-i-preserved c =
    let tree = c.args.tree.now in
    named_on tree.owner (tree_of tree.log) (rooted_log tree.owner tree.log c.position-i-end.ensures.log) c.args.dir.now c.args.name.now c.loop-i.i c.in-Some.path.now (node_of c.in-Some-node.node)
    (sym c.child.ensures ∙ ap option_copied c.in-Some.is) (sym c.node.ensures ∙ ap (option_map node_of) c.in-Some-node.is) c.loop-i.invariant
    (ap (λ n. has_name n c.args.name.now (node_of c.in-Some-node.node).entry) (sym c.len-at.ensures) ∙ (sym c.has_name.ensures ∙ c.if-has_name.false))
