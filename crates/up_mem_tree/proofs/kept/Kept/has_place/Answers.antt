use Rattle.std.proofs.Common.{◌∙◌, ap, sym}
use Rattle.std.specs.Str.{bytes_eq}
use Rattle.std.specs.Prelude.{option_map}
use Rattle.up_mem_tree.specs.Nodes.{node_of}
use Rattle.up_log_tree.specs.Trees.{tree_of}
use Rattle.up_mem_tree.proofs.Placed.{in_directory, in_none, root_place}
use Rattle.up_mem_tree.proofs.kept.Kept.has_place.Goals as goal

pub returns-then-len-eq0 : goal.returns-then-len-eq0
returns-then-len-eq0 c =
    let self = c.args.self.now in
    c.eq.ensures ∙ ap (λ o. bytes_eq o self.owner) c.owner.ensures
    ∙ root_place self.owner (tree_of self.log.items) c.args.path.now (sym c.len.ensures ∙ c.if-len-eq0.true)

pub returns-in-Some : goal.returns-in-Some
returns-in-Some c =
    c.is_directory_node.ensures
    ∙ in_directory c.args.self.now c.requires.stands c.args.path.now c.in-Some.slot.now (option_map node_of c.node_of_slot.result) c.node_of_slot.ensures (λ none. c.if-len-eq0.false (c.len.ensures ∙ none)) (c.in-Some.ensures c.args.path.now c.requires.parent)

pub returns-in-None : goal.returns-in-None
returns-in-None c = in_none c.args.self.now c.requires.stands c.args.path.now (λ none. c.if-len-eq0.false (c.len.ensures ∙ none)) (c.in-None.ensures c.args.path.now c.requires.parent)
