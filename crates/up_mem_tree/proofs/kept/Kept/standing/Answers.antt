use Rattle.std.proofs.Common.{◌≡◌, ◌-◌, ◌+◌, ◌<◌, Some, refl, sym, subst, ap, ◌∙◌, arith}
use Rattle.std.specs.Prelude.{option_map}
use Rattle.up_names.specs.PathNames.{cut}
use Rattle.up_log_tree.specs.Trees.{tree_of}
use Rattle.up_mem_tree.specs.Kept.{paths_of, slots_of}
use Rattle.up_mem_tree.specs.Nodes.{node_of}
use Rattle.up_mem_tree.specs.Slots.{IsDeepest}
use Rattle.up_mem_tree.proofs.Standings.{NoneAbove, from_root, node_found, none_at_all, none_deeper, none_found, none_higher}
use Rattle.up_mem_tree.proofs.Upward.{never, up_to}
use Rattle.up_mem_tree.proofs.kept.Kept.standing.Goals as goal

pub loop-up-init : goal.loop-up-init
loop-up-init c =
    let self = c.args.self.now in
    let path = c.args.path.now in
    let deep = subst (IsDeepest (paths_of self) (slots_of self) path) c.in-Some.is c.deepest.ensures in
    let some = deep.some c.in-Some.depth c.in-Some.deepest refl in
    let whole : c.in-Some.depth - 0 ≡ c.in-Some.depth = omega arith in (
      omega arith,
      some.0,
      some.1 ∙ ap (λ m. Some (cut m path)) (sym whole),
      subst (NoneAbove (tree_of self.log.items) path) (sym whole) (none_deeper self path c.in-Some.depth c.in-Some.deepest deep),
    )

pub returns-in-Some-node_in : goal.returns-in-Some-node_in
returns-in-Some-node_in c =
    let self = c.args.self.now in
    let path = c.args.path.now in
    let i = c.loop-up.invariant in
    let m = c.in-Some.depth - c.loop-up._up in
    node_found (tree_of self.log.items) path m (node_of c.in-Some-node_in.node) (omega (arith, i.0, i.1)) (c.in-Some-node_in.ensures (cut m path) i.2) i.3

pub unreachable-requires : goal.unreachable-requires
unreachable-requires c =
    let self = c.args.self.now in
    let path = c.args.path.now in
    let i = c.loop-up.invariant in
    let m = c.in-Some.depth - c.loop-up._up in
    never self c.requires path m c.loop-up.id (omega (arith, c.loop-up-test.true)) (omega (arith, i.0, i.1)) i.2 c.id_above.result (c.id_above.ensures (cut m path) i.2) c.in_default-id_above.is

pub loop-up-preserved : goal.loop-up-preserved
loop-up-preserved c =
    let self = c.args.self.now in
    let path = c.args.path.now in
    let i = c.loop-up.invariant in
    let m = c.in-Some.depth - c.loop-up._up in
    let positive : 0 < m = omega (arith, c.loop-up-test.true) in
    let less : m - 1 ≡ c.in-Some.depth - (c.loop-up._up + 1) = omega arith in
    let here = ap (option_map node_of) (sym c.in_default-node_in.is) ∙ c.node_in.ensures (cut m path) i.2 in (
      omega (arith, c.loop-up-test.true),
      i.1,
      up_to self c.requires path m c.loop-up.id positive (omega (arith, i.0, i.1)) i.2 c.id_above.result (c.id_above.ensures (cut m path) i.2) c.in-Some-id_above.above c.in-Some-id_above.is
          ∙ ap (λ k. Some (cut k path)) less,
      subst (NoneAbove (tree_of self.log.items) path) less (none_higher (tree_of self.log.items) path m positive here i.3),
    )

pub returns : goal.returns
returns c =
    let self = c.args.self.now in
    let path = c.args.path.now in
    let i = c.loop-up.invariant in
    let root : c.in-Some.depth - c.loop-up._up ≡ 0 = omega (arith, c.loop-up-test.false) in
    from_root (tree_of self.log.items) path _ (c.node_in-2.ensures (cut 0 path) (i.2 ∙ ap (λ m. Some (cut m path)) root)) (subst (NoneAbove (tree_of self.log.items) path) root i.3)

pub returns-in_default : goal.returns-in_default
returns-in_default c =
    let self = c.args.self.now in
    none_found (tree_of self.log.items) c.args.path.now (none_at_all self c.args.path.now (subst (IsDeepest (paths_of self) (slots_of self) c.args.path.now) c.in_default.is c.deepest.ensures))
