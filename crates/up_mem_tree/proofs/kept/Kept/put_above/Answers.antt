use Rattle.std.proofs.Common.{◌≡◌, ◌<◌, List, Some, length, arith, refl, subst}
use Rattle.std.specs.List.{filter}
use Rattle.up_names.specs.PathNames.{PathName, parent_of}
use Rattle.up_mem_tree.specs.Kept.{paths_of, slots_of}
use Rattle.up_log_tree.specs.Orders.{with_path}
use Rattle.up_mem_tree.specs.Slots.{AreSiblings, IsParentIdOf, known_all}
use Rattle.up_mem_tree.specs.Steps.{IsEditTo}
use Rattle.up_log_tree.specs.Trees.{children, is_parent, tree_of}
use Rattle.up_mem_tree.proofs.Aboves.{children_in, named_in, parent_in_range, some_above, with_filtered}
use Rattle.up_mem_tree.proofs.kept.Kept.put_above.Goals as goal

pub index-slot-requires : goal.index-slot-requires
index-slot-requires c =
    let self = c.args.self.now in
    let lt : c.in_ok-id.id < length self.slots.items = parent_in_range self c.args.path.now c.in_ok-id.id (subst (IsParentIdOf (paths_of self) (slots_of self) c.args.path.now) c.in_ok-id.was c.requires.parent) in
    omega (arith, lt, self.slots.ok.0)

pub returns-clause-step : goal.returns-clause-step
returns-clause-step c =
    let self = c.args.self.now in
    some_above self c.args.path.now c.args.own (with_path c.args.path.now) c.args.access _ c.in_ok-id.id (subst (IsParentIdOf (paths_of self) (slots_of self) c.args.path.now) c.in_ok-id.was c.requires.parent)
    (λ dir up at. record {
      at = at;
      named = subst (IsEditTo c.addition.result c.args.own c.args.path.now (filter (is_parent dir) (paths_of self))) (with_filtered dir c.args.path.now (paths_of self) up c.requires.stands.linked.rising) (subst (λ slots. (dir : PathName) (paths : List PathName) → AreSiblings (known_all slots) dir c.index-slot.result.now.named.items paths → parent_of c.args.path.now ≡ Some dir → IsEditTo c.addition.result c.args.own c.args.path.now paths (with_path c.args.path.now paths))
          c.as_slice-slots.ensures.value c.addition.ensures dir (filter (is_parent dir) (paths_of self)) (named_in self c.requires.stands dir c.in_ok-id.id c.index-slot.result.now at c.index-slot.ensures) up);
      children = subst (λ slots. (dir : PathName) (paths : List PathName) → AreSiblings (known_all slots) dir c.index-slot.result.now.children.items paths → parent_of c.args.path.now ≡ Some dir → IsEditTo c.addition-2.result c.args.own c.args.path.now paths (with_path c.args.path.now paths))
          c.as_slice-slots.ensures.value c.addition-2.ensures dir (children (tree_of self.log.items) dir) (children_in self c.requires.stands dir c.in_ok-id.id c.index-slot.result.now at c.index-slot.ensures) up;
      texts = refl;
    })
