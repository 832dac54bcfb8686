use Rattle.std.proofs.Common.{◌≡◌, ◌-◌, ◌≤◌, ◌<◌, ℕ, List, Some, get_or, length, refl, ap, subst, sym, ◌∙◌, arith}
use Rattle.up_names.specs.PathNames.{PathName, cut}
use Rattle.up_mem_tree.specs.Kept.{paths_of, slots_of}
use Rattle.up_mem_tree.specs.Slots.{AreLinked, IsDeepest, IsParentIdOf, known, known_all, path_in}
use Rattle.up_mem_tree.specs.declared.slots.Slot.{Slot}
use Rattle.up_log_tree.proofs.Paths.{some_same}
use Rattle.up_mem_tree.proofs.SlotLemmas.{known-parent, known_read, slot_within}
use Rattle.up_mem_tree.proofs.Walks.{not_deepest, of_deepest, parent_of_own, parent_unnamed, path_there}
use Rattle.up_mem_tree.proofs.kept.Kept.ids_of.Goals as goal

within : (paths : List PathName) (slots : List Slot) (path : PathName) (n id : ℕ) → IsDeepest paths (known_all slots) path (Some (n, id)) → (n ≤ length path.elements) × (id < length slots)
within paths slots path n id deep = let some = deep.some n id refl in (some.0, slot_within slots id (cut n path) some.1)

own_parent : (owner : List ℕ) (paths : List PathName) (slots : List Slot) (linked : AreLinked owner paths (known_all slots)) (path : PathName) (n id : ℕ) (slot : Slot) → IsDeepest paths (known_all slots) path (Some (n, id))
    → length path.elements - n ≡ 0 → slot ≡ get_or slots id slot → IsParentIdOf paths (known_all slots) path slot.parent
own_parent owner paths slots linked path n id slot deep whole is =
    let bounds = within paths slots path n id deep in
    let there = known_read slots id slot bounds.1 is in
    let at : path_in (known_all slots) id ≡ Some path = of_deepest owner paths (known_all slots) linked path n id deep (omega (arith, whole, bounds.0)) in
    let same : (known slot).path ≡ path = some_same (known slot).path path (sym (path_there (known_all slots) id (known slot) there) ∙ at) in
    subst (IsParentIdOf paths (known_all slots) path) (known-parent slot) (parent_of_own owner paths (known_all slots) linked path id (known slot) there same)

pub overflow_sub-below : goal.overflow_sub-below
overflow_sub-below c =
    let self = c.args.self.now in
    let bounds = within (paths_of self) self.slots.items c.args.path.now c.in-Some.n c.in-Some.id (subst (IsDeepest (paths_of self) (slots_of self) c.args.path.now) c.in-Some.is c.deepest.ensures) in
    omega (arith, bounds.0, c.len.ensures)

pub index-requires : goal.index-requires
index-requires c =
    let self = c.args.self.now in
    let bounds = within (paths_of self) self.slots.items c.args.path.now c.in-Some.n c.in-Some.id (subst (IsDeepest (paths_of self) (slots_of self) c.args.path.now) c.in-Some.is c.deepest.ensures) in
    omega (arith, bounds.1, self.slots.ok.0)

pub returns-then-below-eq0 : goal.returns-then-below-eq0
returns-then-below-eq0 c =
    let self = c.args.self.now in
    let deep = subst (IsDeepest (paths_of self) (slots_of self) c.args.path.now) c.in-Some.is c.deepest.ensures in
    let whole : length c.args.path.now.elements - c.in-Some.n ≡ 0 = ap (λ l. l - c.in-Some.n) (sym c.len.ensures) ∙ c.if-below-eq0.true in
    let bounds = within (paths_of self) self.slots.items c.args.path.now c.in-Some.n c.in-Some.id deep in
    record {
      own = of_deepest self.owner (paths_of self) (slots_of self) c.requires.linked c.args.path.now c.in-Some.n c.in-Some.id deep (omega (arith, whole, bounds.0));
      parent = own_parent self.owner (paths_of self) self.slots.items c.requires.linked c.args.path.now c.in-Some.n c.in-Some.id c.index.result.now deep whole c.index.ensures;
    }

pub returns-then-below-eq1-clause-own : goal.returns-then-below-eq1-clause-own
returns-then-below-eq1-clause-own c =
    let self = c.args.self.now in
    let deep = subst (IsDeepest (paths_of self) (slots_of self) c.args.path.now) c.in-Some.is c.deepest.ensures in
    not_deepest self.owner (paths_of self) (slots_of self) c.requires.linked c.args.path.now c.in-Some.n c.in-Some.id deep (λ same. c.if-below-eq0.false (let l = c.len.ensures in omega (arith, same, l)))

pub returns-else-below-eq1 : goal.returns-else-below-eq1
returns-else-below-eq1 c =
    let self = c.args.self.now in
    let deep = subst (IsDeepest (paths_of self) (slots_of self) c.args.path.now) c.in-Some.is c.deepest.ensures in
    record {
      own = not_deepest self.owner (paths_of self) (slots_of self) c.requires.linked c.args.path.now c.in-Some.n c.in-Some.id deep (λ same. c.if-below-eq0.false (let l = c.len.ensures in omega (arith, same, l)));
      parent = parent_unnamed self.owner (paths_of self) (slots_of self) c.requires.linked c.args.path.now c.in-Some.n c.in-Some.id deep
          (λ none. c.if-below-eq0.false (ap (λ l. l - c.in-Some.n) c.len.ensures ∙ none)) (λ one. c.if-below-eq1.false (ap (λ l. l - c.in-Some.n) c.len.ensures ∙ one));
    }
