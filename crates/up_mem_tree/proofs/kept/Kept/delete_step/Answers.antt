use Rattle.std.proofs.Common.{◌≡◌, ◌+◌, None, length, refl, sym, ap, subst, ◌∙◌}
use Rattle.std.proofs.lemmas.Bool.{false≢true}
use Rattle.up_entry.specs.declared.records.Rec.TheVariants.{Delete}
use Rattle.up_mem_tree.specs.Kept.{paths_of, slots_of}
use Rattle.up_mem_tree.specs.Slots.{IsIdOf}
use Rattle.up_mem_tree.specs.Steps.{access_change, group_change, without_path}
use Rattle.up_mem_tree.proofs.Aboves.{above_in, item_named, named_has_above}
use Rattle.up_mem_tree.proofs.RecordChanges.{children_without, delete_stands}
use Rattle.up_mem_tree.proofs.kept.Kept.delete_step.Goals as goal

pub unreachable-requires : goal.unreachable-requires
unreachable-requires c =
    let self = c.args.self.now in
    false≢true (sym (subst (IsIdOf (paths_of self) (slots_of self) c.args.path.now) c.in_default.is c.ids_of-found.ensures.own) ∙ item_named self.log.items c.args.path.now c.requires.there)

pub delete_above-requires-clause-above : goal.delete_above-requires-clause-above
delete_above-requires-clause-above c = named_has_above c.args.self.now c.requires.stands c.args.path.now (item_named c.args.self.now.log.items c.args.path.now c.requires.there)

pub returns-clause-step : goal.returns-clause-step
returns-clause-step c =
    let self = c.args.self.now in
    let path = c.args.path.now in
    let position : c.len.result + 1 ≡ length self.log.items + 1 = ap (λ n. n + 1) (c.len.ensures ∙ self.log.ok.0) in
    record {
      position = position;
      group = c.changes_by_delete-access.ensures.group self.owner ∙ ap (group_change self.owner path None) position;
      own = subst (IsIdOf (paths_of self) (slots_of self) path) c.in-Some.is c.ids_of-found.ensures.own;
      above = above_in self (Delete path) path None c.in-Some.own c.in-Some.own refl (without_path path) c.changes_by_delete-access.result.0
          (c.changes_by_delete-access.ensures.access self.owner ∙ ap (access_change self.owner path None) position)
          (λ dir up. sym (children_without self.owner self.log.items (Delete path) path None refl (delete_stands path) dir refl))
          c.delete_above.result c.delete_above.ensures.step;
    }
