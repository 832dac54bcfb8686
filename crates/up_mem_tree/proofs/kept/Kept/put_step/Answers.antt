use Rattle.std.proofs.Common.{Some, refl, sym, ap, subst, ◌∙◌}
use Rattle.up_entry.specs.declared.records.Rec.TheVariants.{Put}
use Rattle.up_mem_tree.specs.Kept.{paths_of, slots_of}
use Rattle.up_log_tree.specs.Orders.{with_path}
use Rattle.up_mem_tree.specs.Slots.{known_all}
use Rattle.up_mem_tree.specs.Steps.{IsOwnOf, access_change, group_change, own_id}
use Rattle.up_log_tree.specs.declared.node.Node.{Node}
use Rattle.up_mem_tree.proofs.Aboves.{above_in, put_has_above}
use Rattle.up_log_tree.proofs.Paths.{parent_passes}
use Rattle.up_mem_tree.proofs.RecordChanges.{children_with, put_stands}
use Rattle.up_mem_tree.proofs.kept.Kept.put_step.Goals as goal

pub put_above-requires-clause-above : goal.put_above-requires-clause-above
put_above-requires-clause-above c = put_has_above c.args.self.now.owner c.args.self.now.log.items c.args.entry.now.name c.requires.fits.place

pub returns-clause-step : goal.returns-clause-step
returns-clause-step c =
    let self = c.args.self.now in
    let entry = c.args.entry.now in
    let text = c.args.text.now in
    let node : Node = record { entry = entry; text = text } in
    let id_same = c.own_id-id.ensures ∙ ap (λ slots. own_id (known_all slots) c.in_ok-own.own) c.as_slice.ensures.value in
    record {
      position = c.requires.fits.sequence;
      group = c.in_ok-access.ensures.group ∙ ap (group_change self.owner entry.name (Some node)) c.requires.fits.sequence;
      own = subst (λ parent. IsOwnOf (paths_of self) (slots_of self) entry.name parent c.in_ok-own.own) (sym c.put_above.ensures.id) (c.in_ok-own.ensures.own (paths_of self) (slots_of self) c.ids_of-found.ensures.own);
      above = above_in self (Put entry text) entry.name (Some node) c.own_id-id.result (own_id (slots_of self) c.in_ok-own.own) id_same (with_path entry.name) c.in_ok-access.access
          (c.in_ok-access.ensures.access ∙ ap (access_change self.owner entry.name (Some node)) c.requires.fits.sequence)
          (λ dir up. sym (children_with self.owner self.log.items (Put entry text) entry.name (Some node) refl (put_stands entry text) dir (parent_passes dir entry.name up) refl))
          c.put_above.result c.put_above.ensures.step;
    }
