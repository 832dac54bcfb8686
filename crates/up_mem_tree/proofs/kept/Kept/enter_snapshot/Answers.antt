use Rattle.std.proofs.Common.{◌+◌, length, refl, sym, ap, subst, ◌∙◌}
use Rattle.std.specs.FinMap.Entries as entries
use Rattle.std.specs.Ordering.{nat_cmp}
use Rattle.up_entry.specs.declared.records.Rec.TheVariants.{Snap}
use Rattle.up_mem_tree.specs.Kept.{IsEnteredBy, slots_of}
use Rattle.up_mem_tree.proofs.Numbers.{numbers_same}
use Rattle.up_mem_tree.proofs.Pushed.{snapshots_more}
use Rattle.up_mem_tree.proofs.Snapped.{snapped_slots}
use Rattle.up_mem_tree.proofs.kept.Kept.enter_snapshot.Goals as goal

pub returns : goal.returns
returns c =
    let self = c.args.self.now in
    subst (λ rec. IsEnteredBy self (record self { snaps = c.put_reserved.new.self }) rec 0) (sym c.in-Snap.is) (record {
      owner = refl;
      log = refl;
      befores = refl;
      slots = snapped_slots self.owner self.log.items c.in-Snap.time (slots_of self) (record { linked = c.requires.stands.linked; told = c.requires.stands.slots });
      snaps = c.put_reserved.ensures ∙ ap (λ n. entries.put nat_cmp c.in-Snap.time (n + 1) self.snaps.entries) (c.len.ensures ∙ self.log.ok.0)
          ∙ ap (entries.put nat_cmp c.in-Snap.time (length self.log.items + 1)) c.requires.stands.snaps ∙ sym (snapshots_more self.log.items (Snap c.in-Snap.time));
      last = refl;
      numbers = numbers_same (slots_of self);
    })
