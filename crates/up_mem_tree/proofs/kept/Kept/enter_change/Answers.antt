use Rattle.std.proofs.Common.{[], ◌∷◌, ◌++◌, refl, sym, subst, ◌∙◌}
use Rattle.up_mem_tree.specs.Kept.{IsStepFor, slots_of}
use Rattle.up_mem_tree.specs.Slots.{AreSlotsOf}
use Rattle.up_mem_tree.specs.Steps.{stepped}
use Rattle.up_mem_tree.proofs.Numbers.{numbers_as, stepped_numbers}
use Rattle.up_mem_tree.proofs.Within.{last_after, slots_after, snaps_after}
use Rattle.up_mem_tree.proofs.kept.Kept.enter_change.Goals as goal

pub returns-in-Some : goal.returns-in-Some
returns-in-Some c =
    let self = c.args.self.now in
    let rec = c.args.rec.now in
    let is = subst (IsStepFor self rec) c.in-Some.is c.requires.ready.is in
    record {
      owner = refl;
      log = refl;
      befores = refl;
      slots = subst (AreSlotsOf self.owner (self.log.items ++ rec ∷ [])) (sym c.enter_step.ensures.slots) (slots_after self c.requires.stands rec c.in-Some.step is c.requires.fits);
      snaps = snaps_after self c.requires.stands rec c.in-Some.step is c.requires.fits;
      numbers = numbers_as (slots_of self) (stepped c.in-Some.step (slots_of self)) _ (stepped_numbers c.in-Some.step (slots_of self)) c.enter_step.ensures.slots;
      last = c.enter_step.ensures.before ∙ last_after self c.requires.stands rec c.in-Some.step is c.requires.fits;
    }
