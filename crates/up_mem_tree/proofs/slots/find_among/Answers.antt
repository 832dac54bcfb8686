use Rattle.std.proofs.Common.{ap, sym, ◌∙◌}
use Rattle.std.specs.Option.{option_copied}
use Rattle.up_mem_tree.specs.Slots.{known_all}
use Rattle.up_mem_tree.proofs.Siblings.{here, not_here, nothing_here, placed}
use Rattle.up_mem_tree.proofs.slots.find_among.Goals as goal

pub returns-in_default : goal.returns-in_default
returns-in_default c dir paths siblings = record {
  place = placed (known_all c.args.slots.now) dir c.args.ids.now.items paths siblings c.args.element.now c.find-place.result c.find-place.ensures.bound c.find-place.ensures.place;
  here = nothing_here (known_all c.args.slots.now) dir c.args.ids.now.items paths siblings c.args.element.now c.find-place.result (sym c.get.ensures ∙ ap option_copied c.in_default.is);
}

pub returns-then-ends_in : goal.returns-then-ends_in
returns-then-ends_in c dir paths siblings = record {
  place = placed (known_all c.args.slots.now) dir c.args.ids.now.items paths siblings c.args.element.now c.find-place.result c.find-place.ensures.bound c.find-place.ensures.place;
  here = (
    sym c.get.ensures ∙ ap option_copied c.in-Some.is,
    here (known_all c.args.slots.now) dir c.args.ids.now.items paths siblings c.args.element.now c.find-place.result c.in-Some.id.now (sym c.get.ensures ∙ ap option_copied c.in-Some.is) (sym c.ends_in.ensures ∙ c.if-ends_in.true),
  );
}

pub returns-else-ends_in : goal.returns-else-ends_in
returns-else-ends_in c dir paths siblings = record {
  place = placed (known_all c.args.slots.now) dir c.args.ids.now.items paths siblings c.args.element.now c.find-place.result c.find-place.ensures.bound c.find-place.ensures.place;
  here = not_here (known_all c.args.slots.now) dir c.args.ids.now.items paths siblings c.args.element.now c.find-place.result c.in-Some.id.now (sym c.get.ensures ∙ ap option_copied c.in-Some.is) (sym c.ends_in.ensures ∙ c.if-ends_in.false);
}
