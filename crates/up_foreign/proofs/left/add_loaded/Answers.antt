use Rattle.std.proofs.Common.{ap, sym, ◌∙◌}
use Rattle.std.specs.Option.{option_copied}
use Rattle.up_foreign.proofs.LeftLemmas.{left_all, left_then, read_end, read_next, read_none}
use Rattle.up_foreign.proofs.left.add_loaded.Goals as goal

pub loop-i-init : goal.loop-i-init
loop-i-init c = (left_all c.args.groups.now.entries, read_none c.args.owner.now c.args.loaded.now c.args.groups.now.entries)

-- one text more
pub loop-i-preserved : goal.loop-i-preserved
loop-i-preserved c = (
  left_then c.args.groups.now.entries c.loop-i.groups.entries c.add_text.new.groups.entries c.loop-i.invariant.0 c.add_text.ensures.kept,
  read_next c.args.owner.now c.args.loaded.now c.loop-i.i c.in-Some.name.now (sym (ap option_copied c.in-Some.is) ∙ c.name.ensures) c.loop-i.groups.entries c.add_text.new.groups.entries c.add_text.ensures.kept
      c.loop-i.invariant.1 c.in_ok-add_text.ensures.added,
)

pub returns-in_err-add_text-clause-kept : goal.returns-in_err-add_text-clause-kept
returns-in_err-add_text-clause-kept c = left_then c.args.groups.now.entries c.loop-i.groups.entries c.add_text.new.groups.entries c.loop-i.invariant.0 c.add_text.ensures.kept

-- none is left
pub returns-in_default-clause-added : goal.returns-in_default-clause-added
returns-in_default-clause-added c = read_end c.args.owner.now c.args.loaded.now c.loop-i.i c.loop-i.groups.entries (sym (ap option_copied c.in_default.is) ∙ c.name.ensures) c.loop-i.invariant.1
