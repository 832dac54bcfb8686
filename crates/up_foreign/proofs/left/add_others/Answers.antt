use Rattle.std.proofs.Common.{ap, sym, ◌∙◌}
use Rattle.std.specs.Map.{keys_of}
use Rattle.std.specs.Option.{option_copied}
use Rattle.up_foreign.proofs.LeftLemmas.{left_all, left_then, met_end, met_next, none_met}
use Rattle.up_foreign.proofs.left.add_others.Goals as goal

pub loop-i-init : goal.loop-i-init
loop-i-init c = (left_all c.args.groups.now.entries, none_met c.args.tree.now c.args.loaded.now c.args.range.path.now c.args.range.above c.args.groups.now.entries)

-- one group more
pub loop-i-preserved : goal.loop-i-preserved
loop-i-preserved c = (
  left_then c.args.groups.now.entries c.loop-i.groups.entries c.add_other.new.groups.entries c.loop-i.invariant.0 c.add_other.ensures.kept,
  met_next c.args.tree.now c.args.loaded.now c.args.range.path.now c.args.range.above (keys_of c.args.others.now.entries) c.loop-i.i c.in-Some.group.now (sym (ap option_copied c.in-Some.is) ∙ c.key_at.ensures)
      c.loop-i.groups.entries c.add_other.new.groups.entries c.add_other.ensures.kept c.loop-i.invariant.1 c.in_ok-add_other.ensures.added,
)

pub returns-in_err-add_other-clause-kept : goal.returns-in_err-add_other-clause-kept
returns-in_err-add_other-clause-kept c = left_then c.args.groups.now.entries c.loop-i.groups.entries c.add_other.new.groups.entries c.loop-i.invariant.0 c.add_other.ensures.kept

-- none is left
pub returns-in_default-clause-added : goal.returns-in_default-clause-added
returns-in_default-clause-added c =
    met_end c.args.tree.now c.args.loaded.now c.args.range.path.now c.args.range.above (keys_of c.args.others.now.entries) c.loop-i.i c.loop-i.groups.entries (sym (ap option_copied c.in_default.is) ∙ c.key_at.ensures) c.loop-i.invariant.1
