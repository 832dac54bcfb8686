use Rattle.std.proofs.Common.{ap, sym, ◌∙◌}
use Rattle.std.specs.Map.{keys_of}
use Rattle.std.specs.Option.{option_copied}
use Rattle.up_mem_tree.proofs.Meeting.{now_all, now_next}
use Rattle.up_mem_tree.proofs.namings.first_now.Goals as goal

pub loop-i-preserved : goal.loop-i-preserved
loop-i-preserved c =
    now_next c.args.kept.now.log.items (keys_of c.args.records.now.entries) c.loop-i.i c.in-Some.by.now c.args.path.now c.args.above c.loop-i.first c.first_of-next.result c.earlier-first.result
    (sym (ap option_copied c.in-Some.is) ∙ c.key_at.ensures) c.earlier-first.ensures.one c.earlier-first.ensures.other c.loop-i.invariant c.first_of-next.ensures

pub returns-in_default : goal.returns-in_default
returns-in_default c =
    now_all c.args.kept.now.log.items (keys_of c.args.records.now.entries) c.loop-i.i c.args.path.now c.args.above c.loop-i.first (sym (ap option_copied c.in_default.is) ∙ c.key_at.ensures) c.loop-i.invariant
