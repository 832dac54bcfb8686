use Rattle.std.proofs.Common.{◌≤◌, length, arith}
use Rattle.std.specs.Option.{option_copied}
use Rattle.up_audit.proofs.NoteLemmas.{loose_end, loose_step}
use Rattle.up_audit.proofs.audit.loose_blocks.Goals as goal
use Rattle.up_audit.specs.Audits.{held_in}
use Rattle.up_audit.specs.Marks.{is_loose}

pub loop-i-preserved : goal.loop-i-preserved
loop-i-preserved g c =
    loose_step (is_loose c.args.used.now.noted.entries) (held_in c.args.blocks.now.log) c.loop-i.i c.loop-i.loose c.add_loose.new.loose (option_copied c.reference.result) c.loop-i.invariant c.reference.ensures c.in_ok-add_loose.ensures

pub returns : goal.returns
returns g c =
    let past : length (held_in c.args.blocks.now.log) ≤ c.loop-i.i = omega (arith, c.loop-i-test.false, c.len-i-end.ensures) in
    loose_end (is_loose c.args.used.now.noted.entries) (held_in c.args.blocks.now.log) c.loop-i.i c.loop-i.loose past c.loop-i.invariant
