use Rattle.std.proofs.Common.{◌++◌, sym}
use Rattle.up_storm.proofs.Saying.{records_next}
use Rattle.up_storm.specs.Telling.{records_text}
use Rattle.up_storm.proofs.logs.say_records.Goals as goal

pub loop-n-preserved : goal.loop-n-preserved
loop-n-preserved g c =
    records_next c.args.state.now.log c.loop-n.n c.in-Some.rec.now c.loop-n.out.items c.say_record.new.out.items (c.args.out.now.items ++ records_text 0 c.args.state.now.log)
    (sym c.in-Some.ensures) c.in_ok-say_record.ensures c.loop-n.invariant
