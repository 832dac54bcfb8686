use Rattle.std.proofs.Common.{◌++◌, arith, refl}
use Rattle.up_command.proofs.GatherLemmas.{still_written}
use Rattle.up_audit.proofs.TextLemmas.{line_next, line_part, lines, lines_all, lines_part}
use Rattle.up_audit.proofs.text.print_lines.Goals as goal
use Rattle.up_ends.proofs.Going.{Going-none}

pub loop-reference-init : goal.loop-reference-init
loop-reference-init g c = record { going = Going-none (g.K.Sink.held c.args.sink.now) (c.args.gathered.now.items ++ lines c.args.loose.now); later = omega arith; written = refl }

pub loop-reference-preserved : goal.loop-reference-preserved
loop-reference-preserved g c = record {
  going = line_next c.loop-reference.gathered.items c.print_one.new.gathered.items c.args.loose.now c.loop-reference.reference-index c.reference-item.result (omega arith) c.reference-item.is c.loop-reference.invariant.going c.in_ok-print_one.ensures.ok;
  later = omega (arith, c.loop-reference.invariant.later, c.print_one.ensures.later);
  written = still_written (g.K.Sink.faults c.args.sink.now) (g.K.Sink.faults c.loop-reference.sink) (g.K.Sink.faults c.print_one.new.sink) c.print_one.result c.in_ok-print_one.was c.print_one.ensures.quiet c.loop-reference.invariant.written;
}

pub returns-in_err-print_one-clause-part : goal.returns-in_err-print_one-clause-part
returns-in_err-print_one-clause-part g c =
    line_part c.loop-reference.gathered.items c.args.loose.now c.loop-reference.reference-index c.reference-item.result (omega arith) c.reference-item.is c.loop-reference.invariant.going c.print_one.ensures.part

pub returns-in_err-finish-clause-part : goal.returns-in_err-finish-clause-part
returns-in_err-finish-clause-part g c = lines_part c.loop-reference.gathered.items c.args.loose.now c.loop-reference.reference-index (omega arith) c.loop-reference.invariant.going c.finish.ensures.part

pub returns-clause-ok : goal.returns-clause-ok
returns-clause-ok g c =
    lines_all (g.K.Sink.held c.args.sink.now) (g.K.Sink.held c.loop-reference.sink) (g.K.Sink.held c.finish.new.sink) (c.args.gathered.now.items ++ lines c.args.loose.now) c.loop-reference.gathered.items c.args.loose.now c.loop-reference.reference-index (omega arith) c.loop-reference.invariant.going c.in_ok-finish.ensures.ok

pub returns-clause-part : goal.returns-clause-part
returns-clause-part g c = lines_part c.loop-reference.gathered.items c.args.loose.now c.loop-reference.reference-index (omega arith) c.loop-reference.invariant.going c.finish.ensures.part
