use Rattle.std.proofs.Common.{sym, ap, ◌∙◌, arith}
use Rattle.std.specs.Option.{option_copied}
use Rattle.up_share.proofs.PathLemmas.{entered_next, entered_none}
use Rattle.up_share.proofs.ToldLemmas.{record_there}
use Rattle.up_share.proofs.report.add_paths.Goals as goal

pub loop-n-init : goal.loop-n-init
loop-n-init g c = entered_none c.args.state.now.log c.args.paths.now.entries c.requires

pub unreachable-requires : goal.unreachable-requires
unreachable-requires g c = record_there c.args.state.now.log c.loop-n.n (omega (arith, c.loop-n-test.true, c.position-n-end.ensures.count)) (sym c.rec_at.ensures ∙ ap option_copied c.in_default.is)

pub loop-n-preserved : goal.loop-n-preserved
loop-n-preserved g c = entered_next c.args.state.now.log c.loop-n.n c.in-Some.rec.now c.loop-n.paths.entries c.enter.new.paths.entries c.in-Some.ensures c.loop-n.invariant c.in_ok-enter.ensures
