use Rattle.std.proofs.Common.{ap, arith, Some, sym, ◌∙◌}
use Rattle.up_log_tree.proofs.Paths.{path_same}
use Rattle.up_foreign.proofs.kept.KeptSearch.is_over.Goals as goal

pub returns-then-self-records : goal.returns-then-self-records
returns-then-self-records c = λ yes. (omega (arith, c.if-self-records.true), c.in-Some.is ∙ ap Some (path_same c.in-Some.from c.args.path.now (sym c.eq.ensures ∙ yes)))
