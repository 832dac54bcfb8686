use Rattle.std.proofs.Common.{Some}
use Rattle.std.specs.Result.{result_ok}
use Rattle.up_calls.proofs.GatherLemmas.{adds_if, tries_loaded}
use Rattle.up_calls.proofs.gathering.gather_new.Goals as goal

pub returns-in_err-answer-clause-tried : goal.returns-in_err-answer-clause-tried
returns-in_err-answer-clause-tried g c =
    tries_loaded g.L.Loader g.met.L.Loader.same (g.B.Logs.operator_of c.args.logs.now) (g.B.Logs.views c.args.logs.now) (g.B.Logs.views c.gather_one.new.logs) c.args.loader.now c.gather_one.new.loader c.args.name.now
    (result_ok c.gather_one.result) c.gather_one.ensures.loaded

pub returns-clause-adds : goal.returns-clause-adds
returns-clause-adds g c =
    adds_if g.L.Loader (g.B.Logs.operator_of c.args.logs.now) (g.B.Logs.views c.args.logs.now) (g.B.Logs.views c.gather_one.new.logs) c.args.loader.now c.gather_one.new.loader c.args.name.now c.in_ok-answer.answer
    c.args.loaded.now c.note.new.loaded c.note.result c.note.ensures c.in_ok-answer.ensures.loaded

pub returns-clause-tried : goal.returns-clause-tried
returns-clause-tried g c =
    tries_loaded g.L.Loader g.met.L.Loader.same (g.B.Logs.operator_of c.args.logs.now) (g.B.Logs.views c.args.logs.now) (g.B.Logs.views c.gather_one.new.logs) c.args.loader.now c.gather_one.new.loader c.args.name.now
    (Some c.in_ok-answer.answer) c.in_ok-answer.ensures.loaded
