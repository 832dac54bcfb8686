use Rattle.std.proofs.Common.{[], sym, ◌∙◌}
use Rattle.up_storm.proofs.Ending.{comes_back, ended_ok, few_ok, few_requests}
use Rattle.up_storm.proofs.storm.end_all.Goals as goal

pub returns-clause-ended : goal.returns-clause-ended
returns-clause-ended g c =
    let ended = c.run_all.new.workers in
    let came = comes_back c.in_ok-workers.workers.len ended c.in_ok-workers.workers.items (sym (c.run_all.ensures.number ∙ c.as_mut_slice.ensures.len)) in
    ended_ok _ c.args.shared.now c.args.plan c.join_all.result (λ said. said.items) [] c.args.seats.now c.begun.new.seats c.join_all.new.seats c.in_ok-workers.workers.items c.as_mut_slice.result.now ended _ c.deref.result.now
    c.in_ok-workers.ensures.begun c.in_ok-workers.ensures.number c.as_mut_slice.ensures.value c.run_all.ensures.number came c.deref.ensures.value c.if-any_failed.ensures c.run_all.ensures.ran c.join_all.ensures.joined c.join_all.ensures.said

pub returns-clause-few : goal.returns-clause-few
returns-clause-few g c =
    let ended = c.run_all.new.workers in
    let came = comes_back c.in_ok-workers.workers.len ended c.in_ok-workers.workers.items (sym (c.run_all.ensures.number ∙ c.as_mut_slice.ensures.len)) in
    few_ok c.join_all.result (λ said. said.items) c.args.plan.requests _ ended _ (few_requests c.args.plan c.requires.plan) (sym c.run_all.ensures.number) c.run_all.ensures.few came c.join_all.ensures.said
