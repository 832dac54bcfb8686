-- A request that only looks is answered, and changes nothing.
use Rattle.std.proofs.Common.{[], subst}
use Rattle.up_commit.specs.Steps.{IsTold}
use Rattle.up_answers.specs.Answers.{answer}
use Rattle.up_answers.specs.Fetching.{Fetched}
use Rattle.up_follow.proofs.ReadLemmas.{read_steps}
use Rattle.up_policy.specs.Loadings.{Loading}
use Rattle.up_tree.specs.States.{log_of}
use Rattle.up_follow.proofs.follower.look.Goals as goal

pub returns-clause-answer : goal.returns-clause-answer
returns-clause-answer g c =
    let known = read_steps g.D.Disk c.new-nothing.result c.new-none.result c.args.user.now c.args.request.now 0 c.args.tree.now c.step-reply.new.state c.step-reply.result c.requires c.step-reply.ensures.steps in
    subst (λ (l : Loading). IsTold (answer (log_of c.args.tree.now) l [] c.args.user.now c.args.request.now 0) c.step-reply.result) c.new-nothing.ensures
    (subst (λ (f : Fetched). IsTold (answer (log_of c.args.tree.now) c.new-nothing.result f c.args.user.now c.args.request.now 0) c.step-reply.result) c.new-none.ensures known.1)

pub returns-clause-unchanged : goal.returns-clause-unchanged
returns-clause-unchanged g c =
    let known = read_steps g.D.Disk c.new-nothing.result c.new-none.result c.args.user.now c.args.request.now 0 c.args.tree.now c.step-reply.new.state c.step-reply.result c.requires c.step-reply.ensures.steps in known.0
