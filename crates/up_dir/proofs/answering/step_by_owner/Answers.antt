use Rattle.std.proofs.Common.{rules, ◌≡◌, true, false, inl, refl}
use Rattle.std.specs.Str.{bytes_eq}
use Rattle.up_list.specs.Asking.{owner_asked}
use Rattle.up_wire.specs.declared.replies.Reply.TheVariants as reply
use Rattle.up_answers.specs.Answers.{log_owner}
use Rattle.up_dir.proofs.AskLemmas.{steps_elsewhere, steps_in_snapshots, steps_in_tree, steps_read}
use Rattle.up_dir.proofs.answering.step_by_owner.Goals as goal

pub returns-then-eq-clause-steps : goal.returns-then-eq-clause-steps
returns-then-eq-clause-steps g c =
    let own : bytes_eq (owner_asked c.args.asked.now) c.args.state.now.owner ≡ true = search rules in
    steps_in_tree g.D.Disk c.args.state.now c.step_in_tree.new.state c.step_in_tree.result c.args.loaded.now c.args.fetched.now c.args.user.now c.args.now c.args.asked.now own c.step_in_tree.ensures.steps

pub returns-then-in_log-clause-steps : goal.returns-then-in_log-clause-steps
returns-then-in_log-clause-steps g c =
    let other : bytes_eq (owner_asked c.args.asked.now) c.args.state.now.owner ≡ false = search rules in
    let base : bytes_eq (log_owner (owner_asked c.args.asked.now)) c.args.state.now.owner ≡ true = search rules in
    steps_in_snapshots g.D.Disk c.args.state.now c.snap_asked.new.state c.snap_asked.result c.args.loaded.now c.args.fetched.now c.args.user.now c.args.now c.args.asked.now other base c.snap_asked.ensures.steps

pub returns-clause-steps : goal.returns-clause-steps
returns-clause-steps g c =
    let other : bytes_eq (owner_asked c.args.asked.now) c.args.state.now.owner ≡ false = search rules in
    let apart : bytes_eq (log_owner (owner_asked c.args.asked.now)) c.args.state.now.owner ≡ false = search rules in
    steps_elsewhere g.D.Disk c.args.state.now c.args.state.now reply.WrongHost c.args.loaded.now c.args.fetched.now c.args.user.now c.args.now c.args.asked.now other apart
    (steps_read g.D.Disk reply.WrongHost c.args.state.now reply.WrongHost (inl refl))
