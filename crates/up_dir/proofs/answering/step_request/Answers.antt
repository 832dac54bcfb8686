use Rattle.std.proofs.Common.{rules, ◌≡◌, Ok, Err}
use Rattle.up_entry.specs.declared.fault.EntryFault.TheVariants as fault
use Rattle.up_list.specs.Asking.{asked_of}
use Rattle.up_dir.proofs.AskLemmas.{steps_asked, steps_malformed}
use Rattle.up_dir.proofs.answering.step_request.Goals as goal

pub returns-in-Ok-clause-steps : goal.returns-in-Ok-clause-steps
returns-in-Ok-clause-steps g c =
    let is : asked_of c.args.user.now c.args.request.now ≡ Ok c.in-Ok.asked = search rules in
    steps_asked g.D.Disk c.args.state.now c.step_asked-reply.new.state c.step_asked-reply.result c.args.loaded.now c.args.fetched.now c.args.user.now c.args.now c.args.request.now c.in-Ok.asked is c.step_asked-reply.ensures.steps

pub returns-in-Err-Invalid-clause-steps : goal.returns-in-Err-Invalid-clause-steps
returns-in-Err-Invalid-clause-steps g c =
    let is : asked_of c.args.user.now c.args.request.now ≡ Err (fault.Invalid c.in-Err-Invalid.what) = search rules in
    steps_malformed g.D.Disk c.args.state.now _ c.args.loaded.now c.args.fetched.now c.args.user.now c.args.now c.args.request.now c.in-Err-Invalid.what is (search rules)
