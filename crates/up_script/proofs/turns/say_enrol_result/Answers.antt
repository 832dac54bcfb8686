use Rattle.std.proofs.Common.{◌≡◌, ◌++◌, Err, ap, ◌∙◌}
use Rattle.std.specs.Prelude.{codes}
use Rattle.up_journal.specs.declared.fault.AppendWhy.TheVariants as append
use Rattle.up_command.specs.Printed.{ended}
use Rattle.up_script.specs.Scripts.{LineDid}
use Rattle.up_script.specs.Turns.{result_of_enrol}
use Rattle.up_script.proofs.TurnLemmas.{says}
use Rattle.up_script.proofs.turns.say_enrol_result.Goals as goal

pub returns-in_ok-say-in-Ok : goal.returns-in_ok-say-in-Ok
returns-in_ok-say-in-Ok c =
    says (result_of_enrol c.args.name.now c.args.enrolled) (LineDid.Enrolled c.args.name.now) c.args.out.now.items c.say.new.out.items (ap (result_of_enrol c.args.name.now) c.in-Ok.is)
    (c.in_ok-say-in-Ok.ensures ∙ ap (λ name. c.args.out.now.items ++ ended (codes "enrolled " ++ name)) (c.as_bytes.ensures.value ∙ c.text.ensures.value))

pub returns-in_ok-say_count-in-Err-Full : goal.returns-in_ok-say_count-in-Err-Full
returns-in_ok-say_count-in-Err-Full c =
    let full : c.in-Err-Full.field-0 ≡ append.Full c.in-Err-Full.records = rw c.in-Err-Full.is at c.in-Err-Full.field-0-is in
    says (result_of_enrol c.args.name.now c.args.enrolled) (LineDid.EnrolFull c.in-Err-Full.records) c.args.out.now.items c.say_count.new.out.items (ap (result_of_enrol c.args.name.now) (c.in-Err-Full.is ∙ ap Err full)) c.in_ok-say_count-in-Err-Full.ensures
