use Rattle.std.proofs.Common.{◌++◌, ap, ◌∙◌}
use Rattle.std.specs.Prelude.{codes}
use Rattle.up_command.specs.Printed.{ended}
use Rattle.up_script.specs.Scripts.{LineDid}
use Rattle.up_script.specs.Turns.{result_of_host}
use Rattle.up_script.proofs.TurnLemmas.{says}
use Rattle.up_script.proofs.turns.say_host_result.Goals as goal

pub returns-in_ok-say-in-Ok : goal.returns-in_ok-say-in-Ok
returns-in_ok-say-in-Ok c =
    says (result_of_host c.args.name.now c.args.opened) (LineDid.HostOpened c.args.name.now) c.args.out.now.items c.say.new.out.items (ap (result_of_host c.args.name.now) c.in-Ok.is)
    (c.in_ok-say-in-Ok.ensures ∙ ap (λ name. c.args.out.now.items ++ ended (codes "host " ++ name)) (c.as_bytes.ensures.value ∙ c.as_str.ensures))
