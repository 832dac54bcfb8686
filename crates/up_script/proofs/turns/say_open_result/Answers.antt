use Rattle.std.proofs.Common.{◌≡◌, Ok, ap, false, true}
use Rattle.up_script.specs.Scripts.{LineDid}
use Rattle.up_script.specs.Turns.{result_of_open}
use Rattle.up_script.proofs.TurnLemmas.{says}
use Rattle.up_script.proofs.turns.say_open_result.Goals as goal

pub returns-in_ok-say_numbered-in-Ok-true : goal.returns-in_ok-say_numbered-in-Ok-true
returns-in_ok-say_numbered-in-Ok-true c =
    let is : c.args.signed ≡ Ok true = cc (c.in-Ok-true.is, c.in-Ok-true.field-0-test) in
    says (result_of_open c.args.number c.args.signed) (LineDid.SignedOn c.args.number) c.args.out.now.items c.say_numbered.new.out.items (ap (result_of_open c.args.number) is) c.in_ok-say_numbered-in-Ok-true.ensures

pub returns-in_ok-say_numbered-in-Ok-false : goal.returns-in_ok-say_numbered-in-Ok-false
returns-in_ok-say_numbered-in-Ok-false c =
    let is : c.args.signed ≡ Ok false = cc (c.in-Ok-false.is, c.in-Ok-false.field-0-test) in
    says (result_of_open c.args.number c.args.signed) (LineDid.NotSigned c.args.number) c.args.out.now.items c.say_numbered-in-Ok-false.new.out.items (ap (result_of_open c.args.number) is) c.in_ok-say_numbered-in-Ok-false.ensures
