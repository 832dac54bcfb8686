-- What comes of a put or get is what is said of its conversation.
use Rattle.std.proofs.Common.{◌≡◌, arith, of_z, rules, to_z, w64}
use Rattle.std.proofs.lemmas.Int.{ints, to_z-of_z}
use Rattle.up_terminal.specs.Answers.{CallCame, result_of_get, result_of_put}
use Rattle.up_terminal.proofs.AnswerLemmas.{got_came, put_came, weaker}
use Rattle.up_terminal.proofs.answering.call_at.Goals as goal

pub returns-in-Put-clause-came : goal.returns-in-Put-clause-came
returns-in-Put-clause-came g c =
    let seconds : to_z w64 (of_z w64 c.in-Put.time) ≡ c.in-Put.time = first_of (search rules, omega (arith, ints), grind (arith, to_z-of_z)) in
    let wanted : to_z w64 (of_z w64 c.in-Put.sequence) ≡ c.in-Put.sequence = first_of (search rules, omega (arith, ints), grind (arith, to_z-of_z)) in
    weaker (λ came. came ≡ result_of_put c.put-outcome.result) (λ came. CallCame g.A.Ask.answers c.args.user.now c.args.ask.now c.args.call.now came c.put-outcome.new.ask) c.args.out.now.items c.say_put_result.new.out.items c.say_put_result.result
    (λ came told. put_came g.A.Ask.answers c.args.user.now c.args.ask.now c.put-outcome.new.ask c.args.call.now c.args.path.now _ _ c.as_slice-bytes.result.now c.in-Put.time c.in-Put.sequence (to_z w64 (of_z w64 c.in-Put.time)) (to_z w64 (of_z w64 c.in-Put.sequence)) c.put-outcome.result came
    c.requires.path c.in-Put.is seconds wanted c.as_slice-bytes.ensures c.put-outcome.ensures.talk told) c.say_put_result.ensures.said

pub returns-in-Get-clause-came : goal.returns-in-Get-clause-came
returns-in-Get-clause-came g c =
    weaker (λ came. came ≡ result_of_get c.get-outcome.result) (λ came. CallCame g.A.Ask.answers c.args.user.now c.args.ask.now c.args.call.now came c.get-outcome.new.ask) c.args.out.now.items c.say_get_result.new.out.items c.say_get_result.result
    (λ came told. got_came g.A.Ask.answers c.args.user.now c.args.ask.now c.get-outcome.new.ask c.args.call.now c.args.path.now _ c.get-outcome.result came c.requires.path c.in-Get.is c.get-outcome.ensures.talk told) c.say_get_result.ensures.said
