use Rattle.std.proofs.Common.{◌≡◌, arith, of_z, rules, to_z, w64}
use Rattle.std.proofs.lemmas.Int.{ints, to_z-of_z}
use Rattle.up_script.specs.Scripts.{CallCame, result_of_get, result_of_put}
use Rattle.up_script.proofs.TurnLemmas.{get_came, put_came, weaker}
use Rattle.up_script.proofs.turns.call_at.Goals as goal

pub returns-in-Put : goal.returns-in-Put
returns-in-Put g c =
    let seconds : to_z w64 (of_z w64 c.in-Put.time) ≡ c.in-Put.time = first_of (search rules, omega (arith, ints), grind (arith, to_z-of_z)) in
    let wanted : to_z w64 (of_z w64 c.in-Put.sequence) ≡ c.in-Put.sequence = first_of (search rules, omega (arith, ints), grind (arith, to_z-of_z)) in
    weaker (λ came. came ≡ result_of_put c.args.number c.put-outcome.result) (λ came. CallCame g.D.Disk g.P.Loader g.C.Clock c.args.number c.args.call.now c.args.sessions.now c.args.peers.now c.args.clock.now came c.put-outcome.new.self c.put-outcome.new.peers c.now-now.new.self)
    c.args.out.now.items c.say_put_result.new.out.items c.say_put_result.result
    (λ came said. put_came g.D.Disk g.P.Loader g.C.Clock c.args.number c.args.sessions.now c.put-outcome.new.self c.args.peers.now c.put-outcome.new.peers c.args.clock.now c.now-now.new.self c.args.call.now c.args.path.now c.now-now.result _ _ c.as_slice-bytes.result.now c.in-Put.time c.in-Put.sequence (to_z w64 (of_z w64 c.in-Put.time)) (to_z w64 (of_z w64 c.in-Put.sequence)) c.put-outcome.result came
    c.requires.session c.requires.path c.now-now.ensures.gives c.in-Put.is seconds wanted c.as_slice-bytes.ensures c.put-outcome.ensures said) c.say_put_result.ensures

pub returns-in-Get : goal.returns-in-Get
returns-in-Get g c =
    weaker (λ came. came ≡ result_of_get c.args.number c.get-outcome.result) (λ came. CallCame g.D.Disk g.P.Loader g.C.Clock c.args.number c.args.call.now c.args.sessions.now c.args.peers.now c.args.clock.now came c.get-outcome.new.self c.get-outcome.new.peers c.now-now.new.self)
    c.args.out.now.items c.say_get_result.new.out.items c.say_get_result.result
    (λ came said. get_came g.D.Disk g.P.Loader g.C.Clock c.args.number c.args.sessions.now c.get-outcome.new.self c.args.peers.now c.get-outcome.new.peers c.args.clock.now c.now-now.new.self c.args.call.now c.args.path.now c.now-now.result _ c.get-outcome.result came
    c.requires.session c.requires.path c.now-now.ensures.gives c.in-Get.is c.get-outcome.ensures said) c.say_get_result.ensures
