use Rattle.std.proofs.Common.{◌≡◌, ◌<◌, ◌∷◌, [], length, arith, add-one, length-append, sym, ap, ◌∙◌}
use Rattle.up_host.proofs.OpeningLemmas.{turn_step}
use Rattle.up_sessions.proofs.room.turn.Goals as goal

pub loop-turn-preserved : goal.loop-turn-preserved
loop-turn-preserved g c =
    let taken : c.loop-turn.disks.disks ≡ c.in-Some.disk ∷ c.take.new.self.disks = c.in-Some.ensures.disks in
    let within : c.loop-turn._turn < length c.args.disks.now.disks = omega (arith, c.loop-turn-test.true, c.requires) in
    record {
      disks = c.put_back.ensures.disks ∙ turn_step c.args.disks.now.disks c.loop-turn.disks.disks c.take.new.self.disks c.loop-turn._turn c.in-Some.disk within c.loop-turn.invariant.disks taken;
      many = ap length c.put_back.ensures.disks ∙ length-append c.take.new.self.disks (c.in-Some.disk ∷ []) ∙ add-one (length c.take.new.self.disks) ∙ sym (ap length taken) ∙ c.loop-turn.invariant.many;
      spare = let a = c.put_back.ensures.spare in let b = c.in-Some.ensures.spare in let d = c.loop-turn.invariant.spare in omega (arith, a, b, d);
    }
