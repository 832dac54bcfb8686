use Rattle.std.proofs.Common.{◌≡◌, ◌∙◌, ◌<◌, ◌∷◌, length, arith}
use Rattle.up_sessions.proofs.RoomLemmas.{left_after, taken_more}
use Rattle.up_sessions.proofs.room.take_first.Goals as goal

pub loop-taken-preserved : goal.loop-taken-preserved
loop-taken-preserved g c =
    let within : c.loop-taken._taken < length c.args.free.now.disks = omega (arith, c.loop-taken-test.true, c.requires) in
    let taken : c.loop-taken.free.disks ≡ c.in-Some.disk ∷ c.take.new.self.disks = c.in-Some.ensures.disks in
    record {
      given = c.in_default-push.ensures.disks ∙ taken_more c.args.free.now.disks c.loop-taken.given.disks c.loop-taken.free.disks c.take.new.self.disks c.loop-taken._taken c.in-Some.disk within c.loop-taken.invariant.given c.loop-taken.invariant.left taken;
      left = left_after c.args.free.now.disks c.loop-taken.free.disks c.take.new.self.disks c.loop-taken._taken c.in-Some.disk within c.loop-taken.invariant.left taken;
      spare = let a = c.in-Some.ensures.spare in let b = c.loop-taken.invariant.spare in omega (arith, a, b);
    }
