use Rattle.std.proofs.Common.{length, map, ap, arith}
use Rattle.up_storm.proofs.Beginning.{joining_next, more_sit, said_next}
use Rattle.up_storm.specs.Sessions.{said_of}
use Rattle.up_storm.proofs.sessions.join_all.Goals as goal

pub loop-worker-preserved : goal.loop-worker-preserved
loop-worker-preserved g c =
    let before = c.loop-worker.invariant in
    let room = before.room in
    let shorter = ap length c.in-Some.ensures.items in
    let longer = c.push_reserved.ensures.len in
    let same = c.push_reserved.ensures.capacity in
    record {
      joining = joining_next c.args.seats.now c.args.workers.items c.loop-worker.seats c.end-other.result.0 c.join.new.seats c.loop-worker.left.items c.pop_front.new.self.items c.in-Some.worker before.joining c.in-Some.ensures.items c.end-other.ensures.seats c.join.ensures.joined c.join.ensures.alike c.join.ensures.shares;
      said = said_next c.loop-worker.said.items c.push_reserved.new.self.items (map (λ worker. said_of worker) c.args.workers.items) c.end-other.result.1 c.loop-worker.left.items c.pop_front.new.self.items c.in-Some.worker before.said c.in-Some.ensures.items c.end-other.ensures.said c.push_reserved.ensures.items;
      room = omega (arith, room, shorter, longer, same);
      sits = c.join.ensures.sits;
      each = more_sit c.args.shared.now c.loop-worker.left.items c.pop_front.new.self.items c.in-Some.worker before.each c.in-Some.ensures.items;
    }
