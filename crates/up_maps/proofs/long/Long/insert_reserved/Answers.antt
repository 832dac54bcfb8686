use Rattle.std.proofs.Common.{[], length, get_or, ap, arith}
use Rattle.std.proofs.lemmas.Grind.{common_steps}
use Rattle.std.proofs.lemmas.List.{get_or_read, length-take, length-drop}
use Rattle.up_maps.proofs.long.Long.insert_reserved.Goals as goal

pub put-requires-then-j-le-HALF-clause-place : goal.put-requires-then-j-le-HALF-clause-place
put-requires-then-j-le-HALF-clause-place g c =
    let read = ap length (get_or_read c.self.inside.pieces.items c.locate-p.result.0 c.index.result.now c.locate-p.ensures.piece c.index.ensures []) in
    omega (arith, read, ap length c.split.ensures.front, length-take 256 (get_or c.self.inside.pieces.items c.locate-p.result.0 []))

pub put-requires-then-j-le-HALF-clause-room : goal.put-requires-then-j-le-HALF-clause-room
put-requires-then-j-le-HALF-clause-room g c =
    omega (arith, ap length c.split.ensures.front, length-take 256 (get_or c.self.inside.pieces.items c.locate-p.result.0 []))

pub put-requires-else-j-le-HALF-clause-place : goal.put-requires-else-j-le-HALF-clause-place
put-requires-else-j-le-HALF-clause-place g c =
    let read = ap length (get_or_read c.self.inside.pieces.items c.locate-p.result.0 c.index.result.now c.locate-p.ensures.piece c.index.ensures []) in
    omega (arith, read, c.locate-p.ensures.end, ap length c.split.ensures.back, length-drop 256 (get_or c.self.inside.pieces.items c.locate-p.result.0 []))

pub put-requires-else-j-le-HALF-clause-room : goal.put-requires-else-j-le-HALF-clause-room
put-requires-else-j-le-HALF-clause-room g c =
    omega (arith, c.split.ensures.bound, ap length c.split.ensures.back, length-drop 256 (get_or c.self.inside.pieces.items c.locate-p.result.0 []))

pub invariant_of-self : goal.invariant_of-self
invariant_of-self g c = grind (arith, common_steps)

pub returns-then-is_empty : goal.returns-then-is_empty
returns-then-is_empty g c = grind (arith, common_steps)

pub put-requires-clause-room : goal.put-requires-clause-room
put-requires-clause-room g c = grind (arith, common_steps)

pub invariant_of-self-then-len-lt-ROOM : goal.invariant_of-self-then-len-lt-ROOM
invariant_of-self-then-len-lt-ROOM g c = grind (arith, common_steps)

pub split-requires-clause-long : goal.split-requires-clause-long
split-requires-clause-long g c = grind (arith, common_steps)

pub invariant_of-self-then-j-le-HALF : goal.invariant_of-self-then-j-le-HALF
invariant_of-self-then-j-le-HALF g c = grind (arith, common_steps)

pub invariant_of-self-else-j-le-HALF : goal.invariant_of-self-else-j-le-HALF
invariant_of-self-else-j-le-HALF g c = grind (arith, common_steps)
