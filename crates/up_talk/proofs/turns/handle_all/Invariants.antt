use Rattle.std.proofs.Common.{◌≡◌, ◌+◌, ℕ, List, Option, length}
use Rattle.up_talk.specs.Around.{World}
use Rattle.up_talk.specs.Turns.{Talking, around, ends_at, parties, standing_at, world}
use Rattle.up_talk.proofs.turns.handle_all.Given as goal

-- the connection goes on, and all bytes are still there or handled
abbrev pub invariant-loop-len : goal.invariant-loop-len
invariant-loop-len g l = record {
  goes : (a : World g.row.A.Denot g.row.V.Denot g.row.C.Denot g.row.N.Denot) (left : Option (List ℕ)) (given faults : ℕ)
      → Talking (parties g.A.Answers g.A.Answer.Fields g.V.Verifier g.C.Clock g.N.Nonces) a (world (around l.fn.answerer l.fn.verifier l.fn.clock l.fn.nonces) (ends_at left given faults g.K.Sink l.fn.sink)) (standing_at l.fn.stage) l.fn.incoming l.fn.out
      → Talking (parties g.A.Answers g.A.Answer.Fields g.V.Verifier g.C.Clock g.N.Nonces) a (world (around l.answerer l.verifier l.clock l.nonces) (ends_at left given faults g.K.Sink l.sink)) (standing_at l.stage) l.incoming l.out;
  count : l.incoming.handled + length l.incoming.bytes ≡ l.fn.incoming.handled + length l.fn.incoming.bytes;
}

abbrev pub decreases-loop-len : goal.decreases-loop-len
decreases-loop-len g l = length l.incoming.bytes
