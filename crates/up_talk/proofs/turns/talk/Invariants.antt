use Rattle.std.proofs.Common.{◌≤◌, ◌+◌, ◌*◌, length}
use Rattle.up_talk.specs.Turns.{Waiting, around, ends, parties, standing_at, world}
use Rattle.up_talk.proofs.turns.talk.Given as goal

-- all is written, and each turn read a byte at least, and no more than one read gives
abbrev pub invariant-loop-turn : goal.invariant-loop-turn
invariant-loop-turn g l = record {
  waiting : Waiting (parties g.A.Answers g.A.Answer.Fields g.V.Verifier g.C.Clock g.N.Nonces)
      (world (around l.fn.answerer l.fn.verifier l.fn.clock l.fn.nonces) (ends g.S.Source g.K.Sink l.fn.source l.fn.sink))
      (world (around l.answerer l.verifier l.clock l.nonces) (ends g.S.Source g.K.Sink l.source l.sink)) (standing_at l.stage) l.incoming l.out;
  some : l._turn ≤ l.incoming.handled + length l.incoming.bytes;
  few : l.incoming.handled + length l.incoming.bytes ≤ l._turn * 65536;
}
