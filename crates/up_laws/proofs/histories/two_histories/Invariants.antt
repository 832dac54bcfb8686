use Rattle.std.specs.List.{zip}
use Rattle.up_laws.specs.Histories.{IsGoing}
use Rattle.up_laws.specs.Turns.{turns_of}
use Rattle.up_laws.proofs.histories.two_histories.Given as goal

-- none so far stopped the run
abbrev pub invariant-loop-i : goal.invariant-loop-i
invariant-loop-i g l = IsGoing g.D.Disk g.E.Disk l.user (zip (turns_of l.first) (turns_of l.second)) (l.fn.a, l.fn.b) (l.a, l.b) l.replies l.i
