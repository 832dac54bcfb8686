use Rattle.std.proofs.Common.{◌-◌, length}
use Rattle.up_frame.specs.Cutting.{Cuts}
use Rattle.up_frame.proofs.cutting.frames_in.Given as goal

abbrev pub invariant-loop-length : goal.invariant-loop-length
invariant-loop-length l = Cuts l.limit l.bytes l.payloads.items l.len

abbrev pub decreases-loop-length : goal.decreases-loop-length
decreases-loop-length l = length l.bytes - l.len
