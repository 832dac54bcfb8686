use Rattle.std.proofs.Common.{◌-◌, vec_len}
use Rattle.up_ends.proofs.Gathering.{Gathered}
use Rattle.up_ends.proofs.whole.read_all.Given as goal

abbrev pub invariant-loop-bytes : goal.invariant-loop-bytes
invariant-loop-bytes g l =
    let s = g.S.Source in
    Gathered (s.left l.fn.source) (s.left l.source) (s.given l.fn.source) (s.given l.source) (s.faults l.fn.source) (s.faults l.source) l.limit l.bytes.items

abbrev pub decreases-loop-bytes : goal.decreases-loop-bytes
decreases-loop-bytes g l = l.limit - vec_len l.bytes
