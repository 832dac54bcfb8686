use Rattle.std.proofs.Common.{take, ◌++◌}
use Rattle.std.proofs.KnownBytes.{Consumes-trans}
use Rattle.up_ends.proofs.Gathering.{Gathered-none}
use Rattle.up_ends.proofs.whole.read_all.Goals as goal

pub loop-bytes-init : goal.loop-bytes-init
loop-bytes-init g c =
    let s = g.S.Source in
    let source = c.args.source.now in
    rw c.new-bytes.ensures.items (Gathered-none (s.left source) (s.given source) (s.faults source) c.args.limit)

pub returns-then-count-limit-clause-front : goal.returns-then-count-limit-clause-front
returns-then-count-limit-clause-front g c =
    record {
      front = c.loop-bytes.bytes.items ++ take c.in_ok-count.count c.read.new.buf;
      lost = Consumes-trans _ _ _ _ _ c.loop-bytes.invariant.lost c.in_ok-count.ensures.bytes.0;
    }

pub returns-in_err-extend_from_slice-clause-front : goal.returns-in_err-extend_from_slice-clause-front
returns-in_err-extend_from_slice-clause-front g c =
    record {
      front = c.loop-bytes.bytes.items ++ take c.in_ok-count.count c.read.new.buf;
      lost = Consumes-trans _ _ _ _ _ c.loop-bytes.invariant.lost c.in_ok-count.ensures.bytes.0;
    }
