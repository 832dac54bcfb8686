-- The answer of `memchr` is the first place that has the byte.
use Rattle.std.proofs.Common.{◌==◌}
use Rattle.up_text.proofs.CutLemmas.{position-from_first}
use Rattle.up_text.proofs.lines.place_of.Goals as goal

pub returns : goal.returns
returns c = position-from_first (λ b. b == c.args.wanted) c.args.bytes.now c.memchr.result c.memchr.ensures
