use Rattle.std.proofs.Common.{◌∙◌, arith}
use Rattle.up_foreign.proofs.LeftLemmas.{passed_found}
use Rattle.up_foreign.proofs.left.Left.next.Goals as goal

-- nothing was gathered
pub returns-then-not-whole-clause-found : goal.returns-then-not-whole-clause-found
returns-then-not-whole-clause-found c = λ tree loaded path above may k n group low high at need. absurd (omega (arith, low, high))

pub returns-clause-found : goal.returns-clause-found
returns-clause-found c = λ tree loaded path above may k n group low high at need.
    passed_found tree loaded path above c.pass.new.self c.args.names.now (c.pass.ensures.whole ∙ c.if-not-whole.false) (c.pass.ensures.kept tree loaded path above may) n group
    (c.place_from.ensures.passed k n high low at) need
