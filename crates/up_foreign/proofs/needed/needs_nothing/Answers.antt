use Rattle.std.proofs.Common.{ap}
use Rattle.std.specs.Map.{keys_of}
use Rattle.std.proofs.lemmas.Bool.{false≢true}
use Rattle.up_foreign.proofs.ReachLemmas.{empty_of, empty_when, nothing_named}
use Rattle.up_foreign.proofs.needed.needs_nothing.Goals as goal

pub returns-then-given-eq0 : goal.returns-then-given-eq0
returns-then-given-eq0 c = λ done.
    nothing_named c.args.tree.now c.args.loaded.now (keys_of c.others.result.now.entries) c.others.ensures (ap keys_of (empty_when c.others.result.now.entries c.len.result c.len.ensures done))
    (empty_of c.args.loaded.now c.len-given.result c.len-given.ensures.len c.if-given-eq0.true)

pub returns : goal.returns
returns c = λ done. absurd (false≢true done)
