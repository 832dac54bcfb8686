-- A byte other than `%` stands for itself.
use Rattle.std.proofs.Common.{◌∙◌, ap}
use Rattle.std.proofs.lemmas.Bool.{ne_eqb}
use Rattle.up_text.specs.Words.{decoded_bytes}
use Rattle.up_text.proofs.DecodeLemmas.{decoded-plain}
use Rattle.up_text.proofs.words.next_byte.Goals as goal

pub returns-else-first-eq37-clause-some : goal.returns-else-first-eq37-clause-some
returns-else-first-eq37-clause-some c =
    let first = c.in_ok-first.first.now in
    let plain = ne_eqb first 37 c.if-first-eq37.false in
    ap decoded_bytes c.in_ok-first.ensures.cases.0 ∙ decoded-plain first c.in_ok-first.rest.now plain
