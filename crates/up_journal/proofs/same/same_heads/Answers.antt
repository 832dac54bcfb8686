use Rattle.std.proofs.Common.{sym, ◌∙◌}
use Rattle.std.proofs.lemmas.Slice.Eq.{bytes_eq-Decides}
use Rattle.up_journal.proofs.Collisions.{same_told}
use Rattle.up_journal.proofs.same.same_heads.Goals as goal

pub returns-then-len-clause-meaning : goal.returns-then-len-clause-meaning
returns-then-len-clause-meaning g c is =
    let one = c.args.one.now in
    let other = c.args.other.now in
    same_told one.log other.log one.sizes other.sizes one.head other.head c.len.ensures.sizes c.len-2.ensures.sizes c.len.ensures.head c.len-2.ensures.head
    (sym c.len.ensures.count ∙ c.if-len.true ∙ c.len-2.ensures.count)
    (sym c.head.ensures.head ∙ (bytes_eq-Decides c.head.result c.head-then-len.result).0 (sym c.eq.ensures ∙ is) ∙ c.head-then-len.ensures.head)
