use Rattle.std.proofs.Common.{◌+◌, ◌*◌, Some, ap, ◌∙◌}
use Rattle.up_snap.specs.Written.{two_at}
use Rattle.up_snap.proofs.ReadLemmas.{second_read}
use Rattle.up_snap.proofs.written.second_of.Goals as goal

pub returns-clause-read : goal.returns-clause-read
returns-clause-read c snap_user time moment under =
    ap Some
    (ap (λ n. n * 3600 + c.two_at-2.result * 60 + c.two_at-3.result) c.two_at.ensures.value
    ∙ (ap (λ n. two_at c.element_at-clock.result.now 0 * 3600 + n * 60 + c.two_at-3.result) c.two_at-2.ensures.value
    ∙ (ap (λ n. two_at c.element_at-clock.result.now 0 * 3600 + two_at c.element_at-clock.result.now 2 * 60 + n) c.two_at-3.ensures.value
    ∙ (ap (λ text. two_at text 0 * 3600 + two_at text 2 * 60 + two_at text 4) c.element_at-clock.ensures ∙ second_read c.args.path.now snap_user time under))))
