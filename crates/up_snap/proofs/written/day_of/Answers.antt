use Rattle.std.proofs.Common.{◌+◌, ◌*◌, ◌/◌, ap, ◌∙◌}
use Rattle.up_snap.specs.Written.{two_at}
use Rattle.up_snap.proofs.ReadLemmas.{day_read, days_few, front_below, month_read, year_read}
use Rattle.up_snap.proofs.written.day_of.Goals as goal

pub returns-clause-dated : goal.returns-clause-dated
returns-clause-dated c time moment front =
    let path = c.args.path.now in
    c.day_number.ensures.read (time / 86400) (days_few path time moment front)
    (ap (λ n. n * 100 + c.two_at-2.result) c.two_at.ensures.value
    ∙ (ap (λ n. two_at c.element_at-year.result.now 0 * 100 + n) c.two_at-2.ensures.value
    ∙ (ap (λ text. two_at text 0 * 100 + two_at text 2) c.element_at-year.ensures ∙ year_read path time moment front)))
    (c.two_at-month.ensures.value ∙ (ap (λ text. two_at text 0) c.element_at.ensures ∙ month_read path time moment front))
    (c.two_at-day.ensures.value ∙ (ap (λ text. two_at text 0) c.element_at-2.ensures ∙ day_read path time moment front))

pub returns-clause-read : goal.returns-clause-read
returns-clause-read c snap_user time moment under =
    let path = c.args.path.now in
    let front = front_below path snap_user time under in
    c.day_number.ensures.read (time / 86400) (days_few path time moment front)
    (ap (λ n. n * 100 + c.two_at-2.result) c.two_at.ensures.value
    ∙ (ap (λ n. two_at c.element_at-year.result.now 0 * 100 + n) c.two_at-2.ensures.value
    ∙ (ap (λ text. two_at text 0 * 100 + two_at text 2) c.element_at-year.ensures ∙ year_read path time moment front)))
    (c.two_at-month.ensures.value ∙ (ap (λ text. two_at text 0) c.element_at.ensures ∙ month_read path time moment front))
    (c.two_at-day.ensures.value ∙ (ap (λ text. two_at text 0) c.element_at-2.ensures ∙ day_read path time moment front))
