use Rattle.std.proofs.Common.{◌/◌, ◌∙◌, arith, w64}
use Rattle.std.proofs.lemmas.Int.{to_z_pos}
use Rattle.up_snap.proofs.DateLemmas.{same_date}
use Rattle.up_snap.proofs.moments.civil_date.Goals as goal

pub returns-clause-year : goal.returns-clause-year
returns-clause-year c =
    (same_date (c.args.time / 86400) c.in-Ok.date (omega arith) (c.in-Ok.ensures.value ∙ to_z_pos w64 (c.args.time / 86400) (omega arith))).0

pub returns-clause-month : goal.returns-clause-month
returns-clause-month c =
    (same_date (c.args.time / 86400) c.in-Ok.date (omega arith) (c.in-Ok.ensures.value ∙ to_z_pos w64 (c.args.time / 86400) (omega arith))).1

pub returns-clause-day : goal.returns-clause-day
returns-clause-day c =
    (same_date (c.args.time / 86400) c.in-Ok.date (omega arith) (c.in-Ok.ensures.value ∙ to_z_pos w64 (c.args.time / 86400) (omega arith))).2
