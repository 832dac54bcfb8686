use Rattle.std.proofs.Common.{w8, w16, arith}
use Rattle.std.proofs.lemmas.Int.{to_z_pos}
use Rattle.std.proofs.lemmas.Bool.{false≢true}
use Rattle.up_answers.specs.Calendar.{date_of}
use Rattle.up_snap.proofs.ReadLemmas.{cast_is, day_is, day_there, own_day, own_month, own_year}
use Rattle.up_snap.proofs.written.day_number.Goals as goal

pub returns-in-Ok-clause-read : goal.returns-in-Ok-clause-read
returns-in-Ok-clause-read c days few year month day =
    c.to_days.ensures.days days
    (day_is days few c.in-Ok.date _ _ _ c.in-Ok.ensures.value
    (cast_is w16 c.args.year c.min.result 9999 (date_of days).year c.min.ensures year (own_year days few) (λ n low. to_z_pos w16 n (omega (arith, low))))
    (cast_is w8 c.args.month c.min-2.result 12 (date_of days).month c.min-2.ensures month (own_month days few) (λ n low. to_z_pos w8 n (omega (arith, low))))
    (cast_is w8 c.args.day c.min-3.result 31 (date_of days).day c.min-3.ensures day (own_day days few) (λ n low. to_z_pos w8 n (omega (arith, low)))))

pub returns-in-Err-clause-read : goal.returns-in-Err-clause-read
returns-in-Err-clause-read c days few year month day =
    absurd (false≢true (c.in-Err.ensures.succeeds.1
    (day_there days few _ _ _
    (cast_is w16 c.args.year c.min.result 9999 (date_of days).year c.min.ensures year (own_year days few) (λ n low. to_z_pos w16 n (omega (arith, low))))
    (cast_is w8 c.args.month c.min-2.result 12 (date_of days).month c.min-2.ensures month (own_month days few) (λ n low. to_z_pos w8 n (omega (arith, low))))
    (cast_is w8 c.args.day c.min-3.result 31 (date_of days).day c.min-3.ensures day (own_day days few) (λ n low. to_z_pos w8 n (omega (arith, low)))))))
