-- The date of a day is the one that the calendar has at its number.
use Rattle.std.proofs.Common.{◌≡◌, ℕ, zero, suc, ◌+◌, ◌-◌, ◌<◌, ◌≤◌, Bool, true, false, refl, sym, ap, subst, ◌∙◌, arith, pos, inl, inr}
use Rattle.std.specs.Prelude.{nat_lt, if◌then◌else◌}
use Rattle.std.proofs.lemmas.Bool.{ltb-true, ltb-false, cases_order}
use Rattle.jiff_core.specs.Date.{epoch_day}
use Rattle.jiff_core.specs.declared.civil.date.Date as civil
use Rattle.jiff_core.proofs.DateLemmas.{epoch_day_injective}
use Rattle.jiff_core.specs.Calendar.{IsCivilDate, day_count, days_from_civil, days_in_month, days_in_year, days_of_months}
use Rattle.jiff_core.proofs.CalendarLemmas.{days_from_civil-day_count, day_count-day, day_count-end, day_count-epoch, day_count-later_year, day_count-next_month, day_count-next_year, days_in_month_bounds, days_in_year_bounds, days_of_months-zero, days_of_months_all, days_of_months_more}
use Rattle.jiff_core.proofs.SignedLemmas.{signed_arith}
use Rattle.up_answers.specs.Calendar.{Date, date_of, month_and_place, year_and_place}

-- the year and the place in it of a day that is so many days behind 1 January of a year
record IsInYear (year days : ℕ) (found : ℕ × ℕ) : Type 0 where
  counts : day_count (pos found.0) 1 1 + found.1 ≡ day_count (pos year) 1 1 + days
  within : found.1 < days_in_year (pos found.0)

in_year : (years year days : ℕ) → days ≤ years → IsInYear year days (year_and_place years year days)
unfolding year_and_place
in_year zero year days few = record { counts = refl; within = let b = days_in_year_bounds (pos year) in omega (arith, b.1, few) }
in_year (suc years) year days few = go (nat_lt days (days_in_year (pos year))) refl (λ le. in_year years (suc year) (days - days_in_year (pos year)) le)
  where
    go : (b : Bool) → nat_lt days (days_in_year (pos year)) ≡ b → (days - days_in_year (pos year) ≤ years → IsInYear (suc year) (days - days_in_year (pos year)) (year_and_place years (suc year) (days - days_in_year (pos year)))) → IsInYear year days (if b then (year, days) else year_and_place years (suc year) (days - days_in_year (pos year)))
    go true lt rest_of = record { counts = refl; within = ltb-true days (days_in_year (pos year)) lt }
    go false ge rest_of =
        let b = days_in_year_bounds (pos year) in
        let rest = rest_of (omega (arith, b.1, few)) in
        let next : day_count (pos (suc year)) 1 1 ≡ day_count (pos year) 1 1 + days_in_year (pos year) = day_count-next_year (pos year) (pos (suc year)) (omega (arith, signed_arith)) (omega (arith, signed_arith)) in
        record { counts = omega (arith, rest.counts, next, ltb-false days (days_in_year (pos year)) ge); within = rest.within }

-- the same of a month in a year
record IsInMonth (year month days : ℕ) (found : ℕ × ℕ) : Type 0 where
  counts : day_count (pos year) found.0 1 + found.1 ≡ day_count (pos year) month 1 + days
  within : found.1 < days_in_month (pos year) found.0
  low : 1 ≤ found.0
  high : found.0 ≤ 12

in_month : (year months month days : ℕ) → 1 ≤ month → month + months ≡ 12 → days_of_months (pos year) (month - 1) + days < days_in_year (pos year) → IsInMonth year month days (month_and_place months year month days)
unfolding month_and_place
in_month year zero month days low last fits =
    let all = days_of_months_all (pos year) in
    let more = days_of_months_more (pos year) 12 (omega arith) in
    let is : month ≡ 12 = omega (arith, last) in
    record {
      counts = refl;
      within = ap_lt is (let less : days_of_months (pos year) 11 + days < days_in_year (pos year) = subst (λ m. days_of_months (pos year) (m - 1) + days < days_in_year (pos year)) is fits in omega (arith, all, more, less));
      low = low;
      high = omega (arith, is);
    }
  where
    ap_lt : month ≡ 12 → days < days_in_month (pos year) 12 → days < days_in_month (pos year) month
    ap_lt is h = subst (λ m. days < days_in_month (pos year) m) (sym is) h
in_month year (suc months) month days low last fits =
    go (nat_lt days (days_in_month (pos year) month)) refl (λ l s f. in_month year months (suc month) (days - days_in_month (pos year) month) l s f)
  where
    go : (b : Bool) → nat_lt days (days_in_month (pos year) month) ≡ b →
        (1 ≤ suc month → suc month + months ≡ 12 → days_of_months (pos year) (suc month - 1) + (days - days_in_month (pos year) month) < days_in_year (pos year) → IsInMonth year (suc month) (days - days_in_month (pos year) month) (month_and_place months year (suc month) (days - days_in_month (pos year) month))) → IsInMonth year month days (if b then (month, days) else month_and_place months year (suc month) (days - days_in_month (pos year) month))
    go true lt rest_of = record { counts = refl; within = ltb-true days (days_in_month (pos year) month) lt; low = low; high = omega (arith, last) }
    go false ge rest_of =
        let le : days_in_month (pos year) month ≤ days = ltb-false days (days_in_month (pos year) month) ge in
        let more = days_of_months_more (pos year) month low in
        let rest = rest_of (omega arith) (omega (arith, last))
        (subst (λ m. days_of_months (pos year) m + (days - days_in_month (pos year) month) < days_in_year (pos year)) (let e : month ≡ suc month - 1 = omega arith in e) (omega (arith, fits, more, le))) in
        let next : day_count (pos year) (suc month) 1 ≡ day_count (pos year) month 1 + days_in_month (pos year) month =
        ap (λ m. day_count (pos year) m 1) (let e : suc month ≡ month + 1 = omega arith in e) ∙ day_count-next_month (pos year) month low in
        record { counts = omega (arith, rest.counts, next, le); within = rest.within; low = rest.low; high = rest.high }

-- the day after so many days of a month
day_in : (year month place : ℕ) → day_count (pos year) month (place + 1) ≡ day_count (pos year) month 1 + place
day_in year month place = let d = day_count-day (pos year) month (place + 1) 1 (omega arith) (omega arith) in omega (arith, d)

-- a year that begins no later than the last day is at most 9999
year_in : (year : ℕ) → day_count (pos year) 1 1 ≤ 7_304_849 → year ≤ 9999
year_in year low = elim (cases_order year 10000) [
  | inl same ↦ let e : day_count (pos year) 1 1 ≡ 7_304_850 = ap (λ y. day_count (pos y) 1 1) same ∙ day_count-end in absurd (omega (arith, e, low))
  | inr apart ↦ elim apart [
    | inl less ↦ omega (arith, less)
    | inr more ↦ let later = day_count-later_year (pos 10000) (pos year) (omega (arith, signed_arith)) (omega (arith, signed_arith, more)) in absurd (omega (arith, later, day_count-end, low))
  ]
]

-- a date is the one with its day number
pub record IsDateOf (days : ℕ) (date : Date) : Type 0 where
  pub civil : IsCivilDate (pos date.year) date.month date.day
  pub counts : day_count (pos date.year) date.month date.day ≡ days + 4_371_953
  pub last : date.year ≤ 9999
  pub short : date.day < 100

pub date_counts : (days : ℕ) → days ≤ 2_932_896 → IsDateOf days (date_of days)
unfolding date_of
date_counts days few =
    let year = year_and_place days 1970 days in
    let found = in_year days 1970 days (omega arith) in
    let none = days_of_months-zero (pos year.0) in
    let month = month_and_place 11 year.0 1 year.1 in
    let inside = in_month year.0 11 1 year.1 (omega arith) refl (omega (arith, none, found.within)) in
    let last = year_in year.0 (omega (arith, found.counts, day_count-epoch, few)) in
    record {
      civil = ((omega (arith, signed_arith), omega (arith, signed_arith, last)), (inside.low, inside.high), (omega arith, omega (arith, inside.within)));
      counts = omega (arith, day_in year.0 month.0 month.1, inside.counts, found.counts, day_count-epoch);
      last = last;
      short = let b = days_in_month_bounds (pos year.0) month.0 in omega (arith, b.0, inside.within);
    }

-- and so it is the one that the library has
the_date : (days : ℕ) → IsDateOf days (date_of days) → civil.Date
the_date days is = record {
  year = pos (date_of days).year;
  month = (date_of days).month;
  day = (date_of days).day;
  year_in = is.civil.0;
  month_in = is.civil.1;
  day_in = is.civil.2;
}

pub same_date : (days : ℕ) (date : civil.Date) → days ≤ 2_932_896 → epoch_day date ≡ pos days → (date.year ≡ pos (date_of days).year) × (date.month ≡ (date_of days).month) × (date.day ≡ (date_of days).day)
unfolding the_date
same_date days date few is =
    let own = date_counts days few in
    let counted = days_from_civil-day_count (pos (date_of days).year) (date_of days).month (date_of days).day in
    let numbered : days_from_civil (pos (date_of days).year) (date_of days).month (date_of days).day ≡ pos days = omega (arith, signed_arith, own.counts, counted) in
    epoch_day_injective date (the_date days own) (is ∙ sym numbered)
