-- The UTC date and the time of day of a moment, by the calendar of `jiff`, and how they are written in a path (this project's
-- own).
use Rattle.std.specs.Prelude.{ℕ, zero, suc, pos, ◌+◌, ◌-◌, ◌/◌, ◌%◌, nat_lt, if◌then◌else◌, List, [], ◌∷◌, ◌++◌}
use Rattle.up_names.specs.Texts.{Text}
use Rattle.jiff_core.specs.Calendar.{days_in_year, days_in_month}

-- a date: the day of the month counts from 1
pub record Date : Type 0 where
  pub year : ℕ
  pub month : ℕ
  pub day : ℕ

-- The year of a day, and the day's place in it from 0, where it is that many days from 1 January of a year: one year after
-- the other is counted off, at most `years` of them.
unfoldable pub year_and_place : ℕ → ℕ → ℕ → ℕ × ℕ
year_and_place zero year days = (year, days)
year_and_place (suc years) year days =
    if nat_lt days (days_in_year (pos year)) then (year, days) else year_and_place years (suc year) (days - days_in_year (pos year))

-- The month of a day, and the day's place in it from 0, where it is that many days from the first of a month: one month after
-- the other is counted off, at most `months` of them.
unfoldable pub month_and_place : ℕ → ℕ → ℕ → ℕ → ℕ × ℕ
month_and_place zero year month days = (month, days)
month_and_place (suc months) year month days =
    if nat_lt days (days_in_month (pos year) month) then (month, days)
    else month_and_place months year (suc month) (days - days_in_month (pos year) month)

-- the date of the day that is that many days from 1 January 1970
unfoldable pub date_of : ℕ → Date
date_of days =
    let year = year_and_place days 1970 days in
    let month = month_and_place 11 year.0 1 year.1 in
    record { year = year.0; month = month.0; day = month.1 + 1 }

-- the last `width` decimal digits of a number
abbrev pub digits : ℕ → ℕ → Text
digits zero n = []
digits (suc width) n = digits width (n / 10) ++ (48 + n % 10) ∷ []

-- hour, minute and second of a moment, two digits each
abbrev pub clock_text : ℕ → Text
clock_text time = digits 2 (time % 86400 / 3600) ++ digits 2 (time % 3600 / 60) ++ digits 2 (time % 60)

-- the elements YYYY, MM, DD and hhmmss of a moment in seconds since 1970, in UTC
unfoldable pub moment_elements : ℕ → List Text
moment_elements time =
    let date = date_of (time / 86400) in
    digits 4 date.year ∷ digits 2 date.month ∷ digits 2 date.day ∷ clock_text time ∷ []
