-- A moment is read back from how it is written in a path.
use Rattle.std.proofs.Common.{◌≡◌, ℕ, zero, suc, ◌+◌, ◌*◌, ◌/◌, ◌%◌, ◌<◌, ◌≤◌, ℤ, min, to_z, true, List, [], ◌∷◌, length, take, refl, sym, ap, subst, ◌∙◌, arith, pos, None, Bool, false}
use Rattle.std.specs.Prelude.{slice_get, slice_index_or}
use Rattle.std.specs.Int.{Width}
use Rattle.std.proofs.Math.Nat.{min-eq_left}
use Rattle.jiff_core.specs.Calendar.{IsDate, days_from_civil}
use Rattle.jiff_core.specs.Date.{IsYmd, epoch_day}
use Rattle.jiff_core.specs.declared.civil.date.Date as civil
use Rattle.jiff_core.proofs.CalendarLemmas.{days_from_civil-day_count, days_in_month_bounds}
use Rattle.jiff_core.proofs.SignedLemmas.{signed_arith}
use Rattle.std.proofs.lemmas.Bool.{false≢true}
use Rattle.up_names.specs.PathNames.{PathName, is_under}
use Rattle.up_log_tree.proofs.Paths.{cut_cut}
use Rattle.up_answers.specs.Calendar.{clock_text, date_of, digits, moment_elements}
use Rattle.up_ends.specs.Moments.{IsMoment}
use Rattle.up_snap.specs.Shown.{shown_root}
use Rattle.up_snap.specs.Written.{two_at}
use Rattle.up_snap.proofs.DateLemmas.{date_counts}
use Rattle.up_snap.proofs.UnderLemmas.{above_of, below_of, moment_length}

-- nothing stands at a place, and so what is taken in its stead
pub index_none : {X : Type 0} (xs : List X) (i : ℕ) (x : X) → slice_get xs i ≡ None → x ≡ slice_index_or xs i x
index_none [] i x h = refl
index_none (y ∷ ys) zero x h = absurd (cc)
index_none (y ∷ ys) (suc i) x h = index_none ys i x h

-- the day number of a day's date is the day's
pub numbered : (days : ℕ) → days ≤ 2_932_896 → days_from_civil (pos (date_of days).year) (date_of days).month (date_of days).day ≡ pos days
numbered days few =
    let own = date_counts days few in
    let counted = days_from_civil-day_count (pos (date_of days).year) (date_of days).month (date_of days).day in
    omega (arith, signed_arith, own.counts, counted)

-- a number that is small stays itself as a signed one
pub cast_is : (w : Width) (number least most meant : ℕ) → least ≡ min number most → number ≡ meant → meant ≤ most → ((n : ℕ) → n ≤ most → to_z w n ≡ pos n) → to_z w least ≡ pos meant
cast_is w number least most meant is same low stays =
    let small : least ≡ meant = is ∙ ap (λ n. min n most) same ∙ min-eq_left low in
    stays least (omega (arith, small, low)) ∙ ap pos small

module _ (days : ℕ) (few : days ≤ 2_932_896) where
  pub own_year : (date_of days).year ≤ 9999
  own_year = (date_counts days few).last

  pub own_month : (date_of days).month ≤ 12
  own_month = (date_counts days few).civil.1.1

  pub own_day : (date_of days).day ≤ 31
  own_day = let in_month = (date_counts days few).civil.2.1 in let b = days_in_month_bounds (pos (date_of days).year) (date_of days).month in omega (arith, in_month, b.0)

  -- a date with these numbers is that of the day
  pub day_is : (date : civil.Date) (y m d : ℤ) → IsYmd y m d date → y ≡ pos (date_of days).year → m ≡ pos (date_of days).month → d ≡ pos (date_of days).day → epoch_day date ≡ pos days
  day_is date y m d is year month day =
      let month_same : date.month ≡ (date_of days).month = let e : pos date.month ≡ pos (date_of days).month = is.1 ∙ month in omega (arith, signed_arith, e) in
      let day_same : date.day ≡ (date_of days).day = let e : pos date.day ≡ pos (date_of days).day = is.2 ∙ day in omega (arith, signed_arith, e) in
      ap (λ y. days_from_civil y date.month date.day) (is.0 ∙ year)
      ∙ ap (λ m. days_from_civil (pos (date_of days).year) m date.day) month_same
      ∙ ap (λ d. days_from_civil (pos (date_of days).year) (date_of days).month d) day_same
      ∙ numbered days few

  -- and the calendar has them
  pub day_there : (y m d : ℤ) → y ≡ pos (date_of days).year → m ≡ pos (date_of days).month → d ≡ pos (date_of days).day → IsDate y m d
  day_there y m d year month day =
      subst (λ y. IsDate y m d) (sym year)
      (subst (λ m. IsDate (pos (date_of days).year) m d) (sym month)
      (subst (λ d. IsDate (pos (date_of days).year) (pos (date_of days).month) d) (sym day) own))
    where
      own : IsDate (pos (date_of days).year) (pos (date_of days).month) (pos (date_of days).day)
      own =
          let is = (date_counts days few).civil in
          (is.0, (omega (arith, signed_arith, is.1.0), omega (arith, signed_arith, is.1.1)), (omega (arith, signed_arith, is.2.0), omega (arith, signed_arith, is.2.1)))

-- numbers of two digits, and of four, are read back
two_read : (n : ℕ) → n < 100 → two_at (digits 2 n) 0 ≡ n
two_read n low = omega (arith, low)

four_read : (n : ℕ) → n ≤ 9999 → two_at (digits 4 n) 0 * 100 + two_at (digits 4 n) 2 ≡ n
four_read n low = omega (arith, low)

clock_read : (time : ℕ) → two_at (clock_text time) 0 * 3600 + two_at (clock_text time) 2 * 60 + two_at (clock_text time) 4 ≡ time % 86400
clock_read time = omega arith

-- the elements of a path under the root of a moment begin with those of the moment
first_read : (xs ys : List (List ℕ)) (i : ℕ) → take (length ys) xs ≡ ys → i < length ys → slice_index_or xs i [] ≡ slice_index_or ys i []
first_read [] [] i h low = absurd (omega (arith, low))
first_read [] (y ∷ ys) i h low = absurd (cc)
first_read (x ∷ xs) [] i h low = absurd (omega (arith, low))
first_read (x ∷ xs) (y ∷ ys) zero h low = let s : x ≡ y = cc in s
first_read (x ∷ xs) (y ∷ ys) (suc i) h low = first_read xs ys i (let s : take (length ys) xs ≡ ys = cc in s) (omega (arith, low))

module _ (path : PathName) where
  abbrev element : ℕ → List ℕ
  element i = slice_index_or path.elements i []

  -- ---- the date, of a path whose first three elements are those of the moment

  module _ (time : ℕ) (moment : IsMoment time) (front : take 3 path.elements ≡ take 3 (moment_elements time)) where
    pub days_few : time / 86400 ≤ 2_932_896
    days_few = omega (arith, moment)

    pub year_read : two_at (element 0) 0 * 100 + two_at (element 0) 2 ≡ (date_of (time / 86400)).year
    unfolding moment_elements
    year_read = ap (λ text. two_at text 0 * 100 + two_at text 2) (first_read path.elements (take 3 (moment_elements time)) 0 front (omega arith)) ∙ four_read (date_of (time / 86400)).year (own_year (time / 86400) days_few)

    pub month_read : two_at (element 1) 0 ≡ (date_of (time / 86400)).month
    unfolding moment_elements
    month_read = ap (λ text. two_at text 0) (first_read path.elements (take 3 (moment_elements time)) 1 front (omega arith)) ∙ two_read (date_of (time / 86400)).month (let h = own_month (time / 86400) days_few in omega (arith, h))

    pub day_read : two_at (element 2) 0 ≡ (date_of (time / 86400)).day
    unfolding moment_elements
    day_read = ap (λ text. two_at text 0) (first_read path.elements (take 3 (moment_elements time)) 2 front (omega arith)) ∙ two_read (date_of (time / 86400)).day (let h = own_day (time / 86400) days_few in omega (arith, h))

  module _ (snap_user : List ℕ) (time : ℕ) where
    -- so it is at or below the root, and of a path of three elements above it
    pub front_below : is_under path (shown_root snap_user time) ≡ true → take 3 path.elements ≡ take 3 (moment_elements time)
    front_below under =
        sym (ap (λ (p : PathName). p.elements) (cut_cut 3 4 path (omega arith))) ∙ ap (take 3) (below_of snap_user time path under).front

    pub front_above : length path.elements ≡ 3 → is_under (shown_root snap_user time) path ≡ true → take 3 path.elements ≡ take 3 (moment_elements time)
    front_above size above =
        let same : take 3 (moment_elements time) ≡ path.elements = ap (λ n. take n (moment_elements time)) (sym size) ∙ ap (λ (p : PathName). p.elements) (above_of snap_user time path above) in
        ap (take 3) (sym same) ∙ ap (λ (p : PathName). p.elements) (cut_cut 3 3 (shown_root snap_user time) (omega arith))

    module _ (under : is_under path (shown_root snap_user time) ≡ true) where
      pub second_read : two_at (element 3) 0 * 3600 + two_at (element 3) 2 * 60 + two_at (element 3) 4 ≡ time % 86400
      unfolding moment_elements
      second_read =
          let size = moment_length time in
          ap (λ text. two_at text 0 * 3600 + two_at text 2 * 60 + two_at text 4)
          (first_read path.elements (moment_elements time) 3 (ap (λ n. take n path.elements) size ∙ (below_of snap_user time path under).front) (omega (arith, size)))
          ∙ clock_read time

-- what holds of one holds of the other
pub not_so : (a b : Bool) → (a ≡ true → b ≡ true) → b ≡ false → a ≡ false
not_so false b from h = refl
not_so true b from h = absurd (false≢true (sym h ∙ from refl))
