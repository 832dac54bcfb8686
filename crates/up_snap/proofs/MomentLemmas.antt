-- A moment is told by how it is written in a path.
use Rattle.std.proofs.Common.{◌≡◌, ℕ, ◌+◌, ◌/◌, ◌%◌, ◌<◌, ◌≤◌, List, [], get_or, ap, ◌∙◌, arith, pos}
use Rattle.jiff_core.specs.Calendar.{day_count}
use Rattle.up_answers.specs.Calendar.{clock_text, date_of, digits, moment_elements}
use Rattle.up_snap.proofs.DateLemmas.{date_counts}

at : {m n : List ℕ} → (i : ℕ) → m ≡ n → get_or m i 0 ≡ get_or n i 0
at i h = ap (λ l. get_or l i 0) h

two_same : (m n : ℕ) → m < 100 → n < 100 → digits 2 m ≡ digits 2 n → m ≡ n
two_same m n low high h =
    let tens : 48 + m / 10 % 10 ≡ 48 + n / 10 % 10 = at 0 h in
    let ones : 48 + m % 10 ≡ 48 + n % 10 = at 1 h in
    omega (arith, low, high, tens, ones)

four_same : (m n : ℕ) → m ≤ 9999 → n ≤ 9999 → digits 4 m ≡ digits 4 n → m ≡ n
four_same m n low high h =
    let a : 48 + m / 10 / 10 / 10 % 10 ≡ 48 + n / 10 / 10 / 10 % 10 = at 0 h in
    let b : 48 + m / 10 / 10 % 10 ≡ 48 + n / 10 / 10 % 10 = at 1 h in
    let c : 48 + m / 10 % 10 ≡ 48 + n / 10 % 10 = at 2 h in
    let d : 48 + m % 10 ≡ 48 + n % 10 = at 3 h in
    omega (arith, low, high, a, b, c, d)

clock_same : (m n : ℕ) → clock_text m ≡ clock_text n → m % 86400 ≡ n % 86400
clock_same m n h =
    let a : 48 + m % 86400 / 3600 / 10 % 10 ≡ 48 + n % 86400 / 3600 / 10 % 10 = at 0 h in
    let b : 48 + m % 86400 / 3600 % 10 ≡ 48 + n % 86400 / 3600 % 10 = at 1 h in
    let c : 48 + m % 3600 / 60 / 10 % 10 ≡ 48 + n % 3600 / 60 / 10 % 10 = at 2 h in
    let d : 48 + m % 3600 / 60 % 10 ≡ 48 + n % 3600 / 60 % 10 = at 3 h in
    let e : 48 + m % 60 / 10 % 10 ≡ 48 + n % 60 / 10 % 10 = at 4 h in
    let f : 48 + m % 60 % 10 ≡ 48 + n % 60 % 10 = at 5 h in
    let hours : m % 86400 / 3600 ≡ n % 86400 / 3600 = omega (arith, a, b) in
    let minutes : m % 3600 / 60 ≡ n % 3600 / 60 = omega (arith, c, d) in
    let seconds : m % 60 ≡ n % 60 = omega (arith, e, f) in
    omega (arith, hours, minutes, seconds)

text_at : {m n : List (List ℕ)} → (i : ℕ) → m ≡ n → get_or m i [] ≡ get_or n i []
text_at i h = ap (λ l. get_or l i []) h

-- two moments that are written alike are one
pub moment_same : (m n : ℕ) → m < 253402207200 → n < 253402207200 → moment_elements m ≡ moment_elements n → m ≡ n
unfolding moment_elements
moment_same m n low high h =
    let one = date_counts (m / 86400) (omega (arith, low)) in
    let two = date_counts (n / 86400) (omega (arith, high)) in
    let year : (date_of (m / 86400)).year ≡ (date_of (n / 86400)).year = four_same _ _ one.last two.last (text_at 0 h) in
    let month : (date_of (m / 86400)).month ≡ (date_of (n / 86400)).month = two_same _ _ (omega (arith, one.civil.1.1)) (omega (arith, two.civil.1.1)) (text_at 1 h) in
    let day : (date_of (m / 86400)).day ≡ (date_of (n / 86400)).day = two_same _ _ one.short two.short (text_at 2 h) in
    let clock = clock_same m n (text_at 3 h) in
    let counted : day_count (pos (date_of (m / 86400)).year) (date_of (m / 86400)).month (date_of (m / 86400)).day ≡ day_count (pos (date_of (n / 86400)).year) (date_of (n / 86400)).month (date_of (n / 86400)).day =
    ap (λ y. day_count (pos y) (date_of (m / 86400)).month (date_of (m / 86400)).day) year
    ∙ ap (λ k. day_count (pos (date_of (n / 86400)).year) k (date_of (m / 86400)).day) month
    ∙ ap (λ k. day_count (pos (date_of (n / 86400)).year) (date_of (n / 86400)).month k) day in
    omega (arith, one.counts, two.counts, counted, clock)
