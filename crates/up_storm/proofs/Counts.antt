-- Sums over sessions, and how many files a set has.
use Rattle.std.proofs.Common.{◌≡◌, ◌≢◌, ℕ, zero, suc, ◌+◌, ◌*◌, ◌<◌, ◌≤◌, Bool, true, false, not, cond, ◌&&◌, ◌||◌, List, [], ◌∷◌, length, refl, sym, ap, ◌∙◌, inl, inr, arith}
use Rattle.std.specs.Prelude.{if◌then◌else◌, ◌==◌}
use Rattle.std.proofs.lemmas.Bool.{cases_lt}
use Rattle.std.proofs.lemmas.Bool.Decides.{nat_tests}
use Rattle.up_storm.specs.Generator.{drawn_of, next_number}
use Rattle.up_storm.specs.Summary.{Course, added_up, after_draw, after_requests, after_wish, is_there, one_notexist, one_ok, unbegun, with_file, without_file}
use Rattle.up_storm.specs.declared.generator.Wish.{Wish}
use Rattle.up_storm.specs.declared.generator.Wish.TheVariants as wish
use Rattle.up_storm.proofs.Courses.{small_draw, there_without}

-- ---- sums over sessions

-- sums of equal numbers
pub added_same : (is_in : ℕ → Bool) (f g : ℕ → ℕ) (k n : ℕ) → ((m : ℕ) → k ≤ m → m < k + n → is_in m ≡ true → f m ≡ g m) → added_up is_in f k n ≡ added_up is_in g k n
added_same is_in f g k zero same = refl
added_same is_in f g k (suc n) same =
    let rest = added_same is_in f g (k + 1) n (λ m low high. same m (omega (arith, low)) (omega (arith, high))) in
    go (is_in k) refl rest
  where
    go : (b : Bool) → is_in k ≡ b → added_up is_in f (k + 1) n ≡ added_up is_in g (k + 1) n
        → (if b then f k else 0) + added_up is_in f (k + 1) n ≡ (if b then g k else 0) + added_up is_in g (k + 1) n
    go true is rest = let here = same k (omega arith) (omega arith) is in omega (arith, here, rest)
    go false is rest = omega (arith, rest)

-- a sum of nothing
pub added_none : (is_in : ℕ → Bool) (k n : ℕ) → added_up is_in (λ m. 0) k n ≡ 0
added_none is_in k zero = refl
added_none is_in k (suc n) = let rest = added_none is_in (k + 1) n in go (is_in k) rest
  where
    go : (b : Bool) → added_up is_in (λ m. 0) (k + 1) n ≡ 0 → (if b then 0 else 0) + added_up is_in (λ m. 0) (k + 1) n ≡ 0
    go true rest = omega (arith, rest)
    go false rest = omega (arith, rest)

-- a sum in which one number changes
pub added_change : (is_in : ℕ → Bool) (f g : ℕ → ℕ) (one a b k n : ℕ) → k ≤ one → one < k + n → is_in one ≡ true → g one + a ≡ f one + b
    → ((m : ℕ) → m ≢ one → m < k + n → g m ≡ f m) → added_up is_in g k n + a ≡ added_up is_in f k n + b
added_change is_in f g one a b k zero low high inside change same = absurd (omega (arith, low, high))
added_change is_in f g one a b k (suc n) low high inside change same = elim (cases_lt k one) [
  | inl behind ↦
      let rest = added_change is_in f g one a b (k + 1) n (omega (arith, behind)) (omega (arith, high)) inside change (λ m apart below. same m apart (omega (arith, below))) in
      let here : g k ≡ f k = same k (λ e. omega (arith, e, behind)) (omega arith) in
      let first : (if is_in k then g k else 0) ≡ (if is_in k then f k else 0) = ap (λ (x : ℕ). if is_in k then x else 0) here in
      omega (arith, rest, first)
  | inr at ↦
      let e : k ≡ one = omega (arith, low, at) in
      let rest : added_up is_in g (k + 1) n ≡ added_up is_in f (k + 1) n = added_same is_in g f (k + 1) n (λ m from to inside'. same m (λ q. omega (arith, q, from, e)) (omega (arith, to))) in
      let here : is_in k ≡ true = ap is_in e ∙ inside in
      let first : (if is_in k then g k else 0) ≡ g one = ap (λ (c : Bool). if c then g k else 0) here ∙ ap g e in
      let second : (if is_in k then f k else 0) ≡ f one = ap (λ (c : Bool). if c then f k else 0) here ∙ ap f e in
      omega (arith, rest, first, second, change)
]

-- a sum of sums
pub added_both : (is_in : ℕ → Bool) (f g : ℕ → ℕ) (k n : ℕ) → added_up is_in (λ m. f m + g m) k n ≡ added_up is_in f k n + added_up is_in g k n
added_both is_in f g k zero = omega arith
added_both is_in f g k (suc n) = let rest = added_both is_in f g (k + 1) n in go (is_in k) rest
  where
    go : (b : Bool) → added_up is_in (λ m. f m + g m) (k + 1) n ≡ added_up is_in f (k + 1) n + added_up is_in g (k + 1) n
        → (if b then f k + g k else 0) + added_up is_in (λ m. f m + g m) (k + 1) n ≡ ((if b then f k else 0) + added_up is_in f (k + 1) n) + ((if b then g k else 0) + added_up is_in g (k + 1) n)
    go true rest = omega (arith, rest)
    go false rest = omega (arith, rest)

-- ---- how many numbers pass a test

-- 1 where it holds, else 0
abbrev pub one_if : Bool → ℕ
one_if b = if b then 1 else 0

-- how many numbers below a bound pass a test
abbrev pub count_below : (ℕ → Bool) → ℕ → ℕ
count_below test zero = 0
count_below test (suc n) = one_if (test n) + count_below test n

pub count_same : (f g : ℕ → Bool) (n : ℕ) → ((i : ℕ) → i < n → f i ≡ g i) → count_below f n ≡ count_below g n
count_same f g zero same = refl
count_same f g (suc n) same =
    let here : one_if (f n) ≡ one_if (g n) = ap one_if (same n (omega arith)) in
    let rest = count_same f g n (λ i less. same i (omega (arith, less))) in
    omega (arith, here, rest)

pub count_change : (f g : ℕ → Bool) (one n : ℕ) → one < n → ((i : ℕ) → i < n → i ≢ one → g i ≡ f i) → count_below g n + one_if (f one) ≡ count_below f n + one_if (g one)
count_change f g one zero less same = absurd (omega (arith, less))
count_change f g one (suc n) less same = elim (cases_lt one n) [
  | inl below ↦
      let rest = count_change f g one n below (λ i low. same i (omega (arith, low))) in
      let here : one_if (g n) ≡ one_if (f n) = ap one_if (same n (omega arith) (λ e. omega (arith, e, below))) in
      omega (arith, rest, here)
  | inr at ↦
      let e : n ≡ one = omega (arith, less, at) in
      let rest : count_below g n ≡ count_below f n = count_same g f n (λ i low. same i (omega (arith, low)) (λ q. omega (arith, q, low, e))) in
      let first : one_if (g n) ≡ one_if (g one) = ap (λ (m : ℕ). one_if (g m)) e in
      let second : one_if (f n) ≡ one_if (f one) = ap (λ (m : ℕ). one_if (f m)) e in
      omega (arith, rest, first, second)
]

pub count_none : (n : ℕ) → count_below (λ i. false) n ≡ 0
count_none zero = refl
count_none (suc n) = let rest = count_none n in omega (arith, rest)

-- ---- a session's set of files has as many numbers as it is long

pub record IsSet (files : List ℕ) : Type 0 where
  pub many : length files ≡ count_below (is_there files) 16

set_with : (files : List ℕ) (file : ℕ) → file < 16 → IsSet files → IsSet (with_file files file)
set_with files file small h = go (is_there files file) refl
  where
    same_test : file == file ≡ true
    same_test = grind (arith, nat_tests)

    other_test : (i : ℕ) → i ≢ file → file == i ≡ false
    other_test i apart = grind (arith, nat_tests)

    go : (b : Bool) → is_there files file ≡ b → IsSet (cond b files (file ∷ files))
    go true is = h
    go false is =
        let change = count_change (is_there files) (is_there (file ∷ files)) file 16 small (λ i low apart. ap (λ (c : Bool). c || is_there files i) (other_test i apart)) in
        let was : one_if (is_there files file) ≡ 0 = ap one_if is in
        let now : one_if (is_there (file ∷ files) file) ≡ 1 = ap (λ (c : Bool). one_if (c || is_there files file)) same_test in
        let many = h.many in
        record { many = omega (arith, change, was, now, many) }

-- a file that is taken out is one less, where no file stands twice
filter_length : (files : List ℕ) (file : ℕ) → length (without_file files file) + (if is_there files file then 1 else 0) ≤ length files
filter_length [] file = omega arith
filter_length (f ∷ files) file = let rest = filter_length files file in go (f == file) rest
  where
    go : (b : Bool) → length (without_file files file) + (if is_there files file then 1 else 0) ≤ length files
        → length (cond (not b) (f ∷ without_file files file) (without_file files file)) + (if b || is_there files file then 1 else 0) ≤ suc (length files)
    go true rest = by (is_there files file) rest
      where
        by : (c : Bool) → length (without_file files file) + (if c then 1 else 0) ≤ length files → length (without_file files file) + 1 ≤ suc (length files)
        by true r = omega (arith, r)
        by false r = omega (arith, r)
    go false rest = omega (arith, rest)

-- so many numbers below a bound are in a list, at most as many as it is long
count_short : (files : List ℕ) (n : ℕ) → count_below (is_there files) n ≤ length files
count_short [] n = let none = count_none n in omega (arith, none)
count_short (f ∷ files) n = elim (cases_lt f n) [
  | inl low ↦
      let change = count_change (is_there files) (is_there (f ∷ files)) f n low (λ i less apart. ap (λ (c : Bool). c || is_there files i) (other_test i apart)) in
      let rest = count_short files n in
      let most = at_most (is_there (f ∷ files) f) in
      omega (arith, change, rest, most)
  | inr high ↦
      let same : count_below (is_there (f ∷ files)) n ≡ count_below (is_there files) n
      = count_same (is_there (f ∷ files)) (is_there files) n (λ i less. ap (λ (c : Bool). c || is_there files i) (other_test i (λ e. omega (arith, e, less, high)))) in
      let rest = count_short files n in
      omega (arith, same, rest)
]
  where
    other_test : (i : ℕ) → i ≢ f → f == i ≡ false
    other_test i apart = grind (arith, nat_tests)

    at_most : (b : Bool) → one_if b ≤ 1
    at_most true = omega arith
    at_most false = omega arith

set_without : (files : List ℕ) (file : ℕ) → file < 16 → is_there files file ≡ true → IsSet files → IsSet (without_file files file)
set_without files file small there h =
    let change = count_change (is_there files) (is_there (without_file files file)) file 16 small
    (λ i low apart. there_without files file i ∙ ap (λ (c : Bool). not c && is_there files i) (other_test i apart)) in
    let was : one_if (is_there files file) ≡ 1 = ap one_if there in
    let now : one_if (is_there (without_file files file) file) ≡ 0 = ap one_if (there_without files file file ∙ ap (λ (c : Bool). not c && is_there files file) same_test) in
    let shorter = filter_length files file in
    let least = count_short (without_file files file) 16 in
    let many = h.many in
    record { many = omega (arith, change, was, now, shorter, least, many) }
  where
    same_test : file == file ≡ true
    same_test = grind (arith, nat_tests)

    other_test : (i : ℕ) → i ≢ file → file == i ≡ false
    other_test i apart = grind (arith, nat_tests)

set_wish : (c : Course) (w : Wish) (file : ℕ) → file < 16 → IsSet c.files → IsSet (after_wish c w file).files
set_wish c wish.Put file small h = set_with c.files file small h
set_wish c wish.Delete file small h = go (is_there c.files file) refl
  where
    go : (b : Bool) → is_there c.files file ≡ b → IsSet (cond b (record { files = without_file c.files file; records = c.records + 1; tally = one_ok c.tally }) (record c { tally = one_notexist c.tally })).files
    go true is = set_without c.files file small is h
    go false is = h
set_wish c wish.Lookup file small h = h
set_wish c wish.LookElsewhere file small h = h
set_wish c wish.Glob file small h = h

pub set_requests : (n x : ℕ) (c : Course) → IsSet c.files → IsSet (after_requests n x c).files
set_requests zero x c h = h
set_requests (suc n) x c h =
    set_requests n (next_number x) (after_draw c (drawn_of (next_number x))) (set_wish c (drawn_of (next_number x)).wish (drawn_of (next_number x)).file (small_draw (next_number x)) h)

pub set_unbegun : IsSet unbegun.files
set_unbegun = record { many = sym (count_none 16) }

-- a sum that is not 0 has a number that is not
pub record SomeOf (f : ℕ → ℕ) (n : ℕ) : Type 0 where
  pub one : ℕ
  pub below : one < n
  pub some : 0 < f one

pub added_some : (f : ℕ → ℕ) (k n : ℕ) → 0 < added_up (λ m. true) f k n → SomeOf f (k + n)
added_some f k zero h = absurd (omega (arith, h))
added_some f k (suc n) h = elim (cases_lt 0 (f k)) [
  | inl here ↦ record { one = k; below = omega arith; some = here }
  | inr none ↦ let rest = added_some f (k + 1) n (omega (arith, h, none)) in record { one = rest.one; below = (let low = rest.below in omega (arith, low)); some = rest.some }
]

-- where the others count nothing, all are counted
pub added_all : (is_in : ℕ → Bool) (f : ℕ → ℕ) (k n : ℕ) → ((m : ℕ) → m < k + n → is_in m ≡ false → f m ≡ 0) → added_up (λ m. true) f k n ≡ added_up is_in f k n
added_all is_in f k zero none = refl
added_all is_in f k (suc n) none =
    let rest = added_all is_in f (k + 1) n (λ m below out. none m (omega (arith, below)) out) in
    go (is_in k) refl rest
  where
    go : (b : Bool) → is_in k ≡ b → added_up (λ m. true) f (k + 1) n ≡ added_up is_in f (k + 1) n → f k + added_up (λ m. true) f (k + 1) n ≡ (if b then f k else 0) + added_up is_in f (k + 1) n
    go true is rest = omega (arith, rest)
    go false is rest = let here = none k (omega arith) is in omega (arith, rest, here)

-- a sum of at most 4,096 each
pub added_most : (f : ℕ → ℕ) (k n : ℕ) → ((m : ℕ) → m < k + n → f m ≤ 4096) → added_up (λ m. true) f k n ≤ n * 4096
added_most f k zero each = omega arith
added_most f k (suc n) each =
    let here = each k (omega arith) in
    let rest = added_most f (k + 1) n (λ m below. each m (omega (arith, below))) in
    omega (arith, here, rest)

-- a sum of at most two each
pub added_twos : (is_in : ℕ → Bool) (k n : ℕ) → added_up is_in (λ m. 2) k n ≤ n * 2
added_twos is_in k zero = omega arith
added_twos is_in k (suc n) = let rest = added_twos is_in (k + 1) n in go (is_in k) rest
  where
    go : (b : Bool) → added_up is_in (λ m. 2) (k + 1) n ≤ n * 2 → (if b then 2 else 0) + added_up is_in (λ m. 2) (k + 1) n ≤ suc n * 2
    go true rest = omega (arith, rest)
    go false rest = omega (arith, rest)

-- sums over the same numbers, by whichever test
pub added_test : (f g : ℕ → Bool) (count : ℕ → ℕ) (k n : ℕ) → ((m : ℕ) → f m ≡ g m) → added_up f count k n ≡ added_up g count k n
added_test f g count k zero same = refl
added_test f g count k (suc n) same =
    let rest = added_test f g count (k + 1) n same in
    let here : (if f k then count k else 0) ≡ (if g k then count k else 0) = ap (λ (b : Bool). if b then count k else 0) (same k) in
    omega (arith, here, rest)
