-- A session's files, its positions and its counts, request by request, by what each request did.
use Rattle.std.proofs.Common.{◌≡◌, ◌≢◌, ℕ, zero, suc, ◌+◌, ◌-◌, ◌<◌, ◌≤◌, Bool, true, false, not, cond, ◌&&◌, ◌||◌, List, [], ◌∷◌, ◌++◌, length, refl, sym, ap, subst, ◌∙◌, arith, append_assoc, append-nil, length-append}
use Rattle.std.specs.Prelude.{MatchBool, if◌then◌else◌, ◌==◌}
use Rattle.std.proofs.lemmas.Bool.{false≢true}
use Rattle.std.proofs.lemmas.Bool.Decides.{nat_tests}
use Rattle.up_storm.specs.Generator.{drawn_of, next_number}
use Rattle.up_storm.specs.Summary.{Course, after_requests, after_wish, is_there, one_notexist, one_ok, one_private, with_file, without_file}
use Rattle.up_storm.specs.declared.generator.Draw.{Draw}
use Rattle.up_storm.specs.declared.generator.Wish.{Wish}
use Rattle.up_storm.specs.declared.generator.Wish.TheVariants as wish
use Rattle.up_storm.specs.declared.tally.Tally.{Tally}
use Rattle.up_cell.specs.Positions.{times}
use Rattle.up_cell.proofs.Sums.{times-append}

-- ---- what one request did

-- a record was added behind the first `position`, which is an own one
pub record Adds (position to : ℕ) (own after : List ℕ) : Type 0 where
  pub own_is : after ≡ own ++ (position + 1) ∷ []
  pub within : position < to

-- What a request did over the first records of a log, by which of the session's files stand over the first n.
abbrev pub Did : (ℕ → ℕ → Bool) → Wish → ℕ → ℕ → ℕ → List ℕ → List ℕ → Tally → Tally → Type 0
Did stands wish.Put file position to own after t u =
    Adds position to own after × (u ≡ one_ok t) × ((i : ℕ) → i < 16 → stands (position + 1) i ≡ (file == i || stands position i))
Did stands wish.Delete file position to own after t u =
    MatchBool (stands position file)
    (Adds position to own after × (u ≡ one_ok t) × ((i : ℕ) → i < 16 → stands (position + 1) i ≡ (not (file == i) && stands position i)))
    ((after ≡ own) × (u ≡ one_notexist t))
Did stands wish.Lookup file position to own after t u = (after ≡ own) × (u ≡ (if stands position file then one_ok t else one_notexist t))
Did stands wish.LookElsewhere file position to own after t u = (after ≡ own) × (u ≡ one_private t)
Did stands wish.Glob file position to own after t u = (after ≡ own) × (u ≡ one_ok t)

-- one request was answered over no fewer records than were seen before it, and no more than are seen after it
pub record Went (stands : ℕ → ℕ → Bool) (draw : Draw) (from to : ℕ) (own after : List ℕ) (t u : Tally) : Type 0 where
  pub position : ℕ
  pub low : from ≤ position
  pub high : position ≤ to
  pub did : Did stands draw.wish draw.file position to own after t u

-- the requests of a session, one after the other
abbrev pub AllWent : (ℕ → ℕ → Bool) → ℕ → ℕ → ℕ → ℕ → List ℕ → List ℕ → Tally → Tally → Type 0
AllWent stands zero x from to own after t u = (to ≡ from) × (after ≡ own) × (u ≡ t)
AllWent stands (suc n) x from to own after t u =
    (mid : ℕ) × (between : List ℕ) × (s : Tally) × Went stands (drawn_of (next_number x)) from mid own between t s
    × AllWent stands n (next_number x) mid to between after s u

-- ---- own positions rise

-- behind these positions came further ones, each above n
pub record Grown (n : ℕ) (own after : List ℕ) : Type 0 where
  pub more : List ℕ
  pub whole : after ≡ own ++ more
  pub above : (y : ℕ) → y ≤ n → times y more ≡ 0

grown_none : (n : ℕ) (own after : List ℕ) → after ≡ own → Grown n own after
grown_none n own after same = record { more = []; whole = same ∙ sym (append-nil own); above = λ y less. refl }

alone : (y x : ℕ) → y ≢ x → times y (x ∷ []) ≡ 0
alone y x apart = grind (arith, nat_tests)

grown_one : (n position to : ℕ) (own after : List ℕ) → n ≤ position → Adds position to own after → Grown n own after
grown_one n position to own after low adds = record {
  more = (position + 1) ∷ [];
  whole = adds.own_is;
  above = λ y less. alone y (position + 1) (λ same. omega (arith, same, less, low));
}

pub grown_trans : (n m : ℕ) (own between after : List ℕ) → n ≤ m → Grown n own between → Grown m between after → Grown n own after
grown_trans n m own between after less one two = record {
  more = one.more ++ two.more;
  whole = two.whole ∙ ap (λ (xs : List ℕ). xs ++ two.more) one.whole ∙ append_assoc own one.more two.more;
  above = λ y low. let a = one.above y low in let b = two.above y (omega (arith, low, less)) in omega (arith, times-append y one.more two.more, a, b);
}

did_grows : (stands : ℕ → ℕ → Bool) (w : Wish) (file n position to : ℕ) (own after : List ℕ) (t u : Tally) → n ≤ position → Did stands w file position to own after t u → Grown n own after
did_grows stands wish.Put file n position to own after t u low did = grown_one n position to own after low did.0
did_grows stands wish.Delete file n position to own after t u low did = by (stands position file) did
  where
    by : (b : Bool) → MatchBool b (Adds position to own after × (u ≡ one_ok t) × ((i : ℕ) → i < 16 → stands (position + 1) i ≡ (not (file == i) && stands position i))) ((after ≡ own) × (u ≡ one_notexist t))
        → Grown n own after
    by true d = grown_one n position to own after low d.0
    by false d = grown_none n own after d.0
did_grows stands wish.Lookup file n position to own after t u low did = grown_none n own after did.0
did_grows stands wish.LookElsewhere file n position to own after t u low did = grown_none n own after did.0
did_grows stands wish.Glob file n position to own after t u low did = grown_none n own after did.0

pub all_grow : (stands : ℕ → ℕ → Bool) (n x from to : ℕ) (own after : List ℕ) (t u : Tally) → AllWent stands n x from to own after t u → (from ≤ to) × Grown from own after
all_grow stands zero x from to own after t u h = (let same = h.0 in omega (arith, same), grown_none from own after h.1)
all_grow stands (suc n) x from to own after t u h =
    let mid : ℕ = h.0 in
    let went = h.3 in
    let rest = all_grow stands n (next_number x) mid to h.1 after h.2 u h.4 in
    let low = went.low in
    let high = went.high in
    let far = rest.0 in (
      omega (arith, low, high, far),
      grown_trans from mid own h.1 after (omega (arith, low, high))
          (did_grows stands (drawn_of (next_number x)).wish (drawn_of (next_number x)).file from went.position mid own h.1 t h.2 low went.did) rest.1,
    )

-- ---- sets of files

pub there_with : (files : List ℕ) (file i : ℕ) → is_there (with_file files file) i ≡ (file == i || is_there files i)
there_with files file i = by (is_there files file) refl
  where
    by : (b : Bool) → is_there files file ≡ b → is_there (cond b files (file ∷ files)) i ≡ (file == i || is_there files i)
    by false is = refl
    by true is = go (file == i) refl
      where
        same : file == i ≡ true → file ≡ i
        same h = grind (arith, nat_tests)

        go : (c : Bool) → file == i ≡ c → is_there files i ≡ (c || is_there files i)
        go false h = refl
        go true h = sym (ap (λ (j : ℕ). is_there files j) (same h)) ∙ is

pub there_without : (files : List ℕ) (file i : ℕ) → is_there (without_file files file) i ≡ (not (file == i) && is_there files i)
there_without [] file i = by (file == i)
  where
    by : (b : Bool) → false ≡ (not b && false)
    by true = refl
    by false = refl
there_without (f ∷ files) file i = by (f == file) refl (there_without files file i)
  where
    same : f == file ≡ true → f ≡ file
    same h = grind (arith, nat_tests)

    other : f == file ≡ false → f == i ≡ true → file == i ≡ false
    other h k = grind (arith, nat_tests)

    here : (c : Bool) → (not c && is_there files i) ≡ (not c && (c || is_there files i))
    here true = refl
    here false = refl

    there : (c d : Bool) → (c ≡ true → d ≡ false) → (c || (not d && is_there files i)) ≡ (not d && (c || is_there files i))
    there true true h = absurd (false≢true (sym (h refl)))
    there true false h = refl
    there false true h = refl
    there false false h = refl

    by : (b : Bool) → f == file ≡ b → is_there (without_file files file) i ≡ (not (file == i) && is_there files i)
        → is_there (cond (not b) (f ∷ without_file files file) (without_file files file)) i ≡ (not (file == i) && (f == i || is_there files i))
    by true is rest = rest ∙ here (file == i) ∙ sym (ap (λ (j : ℕ). not (file == i) && (j == i || is_there files i)) (same is))
    by false is rest = ap (λ (b : Bool). f == i || b) rest ∙ there (f == i) (file == i) (other is)

-- ---- all requests of a session

-- the session's files that stand over the first n records are those of its course
pub record Agrees (stands : ℕ → ℕ → Bool) (c : Course) (n : ℕ) : Type 0 where
  pub same : (i : ℕ) → i < 16 → stands n i ≡ is_there c.files i

-- no position of a list is above n
pub record Below (n : ℕ) (own : List ℕ) : Type 0 where
  pub none : (y : ℕ) → n < y → times y own ≡ 0

-- What a session came to: its counts, its own positions and its files are those of the course.
pub record Ended (stands : ℕ → ℕ → Bool) (before after : Course) (to : ℕ) (own final : List ℕ) (u : Tally) : Type 0 where
  pub tally : u ≡ after.tally
  pub records : length final + before.records ≡ length own + after.records
  pub files : Agrees stands after to
  pub below : Below to final

pub small_draw : (x : ℕ) → (drawn_of x).file < 16
small_draw x = omega arith

module _ (stands : ℕ → ℕ → Bool) (base len : ℕ) (final : List ℕ)
    (still : (m : ℕ) → base ≤ m → m < len → times (m + 1) final ≡ 0 → (i : ℕ) → i < 16 → stands (m + 1) i ≡ stands m i) where
  -- where no position is the session's own, its files stay
  stays_on : (a d : ℕ) → base ≤ a → a + d ≤ len → ((m : ℕ) → a ≤ m → m < a + d → times (m + 1) final ≡ 0) → (i : ℕ) → i < 16 → stands (a + d) i ≡ stands a i
  stays_on a zero low high none i small = let e : a + 0 ≡ a = omega arith in ap (λ (n : ℕ). stands n i) e
  stays_on a (suc d) low high none i small =
      let e : a + suc d ≡ (a + d) + 1 = omega arith in
      ap (λ (n : ℕ). stands n i) e
      ∙ still (a + d) (omega (arith, low)) (omega (arith, high)) (none (a + d) (omega arith) (omega arith)) i small
      ∙ stays_on a d low (omega (arith, high)) (λ m from to. none m from (omega (arith, to))) i small

  pub stays_between : (a b : ℕ) → base ≤ a → a ≤ b → b ≤ len → ((m : ℕ) → a ≤ m → m < b → times (m + 1) final ≡ 0) → (i : ℕ) → i < 16 → stands b i ≡ stands a i
  stays_between a b low less high none i small =
      let e : a + (b - a) ≡ b = omega (arith, less) in
      sym (ap (λ (n : ℕ). stands n i) e)
      ∙ stays_on a (b - a) low (omega (arith, e, high)) (λ m from to. none m from (omega (arith, to, e))) i small

  -- one request, and what is known of the positions that come behind it
  module _ (from mid : ℕ) (own between : List ℕ) (low : base ≤ from) (high : mid ≤ len) (before : Below from own) (later : Grown mid between final) where
    -- a request that added no record
    quiet_none : between ≡ own → (m : ℕ) → from ≤ m → m < mid → times (m + 1) final ≡ 0
    quiet_none same m a b =
        let first : times (m + 1) own ≡ 0 = before.none (m + 1) (omega (arith, a)) in
        let behind : times (m + 1) later.more ≡ 0 = later.above (m + 1) (omega (arith, b)) in
        let all : times (m + 1) final ≡ times (m + 1) (own ++ later.more) = ap (λ (xs : List ℕ). times (m + 1) xs) (later.whole ∙ ap (λ (xs : List ℕ). xs ++ later.more) same) in
        omega (arith, all, times-append (m + 1) own later.more, first, behind)

    quiet_below : from ≤ mid → between ≡ own → Below mid between
    quiet_below less same = record { none = λ y far. ap (λ (xs : List ℕ). times y xs) same ∙ before.none y (omega (arith, far, less)) }

    module _ (position : ℕ) (reach : from ≤ position) (adds : Adds position mid own between) where
      own_none : (m : ℕ) → from ≤ m → m < mid → m ≢ position → times (m + 1) final ≡ 0
      own_none m a b apart =
          let first : times (m + 1) own ≡ 0 = before.none (m + 1) (omega (arith, a)) in
          let one : times (m + 1) ((position + 1) ∷ []) ≡ 0 = alone (m + 1) (position + 1) (λ same. apart (omega (arith, same))) in
          let behind : times (m + 1) later.more ≡ 0 = later.above (m + 1) (omega (arith, b)) in
          let all : times (m + 1) final ≡ times (m + 1) ((own ++ (position + 1) ∷ []) ++ later.more) = ap (λ (xs : List ℕ). times (m + 1) xs) (later.whole ∙ ap (λ (xs : List ℕ). xs ++ later.more) adds.own_is) in
          omega (arith, all, times-append (m + 1) (own ++ (position + 1) ∷ []) later.more, times-append (m + 1) own ((position + 1) ∷ []), first, one, behind)

      own_below : Below mid between
      own_below = record {
        none = λ y far.
            let first : times y own ≡ 0 = before.none y (let in_it = adds.within in omega (arith, far, in_it, reach)) in
            let one : times y ((position + 1) ∷ []) ≡ 0 = alone y (position + 1) (λ same. let in_it = adds.within in omega (arith, same, far, in_it)) in
            ap (λ (xs : List ℕ). times y xs) adds.own_is ∙ (let sum = times-append y own ((position + 1) ∷ []) in omega (arith, sum, first, one));
      }

      -- before the record, and behind it
      to_position : (i : ℕ) → i < 16 → stands position i ≡ stands from i
      to_position i small =
          let in_it = adds.within in
          stays_between from position low reach (omega (arith, in_it, high)) (λ m a b. own_none m a (omega (arith, b, in_it)) (λ same. omega (arith, same, b))) i small

      from_position : (i : ℕ) → i < 16 → stands mid i ≡ stands (position + 1) i
      from_position i small =
          let in_it = adds.within in
          stays_between (position + 1) mid (omega (arith, low, reach)) (omega (arith, in_it)) high (λ m a b. own_none m (omega (arith, a, reach)) b (λ same. omega (arith, same, a))) i small

      one_longer : length between ≡ length own + 1
      one_longer = ap (λ (xs : List ℕ). length xs) adds.own_is ∙ length-append own ((position + 1) ∷ [])

    quiet_files : from ≤ mid → between ≡ own → (n : ℕ) → from ≤ n → n ≤ mid → (i : ℕ) → i < 16 → stands n i ≡ stands from i
    quiet_files less same n a b i small = stays_between from n low a (omega (arith, b, high)) (λ m c d. quiet_none same m c (omega (arith, d, b))) i small

    -- what a session is after one request more
    pub record Next (c d : Course) (s : Tally) : Type 0 where
      pub tally : s ≡ d.tally
      pub records : length between + c.records ≡ length own + d.records
      pub files : Agrees stands d mid
      pub below : Below mid between

    module _ (c : Course) (t s : Tally) (told : t ≡ c.tally) (agrees : Agrees stands c from) (position : ℕ) (reach : from ≤ position) (end : position ≤ mid) where
      next_quiet : (d : Course) → between ≡ own → d.records ≡ c.records → d.files ≡ c.files → s ≡ d.tally → Next c d s
      next_quiet d same records files tally = record {
        tally = tally;
        records = (let long : length between ≡ length own = ap (λ (xs : List ℕ). length xs) same in omega (arith, long, records));
        files = record {
          same = λ i small.
              quiet_files (omega (arith, reach, end)) same mid (omega (arith, reach, end)) (omega arith) i small
              ∙ agrees.same i small ∙ sym (ap (λ (xs : List ℕ). is_there xs i) files);
        };
        below = quiet_below (omega (arith, reach, end)) same;
      }

      next_adds : (d : Course) → (adds : Adds position mid own between) → d.records ≡ c.records + 1 → s ≡ d.tally
          → ((i : ℕ) → i < 16 → stands (position + 1) i ≡ is_there d.files i) → Next c d s
      next_adds d adds records tally files = record {
        tally = tally;
        records = (let long = one_longer position reach adds in omega (arith, long, records));
        files = record { same = λ i small. from_position position reach adds i small ∙ files i small };
        below = own_below position reach adds;
      }

      quiet_here : between ≡ own → (file : ℕ) → file < 16 → stands position file ≡ is_there c.files file
      quiet_here same file small = quiet_files (omega (arith, reach, end)) same position reach end file small ∙ agrees.same file small

      here : (adds : Adds position mid own between) → (file : ℕ) → file < 16 → stands position file ≡ is_there c.files file
      here adds file small = to_position position reach adds file small ∙ agrees.same file small

      next_delete : (file : ℕ) → file < 16 → (b : Bool) → stands position file ≡ b
          → MatchBool b (Adds position mid own between × (s ≡ one_ok t) × ((i : ℕ) → i < 16 → stands (position + 1) i ≡ (not (file == i) && stands position i))) ((between ≡ own) × (s ≡ one_notexist t))
          → Next c (after_wish c wish.Delete file) s
      next_delete file small true is did =
          let adds = did.0 in
          let there : is_there c.files file ≡ true = sym (here adds file small) ∙ is in
          let d : Course = record { files = without_file c.files file; records = c.records + 1; tally = one_ok c.tally } in
          subst (λ (b : Bool). Next c (cond b d (record c { tally = one_notexist c.tally })) s) (sym there)
          (next_adds d adds refl (did.1 ∙ ap one_ok told)
          (λ i less. did.2 i less ∙ ap (λ (b : Bool). not (file == i) && b) (here adds i less) ∙ sym (there_without c.files file i)))
      next_delete file small false is did =
          let there : is_there c.files file ≡ false = sym (quiet_here did.0 file small) ∙ is in
          let d : Course = record { files = without_file c.files file; records = c.records + 1; tally = one_ok c.tally } in
          subst (λ (b : Bool). Next c (cond b d (record c { tally = one_notexist c.tally })) s) (sym there)
          (next_quiet (record c { tally = one_notexist c.tally }) did.0 refl refl (did.1 ∙ ap one_notexist told))

      pub next_is : (w : Wish) (file : ℕ) → file < 16 → Did stands w file position mid own between t s → Next c (after_wish c w file) s
      next_is wish.Put file small did =
          let adds = did.0 in
          next_adds (after_wish c wish.Put file) adds refl (did.1 ∙ ap one_ok told)
          (λ i less. did.2 i less ∙ ap (λ (b : Bool). file == i || b) (here adds i less) ∙ sym (there_with c.files file i))
      next_is wish.Delete file small did = next_delete file small (stands position file) refl did
      next_is wish.Lookup file small did =
          next_quiet (after_wish c wish.Lookup file) did.0 refl refl
          (did.1 ∙ ap (λ (b : Bool). if b then one_ok t else one_notexist t) (quiet_here did.0 file small)
          ∙ ap (λ (r : Tally). if is_there c.files file then one_ok r else one_notexist r) told)
      next_is wish.LookElsewhere file small did = next_quiet (after_wish c wish.LookElsewhere file) did.0 refl refl (did.1 ∙ ap one_private told)
      next_is wish.Glob file small did = next_quiet (after_wish c wish.Glob file) did.0 refl refl (did.1 ∙ ap one_ok told)

  -- A session that went through all its requests has come to what its course is.
  pub course_is : (n x from to : ℕ) (own : List ℕ) (t u : Tally) (c : Course) → AllWent stands n x from to own final t u → base ≤ from → to ≤ len → Below from own → t ≡ c.tally → Agrees stands c from
      → Ended stands c (after_requests n x c) to own final u
  course_is zero x from to own t u c h low high before told agrees = record {
    tally = h.2 ∙ told;
    records = (let long : length final ≡ length own = ap (λ (xs : List ℕ). length xs) h.1 in omega (arith, long));
    files = subst (Agrees stands c) (sym h.0) agrees;
    below = record { none = λ y far. ap (λ (xs : List ℕ). times y xs) h.1 ∙ before.none y (let same = h.0 in omega (arith, far, same)) };
  }
  course_is (suc n) x from to own t u c h low high before told agrees =
      let mid : ℕ = h.0 in
      let between : List ℕ = h.1 in
      let went = h.3 in
      let rest = all_grow stands n (next_number x) mid to between final h.2 u h.4 in
      let far = rest.0 in
      let reach = went.low in
      let end = went.high in
      let draw : Draw = drawn_of (next_number x) in
      let d : Course = after_wish c draw.wish draw.file in
      let next = next_is from mid own between low (omega (arith, far, high)) before rest.1 c t h.2 told agrees went.position reach end draw.wish draw.file (small_draw (next_number x)) went.did in
      let more = course_is n (next_number x) mid to between h.2 u d h.4 (omega (arith, low, reach, end)) high next.below next.tally next.files in
      let one = next.records in
      let two = more.records in
      record { tally = more.tally; records = omega (arith, one, two); files = more.files; below = more.below }
