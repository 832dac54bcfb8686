-- The first snapshot that bears on a path, found among all their moments.
use Rattle.std.proofs.Common.{◌≡◌, ℕ, zero, suc, ◌+◌, ◌<◌, ◌≤◌, Bool, true, false, cond, List, [], ◌∷◌, fold, get_or, length, take, refl, sym, ap, subst, ◌∙◌, ◌⊎◌, inl, inr, arith, Option, Some, None}
use Rattle.std.specs.Prelude.{Contains, if◌then◌else◌, is_some, nat_le, nat_lt, slice_get, ◌==◌}
use Rattle.std.specs.Cmp.{nat_cmp_total, tied_itself}
use Rattle.std.specs.FinMap.Entries.{find}
use Rattle.std.specs.List.{position}
use Rattle.std.specs.Map.{keys_of}
use Rattle.std.specs.Option.{option_map, option_or}
use Rattle.std.specs.Ordering.{eq_by_cmp, is_eq, nat_cmp}
use Rattle.std.specs.declared.cmp.Ordering.TheVariants.{Less, Equal, Greater}
use Rattle.std.proofs.lemmas.List.Quantifiers.{position-Some}
use Rattle.std.proofs.lemmas.Option.{slice_get-get_or, slice_get_within}
use Rattle.std.proofs.lemmas.Bool.{cases_order, eqb-true, eq-eqb, false≢true, leb-false, leb-true}
use Rattle.up_names.specs.PathNames.{PathName}
use Rattle.up_entry.specs.declared.records.Rec.{Rec}
use Rattle.up_entry.specs.declared.records.Rec.TheVariants.{Put, Delete, Snap}
use Rattle.up_mem_tree.proofs.SnapTimes.{is_taken, snap_is}
use Rattle.up_log_tree.specs.Fits.{IsLog, is_snap_at}
use Rattle.up_log_tree.specs.Snapshots.{snap_at, snapshots_of}
use Rattle.up_log_tree.proofs.Paths.{some_none, some_same}
use Rattle.up_policy.proofs.VerdictLemmas.{any_at}
use Rattle.std.proofs.Math.Seq.{take-length}
use Rattle.std.proofs.lemmas.Grind.{fold-append}
use Rattle.up_log_tree.proofs.Fronts.{take_next}
use Rattle.up_snap.specs.Firsts.{bearing_at, least_to, sooner}
use Rattle.up_snap.specs.Shown.{bearing, bears_on, first_to}
use Rattle.up_snap.specs.declared.shown.Shown.{Shown}
use Rattle.up_snap.specs.Written.{IsRead}
use Rattle.up_snap.proofs.ShownLemmas.{IsFirst, calendar, first_is, has_taken}
use Rattle.up_snap.proofs.UnderLemmas.{below_if}

-- ---- the least of some

-- a number among these
abbrev IsAmong : List ℕ → ℕ → Type 0
IsAmong times time = (i : ℕ) × (slice_get times i ≡ Some time)

module _ (snap_user : List ℕ) (records : List Rec) (q : PathName) where
  abbrev At : ℕ → Option Shown
  At time = bearing_at snap_user records q time

  abbrev step : Option Shown → ℕ → Option Shown
  step first time = sooner first (At time)

  -- what was found at first stays the least, or one of the moments has it
  least_from : (times : List ℕ) (first : Option Shown) (s : Shown) → fold step first times ≡ Some s → (first ≡ Some s) ⊎ ((time : ℕ) × (i : ℕ) × (slice_get times i ≡ Some time) × (At time ≡ Some s))
  least_from [] first s h = inl h
  least_from (t ∷ ts) first s h = go (least_from ts (step first t) s h)
    where
      by : (a b : Option Shown) → sooner a b ≡ Some s → (a ≡ Some s) ⊎ (b ≡ Some s)
      by None b k = inr k
      by (Some one) None k = inl k
      by (Some one) (Some two) k = on (nat_le one.position two.position) k
        where
          on : (c : Bool) → (if c then Some one else Some two) ≡ Some s → (Some one ≡ Some s) ⊎ (Some two ≡ Some s)
          on true m = inl m
          on false m = inr m

      go : (step first t ≡ Some s) ⊎ ((time : ℕ) × (i : ℕ) × (slice_get ts i ≡ Some time) × (At time ≡ Some s)) → (first ≡ Some s) ⊎ ((time : ℕ) × (i : ℕ) × (slice_get (t ∷ ts) i ≡ Some time) × (At time ≡ Some s))
      go (inl k) = elim (by first (At t) k) [ inl a ↦ inl a | inr b ↦ inr (t, 0, refl, b) ]
      go (inr found) = inr (found.0, suc found.1, found.2, found.3)

  -- it is at most what was found at first
  pub record IsAtMost (o : Option Shown) (n : ℕ) : Type 0 where
    pub found : Shown
    pub is : o ≡ Some found
    pub low : found.position ≤ n

  still : (times : List ℕ) (first : Option Shown) (n : ℕ) → IsAtMost first n → IsAtMost (fold step first times) n
  still [] first n h = h
  still (t ∷ ts) first n h = still ts (step first t) n (by (At t))
    where
      by : (o : Option Shown) → IsAtMost (sooner first o) n
      by None = record { found = h.found; is = ap (λ f. sooner f None) h.is; low = h.low }
      by (Some two) = on (nat_le h.found.position two.position) refl
        where
          on : (b : Bool) → nat_le h.found.position two.position ≡ b → IsAtMost (sooner first (Some two)) n
          on true e = record { found = h.found; is = ap (λ f. sooner f (Some two)) h.is ∙ ap (λ b. if b then Some h.found else Some two) e; low = h.low }
          on false e =
              record { found = two; is = ap (λ f. sooner f (Some two)) h.is ∙ ap (λ b. if b then Some h.found else Some two) e; low = let g = leb-false h.found.position two.position e in omega (arith, g, h.low) }

  at_once : (first : Option Shown) (s : Shown) (o : Option Shown) → o ≡ Some s → IsAtMost (sooner first o) s.position
  at_once None s o h = record { found = s; is = h; low = omega arith }
  at_once (Some one) s o h = on (nat_le one.position s.position) refl
    where
      on : (b : Bool) → nat_le one.position s.position ≡ b → IsAtMost (sooner (Some one) o) s.position
      on true e = record { found = one; is = ap (sooner (Some one)) h ∙ ap (λ b. if b then Some one else Some s) e; low = leb-true one.position s.position e }
      on false e = record { found = s; is = ap (sooner (Some one)) h ∙ ap (λ b. if b then Some one else Some s) e; low = omega arith }

  least_low : (times : List ℕ) (first : Option Shown) (i time : ℕ) (s : Shown) → slice_get times i ≡ Some time → At time ≡ Some s → IsAtMost (fold step first times) s.position
  least_low [] first i time s there h = absurd (some_none time (sym there))
  least_low (t ∷ ts) first zero time s there h = still ts (step first t) s.position (at_once first s (At t) (ap At (some_same t time there) ∙ h))
  least_low (t ∷ ts) first (suc i) time s there h = least_low ts (step first t) i time s there h

  -- ---- the first by position

  -- where a record among the first n takes a snapshot that bears, there is a first one, which is no later
  pub first_low : (n m time : ℕ) → m < n → slice_get records m ≡ Some (Snap time) → bears_on snap_user q time ≡ true → IsAtMost (first_to snap_user records q n) (suc m)
  unfolding first_to
  first_low zero m time lt taken bears = absurd (omega (arith, lt))
  first_low (suc n) m time lt taken bears = go (first_to snap_user records q n) refl (λ l. first_low n m time l taken bears)
    where
      go : (o : Option Shown) → first_to snap_user records q n ≡ o → (m < n → IsAtMost (first_to snap_user records q n) (suc m)) → IsAtMost (option_or o (bearing snap_user q (suc n) (slice_get records n))) (suc m)
      go (Some f) e ih = elim (cases_order m n) [
        | inl same ↦ record { found = f; is = refl; low = let w = first_is snap_user records q n f e in omega (arith, same, w.within, w.position) }
        | inr apart ↦ elim apart [
          | inl less ↦ let was = ih less in record { found = f; is = refl; low = let s : was.found ≡ f = some_same was.found f (sym was.is ∙ e) in let p : was.found.position ≡ f.position = ap (λ (x : Shown). x.position) s in omega (arith, p, was.low) }
          | inr more ↦ absurd (omega (arith, more, lt))
        ]
      ]
      go None e ih = elim (cases_order m n) [
        | inl same ↦ record {
          found = record { position = suc n; time = time };
          is =
              ap (bearing snap_user q (suc n)) (ap (slice_get records) (sym same) ∙ taken)
              ∙ ap (λ b. if b then Some (record { position = suc n; time = time }) else None) bears;
          low = omega (arith, same);
        }
        | inr apart ↦ elim apart [
          | inl less ↦ absurd (let was = ih less in some_none was.found (sym was.is ∙ e))
          | inr more ↦ absurd (omega (arith, more, lt))
        ]
      ]

-- ---- the moments

-- moments are compared as numbers
nat_itself : (n : ℕ) → eq_by_cmp nat_cmp n n ≡ true
nat_itself n = ap is_eq (tied_itself nat_cmp_total n)

nat_tied : (m n : ℕ) → eq_by_cmp nat_cmp m n ≡ true → n ≡ m
nat_tied m n h = go (nat_lt m n) refl (m == n) refl h
  where
    go : (a : Bool) → nat_lt m n ≡ a → (b : Bool) → (m == n) ≡ b → is_eq (cond a Less (cond b Equal Greater)) ≡ true → n ≡ m
    go true e b f k = absurd (false≢true k)
    go false e true f k = sym (eqb-true m n f)
    go false e false f k = absurd (false≢true k)

time_same : (m n : ℕ) → Snap m ≡ Snap n → m ≡ n
time_same m n h = cc

-- a record that takes a snapshot of that moment
snap_of : (time : ℕ) (r : Rec) → is_snap_at time r ≡ true → r ≡ Snap time
snap_of time (Put entry text) h = absurd (false≢true h)
snap_of time (Delete gone) h = absurd (false≢true h)
snap_of time (Snap at) h = ap (λ t. Snap t) (eqb-true at time h)

module _ (owner : List ℕ) (records : List Rec) (is : IsLog owner records) (time : ℕ) where
  -- only one record does
  pub one_place : (m n : ℕ) → slice_get records m ≡ Some (Snap time) → slice_get records n ≡ Some (Snap time) → m ≡ n
  one_place m n a b = elim (cases_order m n) [
    | inl same ↦ same
    | inr apart ↦ elim apart [
      | inl less ↦ absurd ((is.fitting.each n (Snap time) b).new (has_taken records n m (Snap time) less a))
      | inr more ↦ absurd ((is.fitting.each m (Snap time) a).new (has_taken records m n (Snap time) more b))
    ]
  ]

  -- its position
  pub at_position : (n : ℕ) → snap_at records time ≡ Some n → (m : ℕ) × (n ≡ suc m) × (slice_get records m ≡ Some (Snap time))
  unfolding snap_at
  at_position n h = go (position (is_snap_at time) records) refl h
    where
      go : (o : Option ℕ) → position (is_snap_at time) records ≡ o → option_map suc o ≡ Some n → (m : ℕ) × (n ≡ suc m) × (slice_get records m ≡ Some (Snap time))
      go None e k = absurd (some_none n (sym k))
      go (Some m) e k =
          let found = position-Some (is_snap_at time) records m (Snap 0) e in
          (m, sym (some_same (suc m) n k), slice_get-get_or records m (Snap 0) found.0 ∙ ap (λ r. Some r) (snap_of time (get_or records m (Snap 0)) found.1))

  pub position_at : (m : ℕ) → slice_get records m ≡ Some (Snap time) → snap_at records time ≡ Some (suc m)
  unfolding snap_at
  position_at m h = go (position (is_snap_at time) records) refl
    where
      within : m < length records
      within = slice_get_within records m (Snap time) h

      go : (o : Option ℕ) → position (is_snap_at time) records ≡ o → option_map suc o ≡ Some (suc m)
      go None e =
          let none : is_some (find nat_cmp time (snapshots_of records)) ≡ false = ap is_some (snap_is time owner records is.fitting ∙ ap (option_map suc) e) in
          let there : Contains records (Snap time) = subst (λ rs. Contains rs (Snap time)) (take-length records) (has_taken records (length records) m (Snap time) within h) in
          absurd (false≢true (sym none ∙ is_taken time records ∙ any_at (is_snap_at time) records (Snap time) there (eq-eqb time time refl)))
      go (Some k) e =
          let found = position-Some (is_snap_at time) records k (Snap 0) e in
          let there : slice_get records k ≡ Some (Snap time) = slice_get-get_or records k (Snap 0) found.0 ∙ ap (λ r. Some r) (snap_of time (get_or records k (Snap 0)) found.1) in
          ap (λ j. Some (suc j)) (one_place k m there h)

  key_of : (es : List (ℕ × ℕ)) (n : ℕ) → find nat_cmp time es ≡ Some n → IsAmong (keys_of es) time
  key_of [] n h = absurd (some_none n (sym h))
  key_of (e ∷ es) n h = go (eq_by_cmp nat_cmp time e.0) refl (λ k. key_of es n k) h
    where
      go : (b : Bool) → eq_by_cmp nat_cmp time e.0 ≡ b → (find nat_cmp time es ≡ Some n → IsAmong (keys_of es) time) → cond b (Some e.1) (find nat_cmp time es) ≡ Some n → IsAmong (e.0 ∷ keys_of es) time
      go true eq ih k = (0, ap (λ t. Some t) (nat_tied time e.0 eq))
      go false eq ih k = let rest = ih k in (suc rest.0, rest.1)

  -- its moment is among those of the snapshots
  pub moment_there : (m : ℕ) → slice_get records m ≡ Some (Snap time) → IsAmong (keys_of (snapshots_of records)) time
  moment_there m h = key_of (snapshots_of records) (suc m) (snap_is time owner records is.fitting ∙ position_at m h)

-- ---- both are the same

module _ (owner snap_user : List ℕ) (records : List Rec) (is : IsLog owner records) (q : PathName) where
  abbrev Moments : List ℕ
  Moments = keys_of (snapshots_of records)

  at_first : (s : Shown) (first : IsFirst snap_user records q (length records) s) → bearing_at snap_user records q s.time ≡ Some s
  at_first s first =
      ap (λ b. if b then option_map (λ position. record { position = position; time = s.time }) (snap_at records s.time) else None) first.bears
      ∙ ap (option_map (λ position. record { position = position; time = s.time })) (position_at owner records is s.time first.place first.takes)
      ∙ ap (λ n. Some (record { position = n; time = s.time })) (sym first.position)

  -- what is found at a moment is a snapshot that bears on the path
  record IsThere (s : Shown) : Type 0 where
    place : ℕ
    takes : slice_get records place ≡ Some (Snap s.time)
    position : s.position ≡ suc place
    bears : bears_on snap_user q s.time ≡ true

  there_at : (time : ℕ) (s : Shown) → bearing_at snap_user records q time ≡ Some s → IsThere s
  there_at time s h = go (bears_on snap_user q time) refl h
    where
      by : (o : Option ℕ) → snap_at records time ≡ o → bears_on snap_user q time ≡ true → option_map (λ position. record { position = position; time = time }) o ≡ Some s → IsThere s
      by None e bears k = absurd (some_none s (sym k))
      by (Some n) e bears k =
          let found = at_position owner records is time n e in
          subst IsThere (some_same (record { position = n; time = time }) s k) (record { place = found.0; takes = found.2; position = found.1; bears = bears })

      go : (b : Bool) → bears_on snap_user q time ≡ b → (if b then option_map (λ position. record { position = position; time = time }) (snap_at records time) else None) ≡ Some s → IsThere s
      go false e k = absurd (some_none s (sym k))
      go true e k = by (snap_at records time) refl e k

  from_first : (s f : Shown) → fold (λ first time. sooner first (bearing_at snap_user records q time)) None Moments ≡ Some s → first_to snap_user records q (length records) ≡ Some f → s ≡ f
  from_first s f least first =
      let is_first = first_is snap_user records q (length records) f first in
      let key = moment_there owner records is f.time is_first.place is_first.takes in
      let low = least_low snap_user records q Moments None key.0 f.time f key.1 (at_first f is_first) in
      let same : low.found ≡ s = some_same low.found s (sym low.is ∙ least) in
      let there = elim (least_from snap_user records q Moments None s least) as (λ _. IsThere s) [ inl none ↦ absurd (some_none s (sym none)) | inr found ↦ there_at found.0 s found.3 ] in
      let back = first_low snap_user records q (length records) there.place s.time (slice_get_within records there.place (Snap s.time) there.takes) there.takes there.bears in
      let again : back.found ≡ f = some_same back.found f (sym back.is ∙ first) in
      let p : low.found.position ≡ s.position = ap (λ (x : Shown). x.position) same in
      let r : back.found.position ≡ f.position = ap (λ (x : Shown). x.position) again in
      let places : there.place ≡ is_first.place = omega (arith, p, r, low.low, back.low, there.position, is_first.position) in
      let records_same : Some (Snap s.time) ≡ Some (Snap f.time) = sym there.takes ∙ ap (slice_get records) places ∙ is_first.takes in
      let times : s.time ≡ f.time = time_same s.time f.time (some_same (Snap s.time) (Snap f.time) records_same) in
      ap (λ n. record { position = n; time = s.time }) (there.position ∙ ap suc places ∙ sym is_first.position)
      ∙ ap (λ t. record { position = f.position; time = t }) times

  pub least_is : least_to snap_user records q Moments ≡ first_to snap_user records q (length records)
  unfolding least_to
  least_is = go (fold (λ first time. sooner first (bearing_at snap_user records q time)) None Moments) refl (first_to snap_user records q (length records)) refl
    where
      go : (a : Option Shown) → fold (λ first time. sooner first (bearing_at snap_user records q time)) None Moments ≡ a → (b : Option Shown) → first_to snap_user records q (length records) ≡ b → a ≡ b
      go None e None f = refl
      go (Some s) e (Some g) f = ap (λ x. Some x) (from_first s g e f)
      go None e (Some g) f =
          let is_first = first_is snap_user records q (length records) g f in
          let key = moment_there owner records is g.time is_first.place is_first.takes in
          let low = least_low snap_user records q Moments None key.0 g.time g key.1 (at_first g is_first) in
          absurd (some_none low.found (sym low.is ∙ e))
      go (Some s) e None f =
          let there = elim (least_from snap_user records q Moments None s e) as (λ _. IsThere s) [ inl none ↦ absurd (some_none s (sym none)) | inr found ↦ there_at found.0 s found.3 ] in
          let back = first_low snap_user records q (length records) there.place s.time (slice_get_within records there.place (Snap s.time) there.takes) there.takes there.bears in
          absurd (some_none back.found (sym back.is ∙ f))

  -- ---- a path that tells its moment

  module _ (long : 4 ≤ length q.elements) (found : Option ℕ) (read : IsRead (λ time. time) q found) where
    read_first : (s : Shown) → first_to snap_user records q (length records) ≡ Some s → found ≡ Some s.time
    read_first s h =
        let first = first_is snap_user records q (length records) s h in
        read snap_user s.time (calendar owner records is q first.place s.time first.takes) (below_if snap_user s.time q long first.bears)

    pub read_some : (time : ℕ) → found ≡ Some time → sooner None (bearing_at snap_user records q time) ≡ first_to snap_user records q (length records)
    read_some time h = go (bearing_at snap_user records q time) refl (first_to snap_user records q (length records)) refl
      where
        go : (a : Option Shown) → bearing_at snap_user records q time ≡ a → (b : Option Shown) → first_to snap_user records q (length records) ≡ b → a ≡ b
        go a e (Some s) f =
            let first = first_is snap_user records q (length records) s f in
            let same : time ≡ s.time = some_same time s.time (sym h ∙ read_first s f) in
            sym e ∙ ap (bearing_at snap_user records q) same ∙ at_first s first
        go None e None f = refl
        go (Some s) e None f =
            let there = there_at time s e in
            let back = first_low snap_user records q (length records) there.place s.time (slice_get_within records there.place (Snap s.time) there.takes) there.takes there.bears in
            absurd (some_none back.found (sym back.is ∙ f))

    pub read_none : found ≡ None → None ≡ first_to snap_user records q (length records)
    read_none h = go (first_to snap_user records q (length records)) refl
      where
        go : (b : Option Shown) → first_to snap_user records q (length records) ≡ b → ◌≡◌ {A = Option Shown} None b
        go None f = refl
        go (Some s) f = absurd (some_none s.time (sym (read_first s f) ∙ h))

  -- a moment of a snapshot is one that snapshots may have
  pub moment_in : (i time : ℕ) → slice_get Moments i ≡ Some time → time < 253402207200
  moment_in i time h =
      let some = found_key (snapshots_of records) i h in
      let found = at_position owner records is time some.0 (sym (snap_is time owner records is.fitting) ∙ some.1) in
      (is.fitting.each found.0 (Snap time) found.2).calendar
    where
      found_key : (es : List (ℕ × ℕ)) (i : ℕ) → slice_get (keys_of es) i ≡ Some time → (n : ℕ) × (find nat_cmp time es ≡ Some n)
      found_key [] i h = absurd (some_none time (sym h))
      found_key (e ∷ es) i h = go (eq_by_cmp nat_cmp time e.0) refl i h (λ j k. found_key es j k)
        where
          go : (b : Bool) → eq_by_cmp nat_cmp time e.0 ≡ b → (i : ℕ) → slice_get (e.0 ∷ keys_of es) i ≡ Some time → ((j : ℕ) → slice_get (keys_of es) j ≡ Some time → (n : ℕ) × (find nat_cmp time es ≡ Some n)) →
              (n : ℕ) × (cond (eq_by_cmp nat_cmp time e.0) (Some e.1) (find nat_cmp time es) ≡ Some n)
          go true eq i k ih = (e.1, ap (λ b. cond b (Some e.1) (find nat_cmp time es)) eq)
          go false eq zero k ih = absurd (false≢true (sym eq ∙ ap (eq_by_cmp nat_cmp time) (some_same e.0 time k) ∙ nat_itself time))
          go false eq (suc j) k ih = let rest = ih j k in (rest.0, ap (λ b. cond b (Some e.1) (find nat_cmp time es)) eq ∙ rest.1)

-- ---- one moment more

module _ (snap_user : List ℕ) (records : List Rec) (q : PathName) where
  pub least_none : None ≡ least_to snap_user records q []
  unfolding least_to
  least_none = refl

  pub least_next : (times : List ℕ) (i time : ℕ) (first : Option Shown) → slice_get times i ≡ Some time → first ≡ least_to snap_user records q (take i times) →
      sooner first (bearing_at snap_user records q time) ≡ least_to snap_user records q (take (i + 1) times)
  unfolding least_to
  least_next times i time first there so_far =
      ap (λ f. sooner f (bearing_at snap_user records q time)) so_far
      ∙ sym (ap (fold (λ f t. sooner f (bearing_at snap_user records q t)) None) (ap (λ n. take n times) (let e : i + 1 ≡ suc i = omega arith in e) ∙ take_next i times time there)
      ∙ fold-append (λ f t. sooner f (bearing_at snap_user records q t)) None (take i times) (time ∷ []))

  pub least_all : (times : List ℕ) (i : ℕ) → slice_get times i ≡ None → least_to snap_user records q (take i times) ≡ least_to snap_user records q times
  least_all times i none = ap (least_to snap_user records q) (past times i none)
    where
      past : (xs : List ℕ) (i : ℕ) → slice_get xs i ≡ None → take i xs ≡ xs
      past [] zero e = refl
      past [] (suc i) e = refl
      past (x ∷ xs) zero e = absurd (some_none x e)
      past (x ∷ xs) (suc i) e = ap (λ ys. x ∷ ys) (past xs i e)
