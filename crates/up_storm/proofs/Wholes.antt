-- The tree of a storm's sessions once all have ended: each further record is one of one session's, so what each session came to is its course.
use Rattle.std.proofs.Common.{◌≡◌, ◌≢◌, ℕ, zero, suc, ◌+◌, ◌-◌, ◌%◌, ◌<◌, ◌≤◌, Bool, true, false, not, cond, ◌&&◌, ◌||◌, List, [], ◌∷◌, ◌++◌, length, take, refl, sym, ap, subst, ◌∙◌, ◌⊎◌, inl, inr, arith, Some, None, is_some}
use Rattle.std.specs.Prelude.{◌==◌, decimal, filter, slice_get}
use Rattle.std.specs.FinMap.Entries.{find, length-put, length_without}
use Rattle.std.specs.Ordering.{eq_by_cmp}
use Rattle.std.proofs.Math.Seq.{take-length}
use Rattle.std.proofs.lemmas.Bool.{cases_lt}
use Rattle.std.proofs.lemmas.Bool.Decides.{nat_tests}
use Rattle.std.proofs.lemmas.List.{length-take-le}
use Rattle.up_cell.proofs.Sums.{above-no, above-yes, times-append, times-positions}
use Rattle.up_cell.specs.Positions.{above, between, times}
use Rattle.up_entry.specs.declared.entries.Entry.{Entry}
use Rattle.up_entry.specs.declared.entries.Kind.TheVariants.{File}
use Rattle.up_entry.specs.declared.records.Rec.{Rec}
use Rattle.up_entry.specs.declared.records.Rec.TheVariants.{Delete, Put}
use Rattle.up_log_tree.proofs.Fronts.{take_next}
use Rattle.up_log_tree.proofs.Trees.{tree_of-push, tree_sorted}
use Rattle.up_log_tree.specs.Rights.{access_node}
use Rattle.up_log_tree.specs.Trees.{Tree, after_record, kind_of, node_at, tree_of}
use Rattle.up_log_tree.specs.declared.node.Node.{Node}
use Rattle.up_names.specs.PathNames.{PathName}
use Rattle.up_names.specs.PathOrder.{path_cmp, path_eq}
use Rattle.up_names.specs.PathOrderLaws.{path_cmp_eq, path_cmp_total}
use Rattle.up_names.specs.Texts.{Text, UserName}
use Rattle.up_plots.proofs.PlotChanges.{file_record}
use Rattle.up_plots.specs.Asks.{new_file}
use Rattle.up_plots.specs.Plots.{HasPlot, IsFlat, file_path, plot_path}
use Rattle.up_storm.proofs.Counts.{added_change, added_none, added_same, added_some, count_below, count_change, count_none, count_same, one_if, set_requests, set_unbegun}
use Rattle.up_storm.proofs.Courses.{AllWent, Ended, all_grow, course_is, small_draw, stays_between}
use Rattle.up_storm.proofs.Effects.{AddsFile, adds_file, request_went}
use Rattle.up_storm.proofs.Grounds.{Ground, IsFileRec, ground_next, path_at, stands_gone, stands_in, stands_put, stands_still}
use Rattle.up_storm.proofs.Readings.{file_name, owner_same}
use Rattle.up_storm.proofs.Tracing.{AllAnswered}
use Rattle.up_storm.specs.Asked.{owner_text, user_text}
use Rattle.up_storm.specs.Generator.{drawn_of, first_number, next_number}
use Rattle.up_storm.specs.Summary.{added_up, course_of, is_there, unbegun}
use Rattle.up_storm.specs.Telling.{none_counted}
use Rattle.up_storm.specs.declared.plan.Plan.{Plan}
use Rattle.up_storm.specs.declared.tally.Tally.{Tally}

-- the session's run over the whole log, from the end of what was prepared on
pub record RunOf (log : List Rec) (plan : Plan) (base k : ℕ) (own : List ℕ) : Type 0 where
  pub to : ℕ
  pub within : to ≤ length log
  pub tally : Tally
  pub answered : AllAnswered log k plan.requests (first_number plan.seed k) base to [] own none_counted tally

-- What is known of the tree of session c: what was prepared, each session's run, and that the further records are exactly all own ones.
pub record TreeRuns (plan : Plan) (c : ℕ) (log : List Rec) (base : ℕ) (own : ℕ → List ℕ) : Type 0 where
  pub most : plan.sessions ≤ 32
  pub long : length log ≤ 140000
  pub based : base ≤ length log
  pub ground : Ground c plan.sessions (take base log)
  pub empty : (k j : ℕ) → k < 34 → k % 2 ≡ c % 2 → j < 16 → stands_in log k base j ≡ false
  pub runs : (k : ℕ) → k < plan.sessions → k % 2 ≡ c % 2 → RunOf log plan base k (own k)
  pub others : (k : ℕ) → k < plan.sessions → k % 2 ≢ c % 2 → own k ≡ []
  pub every : (z : ℕ) → added_up (λ k. true) (λ k. times z (own k)) 0 plan.sessions ≡ times z (between base (length log))

-- ---- whose each further record is

-- a record of one session
pub record IsOf (log : List Rec) (sessions c : ℕ) (own : ℕ → List ℕ) (m : ℕ) : Type 0 where
  pub k : ℕ
  pub low : k < sessions
  pub tree : k % 2 ≡ c % 2
  pub file : ℕ
  pub small : file < 16
  pub rec : Rec
  pub there : slice_get log m ≡ Some rec
  pub is : IsFileRec k file m rec
  pub mine : 0 < times (m + 1) (own k)

-- what a session's own position came by
record CameBy (log : List Rec) (k z : ℕ) : Type 0 where
  m : ℕ
  at : m + 1 ≡ z
  file : ℕ
  small : file < 16
  rec : Rec
  there : slice_get log m ≡ Some rec
  is : IsFileRec k file m rec

one_position : (z m : ℕ) → 0 < times z ((m + 1) ∷ []) → m + 1 ≡ z
one_position z m h = grind (arith, nat_tests)

came_by : (log : List Rec) (k : ℕ) → k < 32 → (n x from to : ℕ) (own final : List ℕ) (t u : Tally) → AllAnswered log k n x from to own final t u → (z : ℕ) → 0 < times z final
    → (0 < times z own) ⊎ CameBy log k z
came_by log k less zero x from to own final t u h z some = inl (subst (λ (xs : List ℕ). 0 < times z xs) h.1 some)
came_by log k less (suc n) x from to own final t u h z some = elim (came_by log k less n (next_number x) h.0 to h.1 final h.2 u h.4 z some) [
  | inr found ↦ inr found
  | inl before ↦ elim (adds_file log k from h.0 own h.1 t h.2 less (drawn_of (next_number x)).file (small_draw (next_number x)) (drawn_of (next_number x)).wish h.3) [
    | inl same ↦ inl (subst (λ (xs : List ℕ). 0 < times z xs) same before)
    | inr adds ↦ by adds (subst (λ (xs : List ℕ). 0 < times z xs) adds.own_is before)
  ]
]
  where
    by : (adds : AddsFile log k (drawn_of (next_number x)).file h.3.position h.0 own h.1) → 0 < times z (own ++ (h.3.position + 1) ∷ []) → (0 < times z own) ⊎ CameBy log k z
    by adds there = elim (cases_lt 0 (times z own)) [
      | inl old ↦ inl old
      | inr none ↦
          let sum = times-append z own ((h.3.position + 1) ∷ []) in
          inr (record {
            m = h.3.position;
            at = one_position z h.3.position (omega (arith, sum, there, none));
            file = (drawn_of (next_number x)).file;
            small = small_draw (next_number x);
            rec = adds.rec;
            there = adds.there;
            is = adds.is;
          })
    ]

module _ (plan : Plan) (c : ℕ) (log : List Rec) (base : ℕ) (own : ℕ → List ℕ) (t : TreeRuns plan c log base own) where
  -- a position above the base is an own one
  counted_once : (m : ℕ) → base ≤ m → m < length log → times (m + 1) (between base (length log)) ≡ 1
  counted_once m low high =
      let based = t.based in
      let e : base + (length log - base) ≡ length log = omega (arith, based) in
      let sum = times-positions (m + 1) base (length log - base) in
      let here = above-yes base (m + 1) (omega (arith, low)) in
      let end : above (base + (length log - base)) (m + 1) ≡ 0 = above-no (base + (length log - base)) (m + 1) (omega (arith, high, e)) in
      omega (arith, sum, here, end)

  pub is_of : (m : ℕ) → base ≤ m → m < length log → IsOf log plan.sessions c own m
  is_of m low high =
      let one = counted_once m low high in
      let all = t.every (m + 1) in
      let some = added_some (λ k. times (m + 1) (own k)) 0 plan.sessions (omega (arith, one, all)) in
      by some.one (let below = some.below in omega (arith, below)) some.some
    where
      by : (k : ℕ) → k < plan.sessions → 0 < times (m + 1) (own k) → IsOf log plan.sessions c own m
      by k less mine = elim (same_tree (k % 2) (c % 2)) [
        | inr apart ↦ absurd (let none = ap (λ (xs : List ℕ). times (m + 1) xs) (t.others k less apart) in omega (arith, mine, none))
        | inl tree ↦
            let run = t.runs k less tree in
            elim (came_by log k (let most = t.most in omega (arith, less, most)) plan.requests (first_number plan.seed k) base run.to [] (own k) none_counted run.tally run.answered (m + 1) mine) [
              | inl none ↦ absurd (omega (arith, none))
              | inr came ↦
                  let at = came.at in
                  let e : came.m ≡ m = omega (arith, at) in
                  record {
                    k = k;
                    low = less;
                    tree = tree;
                    file = came.file;
                    small = came.small;
                    rec = came.rec;
                    there = sym (ap (λ (n : ℕ). slice_get log n) e) ∙ came.there;
                    is = subst (λ (n : ℕ). IsFileRec k came.file n came.rec) e came.is;
                    mine = mine;
                  }
            ]
      ]
        where
          same_tree : (a b : ℕ) → (a ≡ b) ⊎ (a ≢ b)
          same_tree a b = go (a == b) refl
            where
              yes_same : a == b ≡ true → a ≡ b
              yes_same h = grind (arith, nat_tests)

              no_same : a == b ≡ false → a ≢ b
              no_same h e = grind (arith, nat_tests)

              go : (d : Bool) → a == b ≡ d → (a ≡ b) ⊎ (a ≢ b)
              go true h = inl (yes_same h)
              go false h = inr (no_same h)

  -- ---- the tree stays what it was prepared as

  ground_on : (d : ℕ) → base + d ≤ length log → Ground c plan.sessions (take (base + d) log)
  ground_on zero h = let e : base + 0 ≡ base = omega arith in subst (λ (n : ℕ). Ground c plan.sessions (take n log)) (sym e) t.ground
  ground_on (suc d) h =
      let before = ground_on d (omega (arith, h)) in
      let owned = is_of (base + d) (omega arith) (omega (arith, h)) in
      let e : base + suc d ≡ suc (base + d) = omega arith in
      let most = t.most in
      let low = owned.low in
      let long : length (take (base + d) log) ≡ base + d = length-take-le (base + d) log (omega (arith, h)) in
      subst (λ (n : ℕ). Ground c plan.sessions (take n log)) (sym e)
      (subst (λ (rs : List Rec). Ground c plan.sessions rs) (sym (take_next (base + d) log owned.rec owned.there))
      (ground_next c plan.sessions (take (base + d) log) owned.rec owned.k owned.file before (omega (arith, low, most)) owned.small owned.tree
      (subst (λ (n : ℕ). IsFileRec owned.k owned.file n owned.rec) (sym long) owned.is)))

  pub ground_at : (n : ℕ) → base ≤ n → n ≤ length log → Ground c plan.sessions (take n log)
  ground_at n low high =
      let e : base + (n - base) ≡ n = omega (arith, low) in
      subst (λ (m : ℕ). Ground c plan.sessions (take m log)) e (ground_on (n - base) (omega (arith, e, high)))

-- the ground of one session is that of each other of the tree
ground_for : (c k sessions : ℕ) (records : List Rec) → k % 2 ≡ c % 2 → Ground c sessions records → Ground k sessions records
ground_for c k sessions records tree g =
    let owner : owner_text c ≡ owner_text k = owner_same c k (sym tree) in
    record {
      flat = subst (λ (o : UserName). IsFlat o (tree_of records)) owner g.flat;
      plots = λ m low same. subst (λ (o : UserName). HasPlot o (tree_of records) (decimal m) (user_text m)) owner (g.plots m low (same ∙ tree));
      bare = λ m high low. subst (λ (o : UserName). access_node (tree_of records) (plot_path o (decimal m)) ≡ None) owner (g.bare m high low);
      files = λ name j node. subst (λ (o : UserName). node_at (tree_of records) (file_path o name (file_name j)) ≡ Some node → kind_of node ≡ File) owner (g.files name j node);
      slight = g.slight;
      slight_tree = g.slight_tree;
      few = g.few;
    }

module _ (plan : Plan) (c : ℕ) (log : List Rec) (base : ℕ) (own : ℕ → List ℕ) (t : TreeRuns plan c log base own) (k : ℕ) (less : k < plan.sessions) (tree : k % 2 ≡ c % 2) where
  low_number : k < 34
  low_number = let most = t.most in omega (arith, less, most)

  all_went : (n x from to : ℕ) (before after : List ℕ) (u v : Tally) → AllAnswered log k n x from to before after u v → base ≤ from → AllWent (stands_in log k) n x from to before after u v
  all_went zero x from to before after u v h low = h
  all_went (suc n) x from to before after u v h low =
      let a = h.3 in
      let reach = a.low in
      let end = a.high in
      let within = a.within in
      let ground = ground_for c k plan.sessions (take a.position log) tree (ground_at plan c log base own t a.position (omega (arith, low, reach)) (omega (arith, end, within))) in (
        h.0,
        h.1,
        h.2,
        request_went log k from h.0 before h.1 u h.2 plan.sessions less t.most t.long (drawn_of (next_number x)).file (small_draw (next_number x)) (drawn_of (next_number x)).wish a ground,
        all_went n (next_number x) h.0 to h.1 after h.2 v h.4 (omega (arith, low, reach, end)),
      )

  -- a record that is no own one leaves the session's files
  still : (m : ℕ) → base ≤ m → m < length log → times (m + 1) (own k) ≡ 0 → (i : ℕ) → i < 16 → stands_in log k (m + 1) i ≡ stands_in log k m i
  still m low high none i small =
      let owned = is_of plan c log base own t m low high in
      let most = t.most in
      let below = owned.low in
      let mine = owned.mine in
      stands_still log m k low_number owned.k owned.file m owned.rec (omega (arith, below, most))
      (λ same. let here : times (m + 1) (own owned.k) ≡ times (m + 1) (own k) = ap (λ (n : ℕ). times (m + 1) (own n)) same in omega (arith, here, mine, none)) owned.there owned.is i

  abbrev run : RunOf log plan base k (own k)
  run = t.runs k less tree

  pub has_ended : Ended (stands_in log k) unbegun (course_of plan k) run.to [] (own k) run.tally
  has_ended =
      course_is (stands_in log k) base (length log) (own k) still plan.requests (first_number plan.seed k) base run.to [] none_counted run.tally unbegun
      (all_went plan.requests (first_number plan.seed k) base run.to [] (own k) none_counted run.tally run.answered (omega arith))
      (omega arith) run.within (record { none = λ y far. refl }) refl (record { same = λ i small. t.empty k i low_number tree small })

  pub records_is : length (own k) ≡ (course_of plan k).records
  records_is = let e = has_ended in let r = e.records in omega (arith, r)

  pub tally_is : run.tally ≡ (course_of plan k).tally
  tally_is = has_ended.tally

  -- the files that stand in the end
  pub files_are : (i : ℕ) → i < 16 → stands_in log k (length log) i ≡ is_there (course_of plan k).files i
  files_are i small =
      let based = t.based in
      let e = has_ended in
      let grown = all_grow (stands_in log k) plan.requests (first_number plan.seed k) base run.to [] (own k) none_counted run.tally
      (all_went plan.requests (first_number plan.seed k) base run.to [] (own k) none_counted run.tally run.answered (omega arith)) in
      let far = grown.0 in
      stays_between (stands_in log k) base (length log) (own k) still run.to (length log) far run.within (omega arith) (λ m a b. e.below.none (m + 1) (omega (arith, a))) i small
      ∙ e.files.same i small

  pub count_is : count_below (stands_in log k (length log)) 16 ≡ length (course_of plan k).files
  count_is =
      count_same (stands_in log k (length log)) (is_there (course_of plan k).files) 16 files_are
      ∙ sym (set_requests plan.requests (first_number plan.seed k) unbegun set_unbegun).many

-- ---- how many items the tree has

filter_same : {X : Type 0} (f g : X → Bool) (xs : List X) → ((x : X) → f x ≡ g x) → filter f xs ≡ filter g xs
filter_same f g [] same = refl
filter_same {X} f g (x ∷ xs) same = ap (λ (b : Bool). cond b (x ∷ filter f xs) (filter f xs)) (same x) ∙ ap (λ (ys : List X). cond (g x) (x ∷ ys) ys) (filter_same f g xs same)

rows_put : (records : List Rec) (entry : Entry) (text : Text) → length (after_record (tree_of records) (Put entry text)) + one_if (is_some (node_at (tree_of records) entry.name)) ≡ length (tree_of records) + 1
unfolding after_record node_at
rows_put records entry text =
    let size = length-put path_cmp path_cmp_total entry.name (record { entry = entry; text = text }) (tree_of records) (tree_sorted records) in
    go (is_some (find path_cmp entry.name (tree_of records))) size
  where
    go : (b : Bool) → length (after_record (tree_of records) (Put entry text)) ≡ cond b (length (tree_of records)) (length (tree_of records) + 1)
        → length (after_record (tree_of records) (Put entry text)) + one_if b ≡ length (tree_of records) + 1
    go true size = omega (arith, size)
    go false size = omega (arith, size)

rows_delete : (records : List Rec) (path : PathName) → length (after_record (tree_of records) (Delete path)) + one_if (is_some (node_at (tree_of records) path)) ≡ length (tree_of records)
unfolding after_record node_at
rows_delete records path =
    let size = length_without path_cmp path_cmp_total path (tree_of records) (tree_sorted records) in
    let same : length (filter (λ (item : PathName × Node). not (path_eq path item.0)) (tree_of records)) ≡ length (filter (λ (item : PathName × Node). not (eq_by_cmp path_cmp path item.0)) (tree_of records))
    = ap (λ (es : Tree). length es) (filter_same (λ (item : PathName × Node). not (path_eq path item.0)) (λ (item : PathName × Node). not (eq_by_cmp path_cmp path item.0)) (tree_of records) (λ item. ap not (path_cmp_eq path item.0))) in
    omega (arith, size, same)

itself : (a : ℕ) → a == a ≡ true
itself a = grind (arith, nat_tests)

other : (a b : ℕ) → b ≢ a → a == b ≡ false
other a b apart = grind (arith, nat_tests)

module _ (plan : Plan) (c : ℕ) (is_in : ℕ → Bool) (inside : (k : ℕ) → is_in k ≡ true → k % 2 ≡ c % 2) (within : (k : ℕ) → k % 2 ≡ c % 2 → is_in k ≡ true)
    (log : List Rec) (base : ℕ) (own : ℕ → List ℕ) (t : TreeRuns plan c log base own) where
  -- how many files of the tree's sessions stand over the first n records
  abbrev files_at : ℕ → ℕ
  files_at n = added_up is_in (λ k. count_below (stands_in log k n) 16) 0 plan.sessions

  -- one record changes both numbers alike
  rows_step : (n : ℕ) → base ≤ n → n < length log → length (tree_of (take n log)) ≡ length (tree_of (take base log)) + files_at n → length (tree_of (take (n + 1) log)) ≡ length (tree_of (take base log)) + files_at (n + 1)
  rows_step n low high h =
      let owned = is_of plan c log base own t n low high in
      by owned owned.is
    where
      next : (rec : Rec) → slice_get log n ≡ Some rec → tree_of (take (n + 1) log) ≡ after_record (tree_of (take n log)) rec
      next rec is =
          let e : n + 1 ≡ suc n = omega arith in
          ap (λ (m : ℕ). tree_of (take m log)) e ∙ ap tree_of (take_next n log rec is) ∙ tree_of-push (take n log) rec

      below34 : (k : ℕ) → k < plan.sessions → k < 34
      below34 k less = let most = t.most in omega (arith, less, most)

      -- the numbers of the other sessions stay
      others : (owned : IsOf log plan.sessions c own n) (m : ℕ) → m ≢ owned.k → m < plan.sessions → count_below (stands_in log m (n + 1)) 16 ≡ count_below (stands_in log m n) 16
      others owned m apart less =
          count_same (stands_in log m (n + 1)) (stands_in log m n) 16
          (λ i small. stands_still log n m (below34 m less) owned.k owned.file n owned.rec (below34 owned.k owned.low) (λ same. apart (sym same)) owned.there owned.is i)

      sums : (owned : IsOf log plan.sessions c own n) (a b : ℕ) → count_below (stands_in log owned.k (n + 1)) 16 + a ≡ count_below (stands_in log owned.k n) 16 + b → files_at (n + 1) + a ≡ files_at n + b
      sums owned a b change =
          added_change is_in (λ k. count_below (stands_in log k n) 16) (λ k. count_below (stands_in log k (n + 1)) 16) owned.k a b 0 plan.sessions (omega arith) (let less = owned.low in omega (arith, less))
          (within owned.k owned.tree) change (λ m apart less. others owned m apart (omega (arith, less)))

      by : (owned : IsOf log plan.sessions c own n) → IsFileRec owned.k owned.file n owned.rec → length (tree_of (take (n + 1) log)) ≡ length (tree_of (take base log)) + files_at (n + 1)
      by owned (inl put) =
          let there : slice_get log n ≡ Some (file_record (user_text owned.k) (path_at owned.k owned.file) n) = owned.there ∙ ap (λ (r : Rec). Some r) put in
          let after = stands_put log n owned.k (below34 owned.k owned.low) owned.file n owned.small there in
          let here : stands_in log owned.k (n + 1) owned.file ≡ true = after owned.file owned.small ∙ ap (λ (b : Bool). b || stands_in log owned.k n owned.file) (itself owned.file) in
          let change = count_change (stands_in log owned.k n) (stands_in log owned.k (n + 1)) owned.file 16 owned.small (λ i small apart. after i small ∙ ap (λ (b : Bool). b || stands_in log owned.k n i) (other owned.file i apart)) in
          let one : one_if (stands_in log owned.k (n + 1) owned.file) ≡ 1 = ap one_if here in
          let sum = sums owned (one_if (stands_in log owned.k n owned.file)) 1 (omega (arith, change, one)) in
          let tree_is : length (tree_of (take (n + 1) log)) ≡ length (after_record (tree_of (take n log)) (file_record (user_text owned.k) (path_at owned.k owned.file) n)) = ap (λ (s : Tree). length s) (next (file_record (user_text owned.k) (path_at owned.k owned.file) n) there) in
          let put_rows = rows_put (take n log) (record ((new_file (user_text owned.k) (path_at owned.k owned.file)).entry) { sequence = n + 1 }) [] in
          omega (arith, sum, put_rows, tree_is, h)
      by owned (inr gone) =
          let there : slice_get log n ≡ Some (Delete (path_at owned.k owned.file)) = owned.there ∙ ap (λ (r : Rec). Some r) gone in
          let after = stands_gone log n owned.k (below34 owned.k owned.low) owned.file owned.small there in
          let here : stands_in log owned.k (n + 1) owned.file ≡ false = after owned.file owned.small ∙ ap (λ (b : Bool). not b && stands_in log owned.k n owned.file) (itself owned.file) in
          let change = count_change (stands_in log owned.k n) (stands_in log owned.k (n + 1)) owned.file 16 owned.small (λ i small apart. after i small ∙ ap (λ (b : Bool). not b && stands_in log owned.k n i) (other owned.file i apart)) in
          let none : one_if (stands_in log owned.k (n + 1) owned.file) ≡ 0 = ap one_if here in
          let sum = sums owned (one_if (stands_in log owned.k n owned.file)) 0 (omega (arith, change, none)) in
          let tree_is : length (tree_of (take (n + 1) log)) ≡ length (after_record (tree_of (take n log)) (Delete (path_at owned.k owned.file))) = ap (λ (s : Tree). length s) (next (Delete (path_at owned.k owned.file)) there) in
          let rows = rows_delete (take n log) (path_at owned.k owned.file) in
          omega (arith, sum, rows, tree_is, h)

  no_files : files_at base ≡ 0
  no_files = added_same is_in (λ k. count_below (stands_in log k base) 16) (λ k. 0) 0 plan.sessions (λ m low high inside'. count_same (stands_in log m base) (λ i. false) 16 (λ i small. t.empty m i (let most = t.most in omega (arith, high, most)) (inside m inside') small) ∙ count_none 16) ∙ added_none is_in 0 plan.sessions

  rows_on : (d : ℕ) → base + d ≤ length log → length (tree_of (take (base + d) log)) ≡ length (tree_of (take base log)) + files_at (base + d)
  rows_on zero h =
      let e : base + 0 ≡ base = omega arith in
      let a : length (tree_of (take (base + 0) log)) ≡ length (tree_of (take base log)) = ap (λ (n : ℕ). length (tree_of (take n log))) e in
      let b : files_at (base + 0) ≡ 0 = ap files_at e ∙ no_files in
      omega (arith, a, b)
  rows_on (suc d) h =
      let e : base + suc d ≡ (base + d) + 1 = omega arith in
      ap (λ (n : ℕ). length (tree_of (take n log))) e ∙ rows_step (base + d) (omega arith) (omega (arith, h)) (rows_on d (omega (arith, h))) ∙ sym (ap (λ (n : ℕ). length (tree_of (take base log)) + files_at n) e)

  -- the rows of the whole tree
  pub rows_are : length (tree_of log) ≡ length (tree_of (take base log)) + added_up is_in (λ k. length (course_of plan k).files) 0 plan.sessions
  rows_are =
      let based = t.based in
      let e : base + (length log - base) ≡ length log = omega (arith, based) in
      let all : take (length log) log ≡ log = take-length log in
      sym (ap (λ (rs : List Rec). length (tree_of rs)) (ap (λ (n : ℕ). take n log) e ∙ all)) ∙ rows_on (length log - base) (omega (arith, e))
      ∙ ap (λ (n : ℕ). length (tree_of (take base log)) + files_at n) e
      ∙ ap (λ (n : ℕ). length (tree_of (take base log)) + n)
      (added_same is_in (λ k. count_below (stands_in log k (length log)) 16) (λ k. length (course_of plan k).files) 0 plan.sessions
      (λ m low high inside'. count_is plan c log base own t m (omega (arith, high)) (inside m inside')))
