-- The tree of session c once a storm has ended: its log, its items, and what each of its sessions counted are those of the sessions' courses.
use Rattle.std.proofs.Common.{◌≡◌, ◌≢◌, ℕ, zero, suc, ◌+◌, ◌-◌, ◌%◌, ◌<◌, ◌≤◌, Bool, true, false, List, [], ◌∷◌, ◌++◌, length, refl, sym, ap, subst, ◌∙◌, ◌⊎◌, inl, inr, arith, length-append, Option, Some, None, is_some, slice_get, Ok}
use Rattle.std.specs.Prelude.{◌==◌, Result}
use Rattle.std.specs.Option.{option_map}
use Rattle.std.proofs.lemmas.Bool.Decides.{nat_tests}
use Rattle.std.proofs.lemmas.List.{take_all}
use Rattle.up_calls.specs.Views.{SeenTree, own_of}
use Rattle.up_cell.proofs.Sums.{times-merged}
use Rattle.up_cell.specs.Positions.{between, merged, positions, times}
use Rattle.up_disk.specs.declared.disk.Disk as disk
use Rattle.up_entry.specs.declared.records.Rec.{Rec}
use Rattle.up_host.specs.Alone.{HostState, views}
use Rattle.up_host.specs.Shares.{IsSharedHost}
use Rattle.up_journal.specs.declared.limits.Limits.{Limits}
use Rattle.up_lists.proofs.BeginsLemmas.{Begins-trans, length-Begins, take-Begins}
use Rattle.up_lists.specs.Begins.{Begins}
use Rattle.up_log_tree.specs.Trees.{node_at, tree_of}
use Rattle.up_names.specs.Texts.{UserName}
use Rattle.up_peer.specs.declared.loader.Loader.{Ghosts}
use Rattle.up_shared.specs.Sharing.{seat_for, tree_seen, views_of}
use Rattle.up_shared.specs.Splits.{AreWhole}
use Rattle.up_shared.specs.declared.shared.Seats.{Seats}
use Rattle.up_shared.specs.declared.shared.Shared.{Shared}
use Rattle.up_shared.specs.declared.shared.TreeSeat.{TreeSeat}
use Rattle.up_storm.proofs.Counts.{added_all, added_both, added_most, added_same, added_twos}
use Rattle.up_storm.proofs.Effects.{Recorded}
use Rattle.up_storm.proofs.Ends.{AllBegun, all_begun, own_at, owns, taken_begins, taken_counted}
use Rattle.up_storm.proofs.Grounds.{Ground, path_at, stands_in}
use Rattle.up_storm.proofs.Joins.{AtBoth, fresh, later_at_both, length_merged, none_some, own_in, seen_of, some_same}
use Rattle.up_storm.proofs.Readings.{owner_same, user_read}
use Rattle.up_storm.proofs.Starts.{StartsAt, begun_base, joined_base, place_is, starts_at, whole_at}
use Rattle.up_storm.proofs.Tracing.{AllAnswered, goes_on, own_elsewhere, traced}
use Rattle.up_storm.proofs.Wholeness.{ran_later}
use Rattle.up_storm.proofs.Wholes.{RunOf, TreeRuns, records_is, rows_are, tally_is}
use Rattle.up_storm.specs.Asked.{owner_text, user_text}
use Rattle.up_storm.specs.Generator.{first_number, next_number}
use Rattle.up_storm.specs.Preparing.{storm_limits}
use Rattle.up_storm.specs.Seating.{HasEnded, IsBegun, IsRead}
use Rattle.up_storm.specs.Sessions.{HasRun, Session}
use Rattle.up_storm.specs.Summary.{added_up, course_of}
use Rattle.up_storm.specs.Telling.{none_counted}
use Rattle.up_storm.specs.declared.plan.Plan.{Plan}
use Rattle.up_storm.specs.declared.session.Said.{Said}
use Rattle.up_storm.specs.declared.tally.Tally.{Tally}

-- whether session k works in the tree of session c
abbrev pub in_tree : ℕ → ℕ → Bool
in_tree c k = k % 2 == c % 2

-- What is known of the tree of session c of a host that was prepared for so many sessions: no file of a session stands, and for each session
-- of the tree there are two records and two items.
pub record IsPreparedTree {D : Type 0} (disks : disk.Ghosts D) (sessions c : ℕ) (host : HostState D) : Type 0 where
  pub view : SeenTree
  pub there : (views disks host).tree (owner_text c) ≡ Some view
  pub fixed : view.fixed ≡ (owner_text c, storm_limits)
  pub ground : Ground c sessions view.seen
  pub empty : (k j : ℕ) → k < 34 → k % 2 ≡ c % 2 → j < 16 → stands_in view.seen k (length view.seen) j ≡ false
  pub records : length view.seen ≡ 1 + added_up (in_tree c) (λ k. 2) 0 sessions
  pub rows : length (tree_of view.seen) ≡ 1 + added_up (in_tree c) (λ k. 2) 0 sessions

-- The log of the tree of session c has as many records, and its tree as many items, as the courses of the tree's sessions say.
pub record IsSummed (plan : Plan) (c : ℕ) (log : List Rec) : Type 0 where
  pub records : length log ≡ 1 + added_up (in_tree c) (λ k. 2 + (course_of plan k).records) 0 plan.sessions
  pub rows : length (tree_of log) ≡ 1 + added_up (in_tree c) (λ k. 2 + length (course_of plan k).files) 0 plan.sessions

-- ---- numbers

-- two numbers are one, or they are not
pub same_or_apart : (a b : ℕ) → (a ≡ b) ⊎ (a ≢ b)
same_or_apart a b = go (a == b) refl
  where
    yes_same : a == b ≡ true → a ≡ b
    yes_same h = grind (arith, nat_tests)

    no_same : a == b ≡ false → a ≢ b
    no_same h e = grind (arith, nat_tests)

    go : (d : Bool) → a == b ≡ d → (a ≡ b) ⊎ (a ≢ b)
    go true h = inl (yes_same h)
    go false h = inr (no_same h)

pub in_tree_yes : (c k : ℕ) → in_tree c k ≡ true → k % 2 ≡ c % 2
in_tree_yes c k h = grind (arith, nat_tests)

in_tree_no : (c k : ℕ) → in_tree c k ≡ false → k % 2 ≢ c % 2
in_tree_no c k h e = grind (arith, nat_tests)

pub in_tree_from : (c k : ℕ) → k % 2 ≡ c % 2 → in_tree c k ≡ true
in_tree_from c k h = grind (arith, nat_tests)

length_positions : (n k : ℕ) → length (positions n k) ≡ k
length_positions n zero = refl
length_positions n (suc k) = let rest = length_positions (n + 1) k in omega (arith, rest)

-- ---- lists

-- what stands at a place
record Has {X : Type 0} (xs : List X) (i : ℕ) : Type 0 where
  item : X
  there : slice_get xs i ≡ Some item

has_item : {X : Type 0} (xs : List X) (i : ℕ) → i < length xs → Has xs i
has_item [] i less = absurd (omega (arith, less))
has_item (x ∷ xs) zero less = record { item = x; there = refl }
has_item (x ∷ xs) (suc i) less = let rest = has_item xs i (omega (arith, less)) in record { item = rest.item; there = rest.there }

get_below : {X : Type 0} (xs : List X) (k : ℕ) (x : X) → slice_get xs k ≡ Some x → k < length xs
get_below [] k x h = absurd (none_some x h)
get_below (y ∷ xs) zero x h = omega arith
get_below (y ∷ xs) (suc k) x h = let less = get_below xs k x h in omega (arith, less)

-- ---- own positions

abbrev fixed_as : UserName → UserName × Limits
fixed_as owner = (owner, storm_limits)

ok_same : {X E : Type 0} (x y : X) → ◌≡◌ {A = Result X E} (Ok x) (Ok y) → x ≡ y
ok_same x y h = cc

-- the same own positions, where a seat is there
own_same : (o p : Option SeenTree) → own_of o ≡ own_of p → own_in o ≡ own_in p
own_same None None h = refl
own_same None (Some v) h = absurd (none_some v.own h)
own_same (Some v) None h = absurd (none_some v.own (sym h))
own_same (Some v) (Some w) h = some_same v.own w.own h

-- a request adds at most one
one_short : (log : List Rec) (position to : ℕ) (own after : List ℕ) (records : List Rec) → Recorded log position to own after records → length after ≤ length own + 1
one_short log position to own after [] h = let same : length after ≡ length own = ap (λ (xs : List ℕ). length xs) h in omega (arith, same)
one_short log position to own after (rec ∷ []) h =
    let same : length after ≡ length (own ++ (position + 1) ∷ []) = ap (λ (xs : List ℕ). length xs) h.2 in
    let long = length-append own ((position + 1) ∷ []) in
    omega (arith, same, long)
one_short log position to own after (rec ∷ (more ∷ rest)) h = absurd h

-- so many requests add at most as many
all_short : (log : List Rec) (k n x from to : ℕ) (own after : List ℕ) (t u : Tally) → AllAnswered log k n x from to own after t u → length after ≤ length own + n
all_short log k zero x from to own after t u h = let same : length after ≡ length own = ap (λ (xs : List ℕ). length xs) h.1 in omega (arith, same)
all_short log k (suc n) x from to own after t u h =
    let one = one_short log h.3.position h.0 own h.1 _ h.3.recorded in
    let rest = all_short log k n (next_number x) h.0 to h.1 after h.2 u h.4 in
    omega (arith, one, rest)

-- ---- the tree of session c

module _ {D L : Type 0} (disks : disk.Ghosts D) (loader : Ghosts L) (none : L) (plan : Plan) (most : plan.sessions ≤ 32) (few : plan.requests ≤ 4096)
    (host : HostState D) (shared : Shared D) (seats all : Seats D) (is_shared : IsSharedHost host shared seats) (at_first : AtBoth seats) (at_last : AtBoth all)
    (said : List Said) (ended : HasEnded loader none shared plan seats all said) (whole : AreWhole all) where
  -- the sessions as they began, and as they ended
  abbrev vs : List (Session D L)
  vs = ended.begun

  abbrev ws : List (Session D L)
  ws = ended.ended

  begun_at : (k : ℕ) → k < plan.sessions → Has vs k
  begun_at k less = let long = ended.as_many in has_item vs k (omega (arith, less, long))

  ended_at : (k : ℕ) → k < plan.sessions → Has ws k
  ended_at k less = let long = ended.all_ended in has_item ws k (omega (arith, less, long))

  is_below : (k : ℕ) (w : Session D L) → slice_get ws k ≡ Some w → k < plan.sessions
  is_below k w there = let less = get_below ws k w there in let long = ended.all_ended in omega (arith, less, long)

  module _ (c : ℕ) (low : c < 2) (tree : IsPreparedTree disks plan.sessions c host) (log : List Rec) (read : IsRead all c log) where
    -- what was seen of the tree as the host was shared
    abbrev p : SeenTree
    p = tree.view

    abbrev base : ℕ
    base = length p.seen

    starts : StartsAt c seats p
    starts = starts_at disks c host shared seats p is_shared tree.there

    begun : AllBegun c none plan.seed (fresh p) 0 vs ended.left
    begun = all_begun c none plan.seed (fresh p) 0 seats vs ended.left ended.begins at_first starts.seen

    -- each session that ended has seats at both trees
    ended_at_both : (k : ℕ) (w : Session D L) → slice_get ws k ≡ Some w → AtBoth w.seats
    ended_at_both k w there =
        let v = begun_at k (is_below k w there) in
        later_at_both v.item.seats w.seats (ran_later loader shared plan.full k plan.requests v.item w (ended.ran k v.item w v.there there)) (begun.each k v.item v.there).at

    -- ---- the joined seat

    abbrev joined : SeenTree
    joined = tree_seen read.seat

    seat_there : seat_for all.trees.items (owner_text c) ≡ Some read.seat
    seat_there = place_is c low all.trees.items at_last.owners read.seat read.found

    joined_there : seen_of c all ≡ Some joined
    joined_there = ap (λ (o : Option (TreeSeat D)). option_map tree_seen o) seat_there

    base_is : read.seat.seat.base ≡ base
    base_is =
        some_same read.seat.seat.base base
        (sym (ap (λ (o : Option (TreeSeat D)). option_map (λ (place : TreeSeat D). place.seat.base) o) seat_there)
        ∙ joined_base c ended.left ws all ended.joins begun.left_at ended_at_both ∙ begun_base c none plan.seed 0 seats vs ended.left ended.begins ∙ starts.base)

    -- as the share is whole, all that came is own
    all_own : joined.own ≡ between base (length log)
    all_own = read.every (whole_at all.trees.items c read.seat whole.trees read.found) ∙ ap (λ (n : ℕ). between n (length log)) base_is

    all_begin : Begins p.seen joined.seen × ((i : ℕ) (w : Session D L) (b : SeenTree) → slice_get ws i ≡ Some w → seen_of c w.seats ≡ Some b → Begins b.seen joined.seen)
    all_begin = taken_begins c ended.left ws all ended.joins begun.left_at ended_at_both (fresh p) joined begun.left_seen joined_there

    begins : Begins p.seen log
    begins = Begins-trans all_begin.0 read.begins

    based : base ≤ length log
    based = length-Begins begins

    -- ---- what all sessions added

    abbrev own : ℕ → List ℕ
    own k = owns c ws k

    left_none : own_in (seen_of c ended.left) ≡ []
    left_none = ap (λ (o : Option SeenTree). own_in o) begun.left_seen

    all_is : own_in (seen_of c all) ≡ between base (length log)
    all_is = ap (λ (o : Option SeenTree). own_in o) joined_there ∙ all_own

    counted : (count : List ℕ → ℕ) → ((xs ys : List ℕ) → count (merged xs ys) ≡ count xs + count ys) → count [] ≡ 0
        → added_up (λ m. true) (λ k. count (own k)) 0 plan.sessions ≡ count (between base (length log))
    counted count adds zero_is =
        let sum = taken_counted c count adds ended.left ws all ended.joins begun.left_at ended_at_both in
        let nothing : count (own_in (seen_of c ended.left)) ≡ 0 = ap count left_none ∙ zero_is in
        let whole_sum : count (own_in (seen_of c all)) ≡ count (between base (length log)) = ap count all_is in
        let as_many : added_up (λ m. true) (λ k. count (own k)) 0 (length ws) ≡ added_up (λ m. true) (λ k. count (own k)) 0 plan.sessions
        = ap (λ (n : ℕ). added_up (λ m. true) (λ k. count (own k)) 0 n) ended.all_ended in
        omega (arith, sum, nothing, whole_sum, as_many)

    -- ---- one session

    module _ (k : ℕ) (less : k < plan.sessions) where
      abbrev v : Session D L
      v = (begun_at k less).item

      abbrev w : Session D L
      w = (ended_at k less).item

      low_number : k < 32
      low_number = omega (arith, less, most)

      ran : HasRun loader shared plan.full k plan.requests v w
      ran = ended.ran k v w (begun_at k less).there (ended_at k less).there

      is_begun : IsBegun none plan.seed k v
      is_begun = let e : 0 + k ≡ k = omega arith in subst (λ (n : ℕ). IsBegun none plan.seed n v) e (begun.each k v (begun_at k less).there).begun

      user_is : v.user ≡ user_text k
      user_is = ok_same v.user (user_text k) (sym is_begun.user ∙ user_read k (omega (arith, low_number)))

      begun_seen : seen_of c v.seats ≡ Some (fresh p)
      begun_seen = (begun.each k v (begun_at k less).there).seen

      own_is : own k ≡ own_in (seen_of c w.seats)
      own_is = ap (λ (o : Option (Session D L)). own_at c o) (ended_at k less).there

      -- a session of the other tree adds nothing
      other_none : k % 2 ≢ c % 2 → own k ≡ []
      other_none apart =
          own_is
          ∙ own_same (seen_of c w.seats) (seen_of c v.seats) (own_elsewhere loader shared plan.full k low_number c plan.requests v w apart ran user_is)
          ∙ ap (λ (o : Option SeenTree). own_in o) begun_seen

      -- a session of the tree went through its requests over the log that was read
      module _ (here : k % 2 ≡ c % 2) where
        owner : owner_text k ≡ owner_text c
        owner = owner_same k c here

        start : (views_of v.seats).tree (owner_text k) ≡ Some (fresh p)
        start = ap (λ (o : UserName). (views_of v.seats).tree o) owner ∙ begun_seen

        abbrev b : SeenTree
        b = (goes_on loader shared plan.full k low_number plan.requests v w (fresh p) ran user_is start).b

        ended_seen : (views_of w.seats).tree (owner_text k) ≡ Some b
        ended_seen = (goes_on loader shared plan.full k low_number plan.requests v w (fresh p) ran user_is start).after

        ended_here : seen_of c w.seats ≡ Some b
        ended_here = sym (ap (λ (o : UserName). (views_of w.seats).tree o) owner) ∙ ended_seen

        in_log : Begins b.seen log
        in_log = Begins-trans (all_begin.1 k w b (ended_at k less).there ended_here) read.begins

        its_own : own k ≡ b.own
        its_own = own_is ∙ ap (λ (o : Option SeenTree). own_in o) ended_here

        fixed_here : (fresh p).fixed ≡ (owner_text k, storm_limits)
        fixed_here = tree.fixed ∙ ap fixed_as (sym owner)

        answered : AllAnswered log k plan.requests (first_number plan.seed k) base (length b.seen) [] (own k) none_counted w.tally
        answered =
            subst (λ (xs : List ℕ). AllAnswered log k plan.requests (first_number plan.seed k) base (length b.seen) [] xs none_counted w.tally) (sym its_own)
            (subst (λ (t : Tally). AllAnswered log k plan.requests (first_number plan.seed k) base (length b.seen) [] b.own t w.tally) is_begun.tally
            (subst (λ (x : ℕ). AllAnswered log k plan.requests x base (length b.seen) [] b.own v.tally w.tally) is_begun.number
            (traced loader shared plan.full k low_number log plan.requests v w (fresh p) b ran user_is start ended_seen in_log fixed_here)))

        abbrev run_of : RunOf log plan base k (own k)
        run_of = record { to = length b.seen; within = length-Begins in_log; tally = w.tally; answered = answered }

      -- it added no more records than it asked requests
      own_short : length (own k) ≤ 4096
      own_short = elim (same_or_apart (k % 2) (c % 2)) [
        | inl here ↦ let short = all_short log k plan.requests (first_number plan.seed k) base (length (b here).seen) [] (own k) none_counted w.tally (answered here) in omega (arith, short, few)
        | inr apart ↦ let nothing : length (own k) ≡ 0 = ap (λ (xs : List ℕ). length xs) (other_none apart) in omega (arith, nothing)
      ]

    -- ---- all sessions of the tree

    whole_length : added_up (λ m. true) (λ k. length (own k)) 0 plan.sessions ≡ length log - base
    whole_length = counted (λ (xs : List ℕ). length xs) length_merged refl ∙ length_positions base (length log - base)

    long : length log ≤ 140000
    long =
        let sum = whole_length in
        let few_own = added_most (λ k. length (own k)) 0 plan.sessions (λ k below. own_short k (omega (arith, below))) in
        let first = tree.records in
        let twos = added_twos (in_tree c) 0 plan.sessions in
        let low_base = based in
        omega (arith, sum, few_own, first, twos, most, low_base)

    abbrev tree_runs : TreeRuns plan c log base own
    tree_runs = record {
      most = most;
      long = long;
      based = based;
      ground = subst (λ (rs : List Rec). Ground c plan.sessions rs) (sym (take-Begins begins)) tree.ground;
      empty = λ k j less here small.
          ap (λ (rs : List Rec). is_some (node_at (tree_of rs) (path_at k j))) (take-Begins begins ∙ sym (take_all base p.seen (omega arith))) ∙ tree.empty k j less here small;
      runs = λ k less here. run_of k less here;
      others = λ k less apart. other_none k less apart;
      every = λ z. counted (λ (xs : List ℕ). times z xs) (λ xs ys. times-merged z xs ys) refl;
    }

    records_here : length log ≡ base + added_up (in_tree c) (λ k. (course_of plan k).records) 0 plan.sessions
    records_here =
        let sum = whole_length in
        let inside = added_all (in_tree c) (λ k. length (own k)) 0 plan.sessions
        (λ k below out. ap (λ (xs : List ℕ). length xs) (other_none k (omega (arith, below)) (in_tree_no c k out))) in
        let each = added_same (in_tree c) (λ k. length (own k)) (λ k. (course_of plan k).records) 0 plan.sessions
        (λ k from below is. records_is plan c log base own tree_runs k (omega (arith, below)) (in_tree_yes c k is)) in
        let low_base = based in
        omega (arith, sum, inside, each, low_base)

    rows_here : length (tree_of log) ≡ length (tree_of p.seen) + added_up (in_tree c) (λ k. length (course_of plan k).files) 0 plan.sessions
    rows_here =
        rows_are plan c (in_tree c) (λ k is. in_tree_yes c k is) (λ k here. in_tree_from c k here) log base own tree_runs
        ∙ ap (λ (rs : List Rec). length (tree_of rs) + added_up (in_tree c) (λ k. length (course_of plan k).files) 0 plan.sessions) (take-Begins begins)

    -- the log has as many records, and the tree as many items, as the courses say
    pub summed : IsSummed plan c log
    summed = record {
      records = (
          let sum = records_here in
          let first = tree.records in
          let both : added_up (in_tree c) (λ k. 2 + (course_of plan k).records) 0 plan.sessions ≡ added_up (in_tree c) (λ k. 2) 0 plan.sessions + added_up (in_tree c) (λ k. (course_of plan k).records) 0 plan.sessions
          = added_both (in_tree c) (λ k. 2) (λ k. (course_of plan k).records) 0 plan.sessions in
          omega (arith, sum, first, both)
          );
      rows = (
          let sum = rows_here in
          let first = tree.rows in
          let both : added_up (in_tree c) (λ k. 2 + length (course_of plan k).files) 0 plan.sessions ≡ added_up (in_tree c) (λ k. 2) 0 plan.sessions + added_up (in_tree c) (λ k. length (course_of plan k).files) 0 plan.sessions
          = added_both (in_tree c) (λ k. 2) (λ k. length (course_of plan k).files) 0 plan.sessions in
          omega (arith, sum, first, both)
          );
    }

    -- each session of the tree has counted what its course counts
    pub tally_here : (k : ℕ) (w : Session D L) → slice_get ws k ≡ Some w → k % 2 ≡ c % 2 → w.tally ≡ (course_of plan k).tally
    tally_here k w there here =
        let less = is_below k w there in
        let same : w ≡ (ended_at k less).item = some_same w (ended_at k less).item (sym there ∙ (ended_at k less).there) in
        ap (λ (s : Session D L). s.tally) same ∙ tally_is plan c log base own tree_runs k less here
