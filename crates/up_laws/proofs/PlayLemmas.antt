-- Two trees under two lists of turns.
use Rattle.std.proofs.Common.{◌≡◌, ◌≢◌, ℕ, zero, suc, ◌+◌, ◌<◌, ◌≤◌, Bool, true, false, ◌&&◌, List, [], ◌∷◌, ◌++◌, length, take, get_or, refl, sym, ap, subst, ◌∙◌, ◌⊎◌, inl, inr, arith, Option, Some, None, Result, Ok, Err, bytes_eq}
use Rattle.std.specs.Prelude.{if◌then◌else◌, Contains, All, IfOk, IsErr, slice_get}
use Rattle.std.specs.List.{zip}
use Rattle.std.specs.Option.{option_map}
use Rattle.std.proofs.Math.Seq.{take-length}
use Rattle.std.proofs.lemmas.Bool.{false≢true}
use Rattle.std.proofs.lemmas.List.{length-take-le, length_push, take_all}
use Rattle.std.proofs.lemmas.List.Elements.{All-cons, All-nil}
use Rattle.std.proofs.lemmas.Option.{get_or_from_slice_get, slice_get_read, slice_get_within}
use Rattle.std.proofs.lemmas.Slice.Eq.{bytes_eq-Decides}
use Rattle.up_disk.specs.declared.disk.Disk.{Ghosts}
use Rattle.up_lists.specs.Runs.{Run}
use Rattle.up_lists.proofs.RunLemmas.{Run-taken, length-Run}
use Rattle.up_policy.specs.Loadings.{Loading}
use Rattle.up_policy.proofs.PathLists.{Contains-cons, no_member}
use Rattle.up_wire.specs.declared.replies.Reply.{Reply}
use Rattle.up_log_tree.specs.Logs.{Log}
use Rattle.up_tree.specs.States.{State, log_of}
use Rattle.up_answers.specs.Agreement.{Agree, used}
use Rattle.up_answers.specs.Laws.{AreInCalendar, InStep, Turn, after_request, after_turn}
use Rattle.up_answers.proofs.RequestLemmas.{requests_keep_agreement}
use Rattle.up_laws.specs.Turns.{IsMade, one_stops, stops, turn_of, turns_of}
use Rattle.up_laws.specs.Histories.{AreMade, ArePlayedAlike, IsGoing, IsPlayed, TakesTurns, after_turns, are_of, first_stop, kept}
use Rattle.up_laws.specs.declared.turns.Turn as given
use Rattle.up_laws.specs.declared.turns.Pairs.{Pairs}
use Rattle.up_laws.proofs.TurnLemmas.{made_log}
use Rattle.up_laws.proofs.WorldLemmas.{made_alike, neither}

some_none : {X : Type 0} (x : X) → ◌≡◌ {A = Option X} None (Some x) → ⊥
some_none x h = absurd (cc)

some_same : {X : Type 0} (x y : X) → ◌≡◌ {A = Option X} (Some x) (Some y) → x ≡ y
some_same x y h = cc

-- ---- one pair more

kept_nothing : (user : List ℕ) (turns : List (Turn × Turn)) → kept user turns [] ≡ []
kept_nothing user [] = refl
kept_nothing user (t ∷ turns) = refl

no_stop : (turns : List (Turn × Turn)) → first_stop turns [] ≡ None
no_stop [] = refl
no_stop (t ∷ turns) = refl

kept_more : (user : List ℕ) (turns : List (Turn × Turn)) (made : List (Reply × Reply)) (q : Turn × Turn) (r : Reply × Reply) → slice_get turns (length made) ≡ Some q →
    kept user turns (made ++ r ∷ []) ≡ (if are_of user q then kept user turns made ++ r ∷ [] else kept user turns made)
kept_more user [] made q r h = absurd (some_none q h)
kept_more user (t ∷ turns) [] q r h =
    ap (λ (k : List (Reply × Reply)). if are_of user t then r ∷ k else k) (kept_nothing user turns) ∙ ap (λ (p : Turn × Turn). if are_of user p then r ∷ [] else []) (some_same t q h)
kept_more user (t ∷ turns) (m ∷ made) q r h =
    ap (λ (k : List (Reply × Reply)). if are_of user t then m ∷ k else k) (kept_more user turns made q r h) ∙ go (are_of user t) (are_of user q)
  where
    go : (a b : Bool) → (if a then m ∷ (if b then kept user turns made ++ r ∷ [] else kept user turns made) else (if b then kept user turns made ++ r ∷ [] else kept user turns made))
        ≡ (if b then (if a then m ∷ kept user turns made else kept user turns made) ++ r ∷ [] else (if a then m ∷ kept user turns made else kept user turns made))
    go true true = refl
    go true false = refl
    go false true = refl
    go false false = refl

-- nothing stopped a run of two parts
none_stopped : (b : Bool) (rest : Option ℕ) → (if b then Some 0 else option_map suc rest) ≡ None → (b ≡ false) × (rest ≡ None)
none_stopped true rest h = absurd (some_none 0 (sym h))
none_stopped false None h = (refl, refl)
none_stopped false (Some n) h = absurd (some_none (suc n) (sym h))

stop_more : (turns : List (Turn × Turn)) (made : List (Reply × Reply)) (q : Turn × Turn) (r : Reply × Reply) → first_stop turns made ≡ None → slice_get turns (length made) ≡ Some q →
    first_stop turns (made ++ r ∷ []) ≡ (if one_stops q r then Some (length made) else None)
stop_more [] made q r none h = absurd (some_none q h)
stop_more (t ∷ turns) [] q r none h =
    ap (λ (o : Option ℕ). if one_stops t r then Some 0 else option_map suc o) (no_stop turns) ∙ ap (λ (p : Turn × Turn). if one_stops p r then Some 0 else None) (some_same t q h)
stop_more (t ∷ turns) (m ∷ made) q r none h =
    let parts = none_stopped (one_stops t m) (first_stop turns made) none in
    ap (λ b. if b then Some 0 else option_map suc (first_stop turns (made ++ r ∷ []))) parts.0
    ∙ (ap (option_map suc) (stop_more turns made q r parts.1 h) ∙ go (one_stops q r))
  where
    go : (b : Bool) → option_map suc (if b then Some (length made) else None) ≡ (if b then Some (length (m ∷ made)) else None)
    go true = refl
    go false = refl

-- ---- the loop

module _ {D E : Type 0} (one : Ghosts D) (two : Ghosts E) (user : List ℕ) (turns : List (Turn × Turn)) (old : State D × State E) where
  pub going_none : IsGoing one two user turns old old [] 0
  going_none = record { made = []; run = refl; told = sym (kept_nothing user turns); goes_on = no_stop turns }

  module _ (now next : State D × State E) (replies after : List (Reply × Reply)) (n : ℕ) (q : Turn × Turn) (at : slice_get turns n ≡ Some q) (going : IsGoing one two user turns old now replies n) where
    within : n < length turns
    within = slice_get_within turns n q at

    count : length going.made ≡ n
    count = length-Run (AreMade one two) old now (take n turns) going.made going.run ∙ length-take-le n turns (let h = within in omega arith)

    at_made : slice_get turns (length going.made) ≡ Some q
    at_made = ap (slice_get turns) count ∙ at

    run_more : (r : Reply × Reply) → AreMade one two now q r next → Run (AreMade one two) old (take (n + 1) turns) (going.made ++ r ∷ []) next
    run_more r made = Run-taken (AreMade one two) old now next turns n q going.made r going.run within (sym (get_or_from_slice_get turns n q q at)) made

    kept_now : (r : Reply × Reply) → (if are_of user q then replies ++ r ∷ [] else replies) ≡ kept user turns (going.made ++ r ∷ [])
    kept_now r = ap (λ (k : List (Reply × Reply)). if are_of user q then k ++ r ∷ [] else k) going.told ∙ sym (kept_more user turns going.made q r at_made)

    stop_now : (r : Reply × Reply) (b : Bool) → b ≡ one_stops q r → first_stop turns (going.made ++ r ∷ []) ≡ (if b then Some (length going.made) else None)
    stop_now r b e = stop_more turns going.made q r going.goes_on at_made ∙ ap (λ c. if c then Some (length going.made) else None) (sym e)

    pub going_more : {F : Type 0} (stopped : Bool) → stopped ≡ false → TakesTurns {F = F} one two user q now next replies after (Ok stopped) → IsGoing one two user turns old next after (n + 1)
    going_more stopped goes takes = record {
      made = going.made ++ takes.replies ∷ [];
      run = run_more takes.replies takes.made;
      told = takes.kept ∙ kept_now takes.replies;
      goes_on = stop_now takes.replies false (sym goes ∙ takes.stopped);
    }

    count_more : (r : Reply × Reply) → length (going.made ++ r ∷ []) ≡ n + 1
    count_more r = length_push going.made r ∙ ap (λ k. k + 1) count

    taken : (r : Reply × Reply) → AreMade one two now q r next → Run (AreMade one two) old (take (length (going.made ++ r ∷ [])) turns) (going.made ++ r ∷ []) next
    taken r made = subst (λ k. Run (AreMade one two) old (take k turns) (going.made ++ r ∷ []) next) (sym (count_more r)) (run_more r made)

    pub played_stopped : {F : Type 0} (stopped : Bool) → stopped ≡ true → TakesTurns {F = F} one two user q now next replies after (Ok stopped) → IsPlayed {F = F} one two user turns old next (Ok (record { replies = after; stopped = Some n }))
    played_stopped stopped stops takes = record {
      made = going.made ++ takes.replies ∷ [];
      run = taken takes.replies takes.made;
      replies = takes.kept ∙ kept_now takes.replies;
      stopped = ap Some (sym count) ∙ sym (stop_now takes.replies true (sym stops ∙ takes.stopped));
      whole = λ none. absurd (some_none n (sym none));
      last = λ m same. count_more takes.replies ∙ ap (λ k. k + 1) (some_same n m same);
    }

    pub played_wanting : {F : Type 0} (e : F) → TakesTurns one two user q now next replies after (Err e) → IsPlayed one two user turns old next (Err e)
    played_wanting e takes = record {
      made = going.made ++ takes.replies ∷ [];
      run = taken takes.replies takes.made;
      replies = tt;
      stopped = tt;
      whole = tt;
      last = tt;
    }

  -- all turns were made
  pub played_all : {F : Type 0} (now : State D × State E) (replies : List (Reply × Reply)) (n : ℕ) → length turns ≤ n → IsGoing one two user turns old now replies n → IsPlayed {F = F} one two user turns old now (Ok (record { replies = replies; stopped = None }))
  played_all now replies n all going = record {
    made = going.made;
    run = subst (λ (qs : List (Turn × Turn)). Run (AreMade one two) old qs going.made now) (whole ∙ sym (ap (λ k. take k turns) count ∙ take-length turns)) going.run;
    replies = going.told;
    stopped = sym going.goes_on;
    whole = λ none. count;
    last = λ m same. absurd (some_none m same);
  }
    where
      whole : take n turns ≡ turns
      whole = take_all n turns all

      count : length going.made ≡ length turns
      count = length-Run (AreMade one two) old now (take n turns) going.made going.run ∙ ap length whole

-- ---- a turn of each list

-- ---- the turns at a place

pub turns_at : (first second : List given.Turn) (i : ℕ) (x y : given.Turn) → slice_get first i ≡ Some x → slice_get second i ≡ Some y → slice_get (zip (turns_of first) (turns_of second)) i ≡ Some (turn_of x, turn_of y)
turns_at [] second i x y h k = absurd (some_none x h)
turns_at (a ∷ first) [] i x y h k = absurd (some_none y k)
turns_at (a ∷ first) (b ∷ second) zero x y h k = ap (λ (p : given.Turn × given.Turn). Some (turn_of p.0, turn_of p.1)) (λ j. (some_same a x h j, some_same b y k j))
turns_at (a ∷ first) (b ∷ second) (suc i) x y h k = turns_at first second i x y h k

-- the turns that a loop reads at a place
pub turns_read : (first second : List given.Turn) (i : ℕ) (x y : given.Turn) → i < length first → i < length second → x ≡ get_or first i x → y ≡ get_or second i y → slice_get (zip (turns_of first) (turns_of second)) i ≡ Some (turn_of x, turn_of y)
turns_read first second i x y within within' is is' = turns_at first second i x y (slice_get_read first (length first) i x refl within is) (slice_get_read second (length second) i y refl within' is')

pub moment_at : (turns : List given.Turn) (i : ℕ) (x : given.Turn) → AreInCalendar (turns_of turns) → slice_get turns i ≡ Some x → x.now < 253402207200
moment_at [] i x moments h = absurd (some_none x h)
moment_at (a ∷ turns) zero x moments h = subst (λ (t : given.Turn). t.now < 253402207200) (some_same a x h) moments.0
moment_at (a ∷ turns) (suc i) x moments h = moment_at turns i x moments.1 h

pub moment_read : (turns : List given.Turn) (i : ℕ) (x : given.Turn) → AreInCalendar (turns_of turns) → i < length turns → x ≡ get_or turns i x → x.now < 253402207200
moment_read turns i x moments within is = moment_at turns i x moments (slice_get_read turns (length turns) i x refl within is)

pub length-turns : (first second : List given.Turn) → length first ≡ length second → length (zip (turns_of first) (turns_of second)) ≡ length first
length-turns [] second h = refl
length-turns (a ∷ first) [] h = absurd (omega arith)
length-turns (a ∷ first) (b ∷ second) h = let rest = length-turns first second (omega arith) in omega arith

-- ---- replies alike

module _ {D E : Type 0} (one : Ghosts D) (two : Ghosts E) (user : List ℕ) where
  -- two trees that agree, after turns of other users or after the same turn of the user
  abbrev Alike : List Loading → List Turn → List Turn → State D × State E → State D × State E → List (Reply × Reply) → Type 0
  Alike loadings first second old new pairs = Agree user loadings (log_of old.0) (log_of old.1) → InStep user loadings (log_of old.0) (log_of old.1) first second → All (λ pair. pair.0 ≡ pair.1) pairs × Agree user loadings (log_of new.0) (log_of new.1)

  kept_alike : (b : Bool) (r : Reply × Reply) (pairs : List (Reply × Reply)) → (b ≡ true → r.0 ≡ r.1) → All (λ pair. pair.0 ≡ pair.1) pairs → All (λ (pair : Reply × Reply). pair.0 ≡ pair.1) (if b then r ∷ pairs else pairs)
  kept_alike true r pairs same all = All-cons (λ (pair : Reply × Reply). pair.0 ≡ pair.1) r pairs (same refl) all
  kept_alike false r pairs same all = all

  logs_after : (first second : List Turn) (made : List (Reply × Reply)) (old new : State D × State E) → length first ≡ length second → Run (AreMade one two) old (zip first second) made new → first_stop (zip first second) made ≡ None →
      (log_of new.0 ≡ after_turns (log_of old.0) first) × (log_of new.1 ≡ after_turns (log_of old.1) second)
  logs_after [] [] [] old new lengths run none = (ap (λ (w : State D × State E). log_of w.0) run, ap (λ (w : State D × State E). log_of w.1) run)
  logs_after [] [] (r ∷ made) old new lengths run none = absurd run
  logs_after [] (y ∷ second) made old new lengths run none = absurd (omega arith)
  logs_after (x ∷ first) [] made old new lengths run none = absurd (omega arith)
  logs_after (x ∷ first) (y ∷ second) [] old new lengths run none = absurd run
  logs_after (x ∷ first) (y ∷ second) (r ∷ made) old new lengths run none =
      let parts = none_stopped (one_stops (x, y) r) (first_stop (zip first second) made) none in
      let each = neither (stops x r.0) (stops y r.1) parts.0 in
      let rest = logs_after first second made run.0 new (omega arith) run.1.1 parts.1 in (
        rest.0 ∙ ap (λ (l : Log). after_turns l first) (made_log one x old.0 (run.0).0 r.0 run.1.0.0 each.0),
        rest.1 ∙ ap (λ (l : Log). after_turns l second) (made_log two y old.1 (run.0).1 r.1 run.1.0.1 each.1),
      )

  -- agreement for one of the loadings
  agree_for : (loadings : List Loading) (loaded : Loading) (a b : Log) → Contains loadings loaded → Agree user loadings a b → Agree user (loaded ∷ []) a b
  agree_for loadings loaded a b among agree = record {
    owner = agree.owner;
    limits = agree.limits;
    length = agree.length;
    bytes = agree.bytes;
    for_owner = agree.for_owner;
    for_others = λ other l h. elim (Contains-cons loaded l [] h) [ inl same ↦ agree.for_others other l (subst (Contains loadings) same among) | inr none ↦ absurd (no_member l none) ];
  }

  first_of : (a b : Bool) → (a && b) ≡ true → a ≡ true
  first_of true b h = refl
  first_of false b h = absurd (false≢true h)

  abbrev StepsAlike : List Loading → Turn → Turn → Log → Log → Type 0
  StepsAlike loadings x y a b = ((x.user ≡ user) × (x ≡ y) × Contains loadings (used x.request x.loaded)) ⊎ ((x.user ≢ user) × (y.user ≢ user) × Agree user loadings (after_turn a x) (after_turn b y))

  turn_alike : (loadings : List Loading) (x y : Turn) (r : Reply × Reply) (old next : State D × State E) → x.now < 253402207200 → IsMade one x old.0 next.0 r.0 → IsMade two y old.1 next.1 r.1 → one_stops (x, y) r ≡ false →
      Agree user loadings (log_of old.0) (log_of old.1) → StepsAlike loadings x y (log_of old.0) (log_of old.1) →
      (are_of user (x, y) ≡ true → r.0 ≡ r.1) × Agree user loadings (after_turn (log_of old.0) x) (after_turn (log_of old.1) y)
  turn_alike loadings x y r old next moment first second goes agree (inl (mine, same, among)) =
      let second' : IsMade two x old.1 next.1 r.1 = subst (λ (t : Turn). IsMade two t old.1 next.1 r.1) (sym same) second in
      let alike = made_alike one two x old.0 next.0 old.1 next.1 r.0 r.1 moment first second' in (
        λ _. alike.same (ap (λ (t : Turn). one_stops (x, t) r) same ∙ goes)
            (subst (λ u. Agree u (used x.request x.loaded ∷ []) (log_of old.0) (log_of old.1)) (sym mine) (agree_for loadings (used x.request x.loaded) (log_of old.0) (log_of old.1) among agree)),
        subst (λ (t : Turn). Agree user loadings (after_turn (log_of old.0) x) (after_turn (log_of old.1) t)) same
            (subst (λ u. Agree user loadings (after_request (log_of old.0) x.loaded x.fetched u x.request x.now) (after_request (log_of old.1) x.loaded x.fetched u x.request x.now)) (sym mine)
            (requests_keep_agreement user loadings x.loaded x.fetched x.request x.now (log_of old.0) (log_of old.1) first.log second.log moment among agree)),
      )
  turn_alike loadings x y r old next moment first second goes agree (inr (other, other', agrees)) =
      (λ theirs. absurd (other ((bytes_eq-Decides x.user user).0 (first_of (bytes_eq x.user user) (bytes_eq y.user user) theirs))), agrees)

  runs_alike : (loadings : List Loading) (first second : List Turn) (made : List (Reply × Reply)) (old new : State D × State E) → AreInCalendar first → Run (AreMade one two) old (zip first second) made new → first_stop (zip first second) made ≡ None →
      Alike loadings first second old new (kept user (zip first second) made)
  runs_alike loadings [] [] [] old new moments run none agree step = (All-nil (λ (pair : Reply × Reply). pair.0 ≡ pair.1), subst (λ (w : State D × State E). Agree user loadings (log_of w.0) (log_of w.1)) (sym run) agree)
  runs_alike loadings [] [] (r ∷ made) old new moments run none agree step = absurd run
  runs_alike loadings [] (y ∷ second) made old new moments run none agree step = absurd step
  runs_alike loadings (x ∷ first) [] made old new moments run none agree step = absurd step
  runs_alike loadings (x ∷ first) (y ∷ second) [] old new moments run none agree step = absurd run
  runs_alike loadings (x ∷ first) (y ∷ second) (r ∷ made) old new moments run none agree step =
      let parts = none_stopped (one_stops (x, y) r) (first_stop (zip first second) made) none in
      let each = neither (stops x r.0) (stops y r.1) parts.0 in
      let first_log = made_log one x old.0 (run.0).0 r.0 run.1.0.0 each.0 in
      let second_log = made_log two y old.1 (run.0).1 r.1 run.1.0.1 each.1 in
      let goes : (are_of user (x, y) ≡ true → r.0 ≡ r.1) × Agree user loadings (after_turn (log_of old.0) x) (after_turn (log_of old.1) y) = turn_alike loadings x y r old run.0 moments.0 run.1.0.0 run.1.0.1 parts.0 agree step.0 in
      let rest = runs_alike loadings first second made run.0 new moments.1 run.1.1 parts.1
      (subst (λ (l : Log). Agree user loadings l (log_of (run.0).1)) (sym first_log) (subst (λ (l : Log). Agree user loadings (after_turn (log_of old.0) x) l) (sym second_log) goes.1))
      (subst (λ (l : Log). InStep user loadings l (log_of (run.0).1) first second) (sym first_log) (subst (λ (l : Log). InStep user loadings (after_turn (log_of old.0) x) l first second) (sym second_log) step.1)) in
      (kept_alike (are_of user (x, y)) r (kept user (zip first second) made) goes.0 rest.0, rest.1)

  pub played_alike : {F : Type 0} (first second : List Turn) (old new : State D × State E) (pairs : Pairs) → length first ≡ length second → AreInCalendar first → IsPlayed {F = F} one two user (zip first second) old new (Ok pairs) →
      ArePlayedAlike user first second (log_of old.0) (log_of old.1) (log_of new.0) (log_of new.1) pairs
  played_alike first second old new pairs lengths moments played = record {
    first_log = λ none. (logs_after first second played.made old new lengths (all none) (sym played.stopped ∙ none)).0;
    second_log = λ none. (logs_after first second played.made old new lengths (all none) (sym played.stopped ∙ none)).1;
    same = λ none loadings agree step. subst (All (λ (pair : Reply × Reply). pair.0 ≡ pair.1)) (sym played.replies) (runs_alike loadings first second played.made old new moments (all none) (sym played.stopped ∙ none) agree step).0;
    kept = λ none loadings agree step. (runs_alike loadings first second played.made old new moments (all none) (sym played.stopped ∙ none) agree step).1;
  }
    where
      all : pairs.stopped ≡ None → Run (AreMade one two) old (zip first second) played.made new
      all none = subst (λ (qs : List (Turn × Turn)). Run (AreMade one two) old qs played.made new) (ap (λ k. take k (zip first second)) (played.whole none) ∙ take-length (zip first second)) played.run

-- ---- the exits of the loop over turns

module _ {D E : Type 0} (one : Ghosts D) (two : Ghosts E) (user : List ℕ) (first second : List given.Turn) (lengths : length first ≡ length second) (old now next : State D × State E) (replies after : List (Reply × Reply)) (n : ℕ) (x y : given.Turn)
    (within : n < length first) (is : x ≡ get_or first n x) (is' : y ≡ get_or second n y) (going : IsGoing one two user (zip (turns_of first) (turns_of second)) old now replies n) where
  at : slice_get (zip (turns_of first) (turns_of second)) n ≡ Some (turn_of x, turn_of y)
  at = turns_read first second n x y within (subst (λ m. n < m) lengths within) is is'

  pub goes_on : {F : Type 0} (stopped : Bool) → stopped ≡ false → TakesTurns {F = F} one two user (turn_of x, turn_of y) now next replies after (Ok stopped) →
      IsGoing one two user (zip (turns_of first) (turns_of second)) old next after (n + 1)
  goes_on stopped goes takes = going_more one two user (zip (turns_of first) (turns_of second)) old now next replies after n (turn_of x, turn_of y) at going stopped goes takes

  pub stops_here : {F : Type 0} (stopped : Bool) → stopped ≡ true → TakesTurns {F = F} one two user (turn_of x, turn_of y) now next replies after (Ok stopped) →
      IsPlayed {F = F} one two user (zip (turns_of first) (turns_of second)) old next (Ok (record { replies = after; stopped = Some n }))
  stops_here stopped stops takes = played_stopped one two user (zip (turns_of first) (turns_of second)) old now next replies after n (turn_of x, turn_of y) at going stopped stops takes

  pub wants_here : {F : Type 0} (e : F) → TakesTurns one two user (turn_of x, turn_of y) now next replies after (Err e) →
      IsPlayed one two user (zip (turns_of first) (turns_of second)) old next (Err e)
  wants_here e takes = played_wanting one two user (zip (turns_of first) (turns_of second)) old now next replies after n (turn_of x, turn_of y) at going e takes

module _ {D E : Type 0} (one : Ghosts D) (two : Ghosts E) (user : List ℕ) (first second : List given.Turn) (lengths : length first ≡ length second) (old now : State D × State E) (replies : List (Reply × Reply)) (n : ℕ)
    (past : length first ≤ n) (going : IsGoing one two user (zip (turns_of first) (turns_of second)) old now replies n) where
  pub all_made : {F : Type 0} → IsPlayed {F = F} one two user (zip (turns_of first) (turns_of second)) old now (Ok (record { replies = replies; stopped = None }))
  all_made = played_all one two user (zip (turns_of first) (turns_of second)) old now replies n (subst (λ m. m ≤ n) (sym (length-turns first second lengths)) past) going

  length-map-turns : (ts : List given.Turn) → length (turns_of ts) ≡ length ts
  length-map-turns [] = refl
  length-map-turns (t ∷ ts) = ap suc (length-map-turns ts)

  pub all_alike : (F : Type 0) → AreInCalendar (turns_of first) → ArePlayedAlike user (turns_of first) (turns_of second) (log_of old.0) (log_of old.1) (log_of now.0) (log_of now.1) (record { replies = replies; stopped = None })
  all_alike F moments = played_alike one two user {F = F} (turns_of first) (turns_of second) old now (record { replies = replies; stopped = None })
      (length-map-turns first ∙ (lengths ∙ sym (length-map-turns second))) moments all_made

-- any error tells as much as another
pub err_played : {D E F : Type 0} (one : Ghosts D) (two : Ghosts E) (user : List ℕ) (turns : List (Turn × Turn)) (old new : State D × State E) (e : F) (r : Result Pairs F) → IsErr r → IsPlayed one two user turns old new (Err e) → IsPlayed one two user turns old new r
err_played one two user turns old new e (Ok pairs) h played = absurd (false≢true h)
err_played one two user turns old new e (Err other) h played = record { made = played.made; run = played.run; replies = tt; stopped = tt; whole = tt; last = tt }
