-- What a pull means for a log that follows the leader's.
use Rattle.std.proofs.Common.{◌≡◌, ◌≢◌, ◌≤◌, ◌<◌, ◌+◌, ◌↔◌, ℕ, zero, suc, Bool, true, false, cond, List, [], ◌∷◌, ◌++◌, length, take, drop, slice_get, Option, Some, None, Result, Ok, Err, IfOk, IfSome, IsOk, refl, sym, ap, subst, ◌∙◌, append_assoc, append-nil, length-append, inl, inr, arith}
use Rattle.std.proofs.lemmas.Bool.{false≢true}
use Rattle.std.proofs.lemmas.List.{take-append-le, take_all}
use Rattle.std.specs.Option.{option_and_then}
use Rattle.up_dir.specs.Crashes.{image_log}
use Rattle.up_disk.proofs.Moments.{started}
use Rattle.up_disk.specs.Leaving.{LeavesNow}
use Rattle.up_disk.specs.declared.disk.Disk.{Ghosts}
use Rattle.up_entry.specs.declared.records.Rec.{Rec}
use Rattle.up_follow.proofs.BatchLemmas.{follows_longer, follows_more, follows_whole, more_rest, records_headed, records_split, whole_length}
use Rattle.up_follow.specs.Feeds.{AreFirst, Follows, IsAllOf, IsBatch, IsTreeLog, OnlyLonger, batch_limit}
use Rattle.up_follow.specs.Pulls.{IsStrange, MayHaveSome, Pulls, StopsAt, Takes}
use Rattle.up_follow.specs.Taking.{fitting_in, if_fits}
use Rattle.up_follow.specs.Whys.{why_of_feed}
use Rattle.up_follow.specs.declared.fault.FeedFault.{FeedFault}
use Rattle.up_follow.specs.declared.fault.FeedFault.TheVariants as feed_fault
use Rattle.up_follow.specs.declared.fault.FollowWhy.{FollowWhy}
use Rattle.up_follow.specs.declared.fault.FollowWhy.TheVariants as why
use Rattle.up_journal.specs.Logs.{StandsForLog}
use Rattle.up_journal.specs.Records.{records_of}
use Rattle.up_lists.proofs.BeginsLemmas.{Begins-nil}
use Rattle.up_lists.specs.Begins.{Begins}
use Rattle.up_names.specs.Texts.{UserName}
use Rattle.up_log_tree.specs.Fits.{fits}
use Rattle.up_tree.specs.States.{State, record_in}

module _ {D : Type 0} (disks : Ghosts D) where
  -- ---- what a feed gave

  pub pulls_batch : (leader : Option (List (List ℕ))) (batch : List (List ℕ)) (old new : State D) (result : Result ℕ FollowWhy) → length batch ≤ batch_limit
      → IfSome leader (IsBatch (length old.log) batch) → Takes disks batch old new result → Pulls disks leader old new result
  pulls_batch None batch old new result few is takes = record { batch = batch; few = few; behind = tt; none = λ _. tt; takes = takes }
  pulls_batch (Some log) batch old new result few is takes = record { batch = batch; few = few; behind = is.behind; none = λ _. is.none; takes = takes }

  module _ (only_now : (disk : D) (image : List ℕ) → disks.left_since disk (disks.moment disk) image → disks.may_leave disk image) where
    pub starts : (state : State D) (batch : List (List ℕ)) → LeavesNow disks state.disk (StandsForLog (image_log state) state.log state.further)
        → (image : List ℕ) → disks.left_since state.disk (disks.moment state.disk) image → MayHaveSome state batch image
    starts state batch safe image left = inl (safe.each image (only_now state.disk image left))

    none_taken : (state : State D) (result : Result ℕ FollowWhy) → LeavesNow disks state.disk (StandsForLog (image_log state) state.log state.further)
        → StopsAt state [] result → IfOk result (λ n. n ≡ 0) → Takes disks [] state state result
    none_taken state result safe stops count = record {
      added = [];
      taken = [];
      left = [];
      cut = refl;
      spelled = refl;
      log = sym (append-nil state.log);
      count = count;
      stops = stops;
      any_moment = started disks.moment disks.left_since state.disk (MayHaveSome state []) (starts state [] safe);
      acknowledged = λ _ lt. absurd (omega (arith, lt));
    }

    no_batch : (leader : Option (List (List ℕ))) (n : ℕ) → IfSome leader (λ log. Begins [] (drop n log))
    no_batch None n = tt
    no_batch (Some log) n = Begins-nil (drop n log)

    -- where it gave none
    pub pulls_none : (leader : Option (List (List ℕ))) (state : State D) (fault : FeedFault) → LeavesNow disks state.disk (StandsForLog (image_log state) state.log state.further)
        → Pulls disks leader state state (Err (why_of_feed fault))
    pulls_none leader state feed_fault.Failed safe = record {
      batch = [];
      few = omega arith;
      behind = no_batch leader (length state.log);
      none = λ ok. absurd (false≢true ok);
      takes = none_taken state (Err why.Failed) safe refl tt;
    }
    pulls_none leader state feed_fault.OutOfMemory safe = record {
      batch = [];
      few = omega arith;
      behind = no_batch leader (length state.log);
      none = λ ok. absurd (false≢true ok);
      takes = none_taken state (Err why.OutOfMemory) safe tt tt;
    }

  -- ---- a log that follows

  module _ (old new : State D) (result : Result ℕ FollowWhy) where
    longer : (before after : List (List ℕ)) → Follows old.log before → Begins before after → Pulls disks (Some after) old new result → Follows new.log after
    longer before after first grows pulls =
        let t = pulls.takes in
        subst (λ (l : List Rec). Follows l after) (sym t.log)
        (follows_more old.log t.added after pulls.batch t.taken t.left (follows_longer old.log before after first grows) pulls.behind t.cut t.spelled)

    pub pull_follows : (before after : Option (List (List ℕ))) → OnlyLonger before after → Pulls disks after old new result
        → IfSome before (λ log. Follows old.log log → IfSome after (Follows new.log))
    pull_follows None after grows pulls = tt
    pull_follows (Some before) None grows pulls = λ first. tt
    pull_follows (Some before) (Some after) grows pulls = λ first. longer before after first grows pulls

    count_of : (after : List (List ℕ)) → Pulls disks (Some after) old new result → (count : ℕ) → result ≡ Ok count → Follows old.log after → (count ≡ 0) ↔ IsAllOf old.log after
    count_of after pulls count is first =
        let counted : count ≡ length pulls.batch = subst (λ (r : Result ℕ FollowWhy). IfOk r (λ n. n ≡ length pulls.batch)) is pulls.takes.count in
        let none = pulls.none (subst (λ (r : Result ℕ FollowWhy). IsOk r) (sym is) refl) in (
          (λ zero_is. follows_whole old.log after first (none.0 (empty_of pulls.batch (sym counted ∙ zero_is)))),
          (λ whole. counted ∙ ap length (none.1 (whole_length old.log after whole))),
        )
      where
        empty_of : (xs : List (List ℕ)) → length xs ≡ 0 → xs ≡ []
        empty_of [] is = refl
        empty_of (x ∷ xs) is = absurd (omega (arith, is))

    if_ok : (r : Result ℕ FollowWhy) (P : ℕ → Type 0) → ((count : ℕ) → r ≡ Ok count → P count) → IfOk r P
    if_ok (Ok count) P each = each count refl
    if_ok (Err why) P each = tt

    pub pull_whole : (before after : Option (List (List ℕ))) → OnlyLonger before after → Pulls disks after old new result
        → IfSome before (λ log. Follows old.log log → IfSome after (λ leader. IfOk result (λ count. (count ≡ 0) ↔ IsAllOf old.log leader)))
    pull_whole None after grows pulls = tt
    pull_whole (Some before) None grows pulls = λ first. tt
    pull_whole (Some before) (Some after) grows pulls = λ first.
        if_ok result (λ count. (count ≡ 0) ↔ IsAllOf old.log after) (λ count is. count_of after pulls count is (follows_longer old.log before after first grows))

    -- ---- a leader whose records all fit

    get_at : {X : Type 0} (front rest : List X) (x : X) (n : ℕ) → n ≡ length front → slice_get (front ++ x ∷ rest) n ≡ Some x
    get_at [] rest x n is = ap (λ k. slice_get (x ∷ rest) k) is
    get_at (y ∷ front) rest x zero is = absurd (omega (arith, is))
    get_at (y ∷ front) rest x (suc n) is = get_at front rest x n (omega (arith, is))

    take_at : {X : Type 0} (front rest : List X) → take (length front) (front ++ rest) ≡ front
    take_at front rest = take-append-le (length front) front rest (omega arith) ∙ take_all (length front) front (omega arith)

    fitting_is : (owner : UserName) (log : List Rec) (text : List ℕ) (rec : Rec) → record_in text ≡ Some rec → fits owner log rec ≡ true → fitting_in owner log text ≡ Some rec
    fitting_is owner log text rec decoded fitted = ap (option_and_then (if_fits owner log)) decoded ∙ ap (λ b. cond b (Some rec) None) fitted

    -- the leader's record behind a log that follows it fits there
    next_fits : (owner : UserName) (log : List Rec) (text : List ℕ) (more : List (List ℕ)) (leader : List (List ℕ)) (first : Follows log leader) → first.rest ≡ text ∷ more → IsTreeLog owner leader
        → fitting_in owner log text ≡ None → ⊥
    next_fits owner log text more leader first behind of_tree strange =
        let whole : records_of record_in (first.front ++ text ∷ more) ≡ Some of_tree.records =
        ap (λ (l : List (List ℕ)). records_of record_in (first.front ++ l)) (sym behind) ∙ ap (records_of record_in) first.cut ∙ of_tree.decoded in
        let cut = records_split record_in first.front (text ∷ more) of_tree.records whole in
        let head = records_headed record_in text more cut.others cut.two in
        let same : cut.firsts ≡ log = (let e = sym cut.one ∙ first.spelled in cc) in
        let all : log ++ head.rec ∷ head.more ≡ of_tree.records =
        ap (λ (l : List Rec). l ++ head.rec ∷ head.more) (sym same) ∙ ap (λ (l : List Rec). cut.firsts ++ l) head.whole ∙ cut.whole in
        let there : slice_get of_tree.records (length log) ≡ Some head.rec = ap (λ (l : List Rec). slice_get l (length log)) (sym all) ∙ get_at log head.more head.rec (length log) refl in
        let front : take (length log) of_tree.records ≡ log = ap (take (length log)) (sym all) ∙ take_at log (head.rec ∷ head.more) in
        let fitted : fits owner log head.rec ≡ true = ap (λ (l : List Rec). fits owner l head.rec) (sym front) ∙ of_tree.fitting.each (length log) head.rec there in
        let found = fitting_is owner log text head.rec head.decoded fitted in
        let both : Some head.rec ≡ None = sym found ∙ strange in
        absurd (cc)

    -- what stands there behind a log with some first records of the batch
    behind_taken : (log added : List Rec) (leader batch taken left : List (List ℕ)) (text : List ℕ) (more : List (List ℕ)) (first : Follows log leader) (behind : Begins batch (drop (length log) leader))
        (cut : taken ++ left ≡ batch) (spelled : records_of record_in taken ≡ Some added) → left ≡ text ∷ more
        → (follows_more log added leader batch taken left first behind cut spelled).rest ≡ text ∷ (more ++ behind.rest)
    behind_taken log added leader batch taken left text more first behind cut spelled is =
        more_rest log added leader batch taken left first behind cut spelled ∙ ap (λ (l : List (List ℕ)). l ++ behind.rest) is

    not_strange : (owner : UserName) (leader : List (List ℕ)) → old.owner ≡ owner → new.owner ≡ owner → Follows old.log leader → Pulls disks (Some leader) old new result → IsTreeLog owner leader
        → (position : ℕ) → result ≡ Err (why.Strange position) → ⊥
    not_strange owner leader was is first pulls of_tree position strange_is =
        let t = pulls.takes in
        let strange : IsStrange new t.left position = subst (λ (r : Result ℕ FollowWhy). StopsAt new t.left r) strange_is t.stops in
        let follows = follows_more old.log t.added leader pulls.batch t.taken t.left first pulls.behind t.cut t.spelled in
        let behind = behind_taken old.log t.added leader pulls.batch t.taken t.left strange.text strange.more first pulls.behind t.cut t.spelled strange.next in
        let none : fitting_in owner (old.log ++ t.added) strange.text ≡ None =
        ap (λ (l : List Rec). fitting_in owner l strange.text) (sym t.log) ∙ ap (λ (o : UserName). fitting_in o new.log strange.text) (sym is) ∙ strange.strange in
        next_fits owner (old.log ++ t.added) strange.text (strange.more ++ pulls.behind.rest) leader follows behind of_tree none

    pub pull_sound : (before after : Option (List (List ℕ))) → OnlyLonger before after → Pulls disks after old new result → new.owner ≡ old.owner
        → IfSome before (λ log. Follows old.log log → IfSome after (λ leader. IsTreeLog old.owner leader → (position : ℕ) → result ≢ Err (why.Strange position)))
    pull_sound None after grows pulls owner = tt
    pull_sound (Some before) None grows pulls owner = λ first. tt
    pull_sound (Some before) (Some after) grows pulls owner = λ first of_tree position strange.
        not_strange old.owner after refl owner (follows_longer old.log before after first grows) pulls of_tree position strange
