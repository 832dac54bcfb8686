-- The summed counts of peers, of which at most one was asked.
use Rattle.std.proofs.Common.{◌≡◌, ◌≤◌, ◌<◌, ◌-◌, ◌^◌, ◌+◌, ℕ, List, min, Option, Some, None, Result, Ok, Err, refl, ap, subst, ◌∙◌, arith, sum_by, length, slice_get, slice_set}
use Rattle.std.proofs.Math.ListN.{get_or, set}
use Rattle.std.proofs.lemmas.List.Sums.{sum_by-set, sum_by_more_le}
use Rattle.std.proofs.lemmas.Option.{get_or_from_slice_get, slice_get_within}
use Rattle.std.specs.Result.{result_ok}
use Rattle.std.specs.declared.alloc.AllocError.{AllocError}
use Rattle.up_lists.specs.Counts.{Rose}
use Rattle.up_entry.specs.declared.fetch.Fetch.TheVariants as fetches
use Rattle.up_group.specs.GroupTexts.{group_of}
use Rattle.up_names.specs.declared.fault.TextFault.{TextFault}
use Rattle.up_names.specs.declared.fault.TextFault.TheVariants as text
use Rattle.up_names.specs.declared.items.Item.{Item}
use Rattle.up_policy.specs.declared.load_answer.LoadAnswer.{LoadAnswer}
use Rattle.up_policy.specs.declared.load_answer.LoadAnswer.TheVariants as loads
use Rattle.up_lists.specs.Counts.{HasCause, StaysUnless}
use Rattle.up_peer.specs.declared.answers.PeerAnswer.{PeerAnswer}
use Rattle.up_peer.specs.declared.answers.PeerAnswer.TheVariants as answers
use Rattle.up_peer.specs.declared.answers.PeerCall.{PeerCall}
use Rattle.up_peer.specs.declared.answers.PeerQuestion.{PeerQuestion}
use Rattle.up_peer.specs.Asking.{Asks, KeptPeer}
use Rattle.up_peer.specs.Loading.{LoadsAs, fault_sum, fetch_of, text_answer}

-- a sum of which one term is another
sum_set : {X : Type 0} (f : X → ℕ) (xs : List X) (i : ℕ) (x y : X) → slice_get xs i ≡ Some x → sum_by f (slice_set xs i y) + f x ≡ sum_by f xs + f y
sum_set f xs i x y there =
    let within : i < length xs = slice_get_within xs i x there in
    let is : f (get_or xs i x) ≡ f x = ap f (get_or_from_slice_get xs i x x there) in
    let moved : sum_by f (set xs i y) + f (get_or xs i x) ≡ sum_by f xs + f y = sum_by-set f xs i y x within in
    omega (arith, moved, is)

-- no term is above the sum
sum_at : {X : Type 0} (f : X → ℕ) (xs : List X) (i : ℕ) (x : X) → slice_get xs i ≡ Some x → f x ≤ sum_by f xs
sum_at f xs i x there =
    let within : i < length xs = slice_get_within xs i x there in
    let is : f (get_or xs i x) ≡ f x = ap f (get_or_from_slice_get xs i x x there) in
    omega (arith, sum_by_more_le f xs i x within, is)

module _ {P : Type 0} (asked : P → Option (List PeerCall)) (faults : P → ℕ) where
  -- The sum of the counts never falls, and rose where the peer that was asked failed.
  pub asked_counts : {E : Type 0} (found : Option ℕ) (old new : List (KeptPeer P)) (question : PeerQuestion) (given : Result PeerAnswer E) (F : Type 0)
      → Asks asked faults found old new question given → (F → given ≡ Ok answers.Failed) → HasCause (fault_sum faults old) (fault_sum faults new) F
  asked_counts None old new question given F asks failed =
      let same : sum_by (λ (k : KeptPeer P). faults k.peer) new ≡ sum_by (λ (k : KeptPeer P). faults k.peer) old = ap (sum_by (λ (k : KeptPeer P). faults k.peer)) asks.0 in
      record {
        later = omega (arith, same);
        bounded = λ low. omega arith;
        rose = λ is. absurd (nothing given asks.1 (failed is));
      }
    where
      nothing : {E : Type 0} (given : Result PeerAnswer E) → given ≡ Ok answers.Nothing → given ≡ Ok answers.Failed → ⊥
      nothing given a b = cc
  asked_counts (Some i) old new question given F asks failed =
      let f : KeptPeer P → ℕ = λ k. faults k.peer in
      let sums : sum_by f new + f asks.before ≡ sum_by f old + f asks.after = ap (λ ps. sum_by f ps + f asks.before) asks.others ∙ sum_set f old i asks.before asks.after asks.there in
      let below : f asks.before ≤ sum_by f old = sum_at f old i asks.before asks.there in
      let later : f asks.before ≤ f asks.after = asks.answered.counts.later in
      record {
        later = omega (arith, sums, later);
        bounded = λ low. omega arith;
        rose = λ is small. by_rise (sum_by f old) (sum_by f new) (f asks.before) (f asks.after) sums below (asks.answered.counts.rose (failed is)) small;
      }
    where
      by_rise : (old new before after : ℕ) → new + before ≡ old + after → before ≤ old → Rose before after → min old (2 ^ 64 - 1) < 2 ^ 64 - 1 → min old (2 ^ 64 - 1) < min new (2 ^ 64 - 1)
      by_rise old new before after sums below rose small = let up : before < after = rose (omega arith) in omega (arith, up)

  -- The sum of the counts is as before where the peer that was asked did not fail.
  pub asked_quiet : {E : Type 0} (found : Option ℕ) (old new : List (KeptPeer P)) (question : PeerQuestion) (given : Result PeerAnswer E) (F : Type 0)
      → Asks asked faults found old new question given → (given ≡ Ok answers.Failed → F) → StaysUnless (fault_sum faults old) (fault_sum faults new) F
  asked_quiet None old new question given F asks told = record { stays = λ none. ap (fault_sum faults) asks.0 }
  asked_quiet (Some i) old new question given F asks told =
      let f : KeptPeer P → ℕ = λ k. faults k.peer in
      let sums : sum_by f new + f asks.before ≡ sum_by f old + f asks.after = ap (λ ps. sum_by f ps + f asks.before) asks.others ∙ sum_set f old i asks.before asks.after asks.there in
      let as_before : (F → ⊥) → f asks.after ≡ f asks.before = λ none. asks.answered.quiet.stays (λ failed. none (told failed)) in
      record { stays = λ none. let same : f asks.after ≡ f asks.before = as_before none in let sum : sum_by f new ≡ sum_by f old = omega (arith, sums, same) in ap (λ n. min n (2 ^ 64 - 1)) sum }

-- a text is no failure
no_failure : (meant : Result (List Item) TextFault) → loads.Failed ≡ text_answer meant → ⊥
no_failure (Ok items) e = cc
no_failure (Err (text.BadText line)) e = cc
no_failure (Err text.OutOfMemory) e = cc

-- only a peer's failure is loaded as one
loaded_failed : (owner : List ℕ) (given : PeerAnswer) → LoadsAs owner given (Some loads.Failed) → given ≡ answers.Failed
loaded_failed owner (answers.Got bytes) h = absurd (no_failure (group_of owner bytes) h)
loaded_failed owner answers.Nothing h = absurd (cc)
loaded_failed owner answers.Failed h = refl

-- the same of a result
pub load_cause : (owner : List ℕ) (given : PeerAnswer) (result : Result LoadAnswer AllocError) → LoadsAs owner given (result_ok result) → result ≡ Ok loads.Failed → ◌≡◌ {A = Result PeerAnswer AllocError} (Ok given) (Ok answers.Failed)
load_cause owner given result h is = ap Ok (loaded_failed owner given (subst (λ r. LoadsAs owner given (result_ok r)) is h))

-- only a peer's failure is fetched as one
pub fetch_cause : (given : PeerAnswer) → fetch_of given ≡ fetches.Failed → ◌≡◌ {A = Result PeerAnswer AllocError} (Ok given) (Ok answers.Failed)
fetch_cause (answers.Got bytes) e = absurd (cc)
fetch_cause answers.Nothing e = absurd (cc)
fetch_cause answers.Failed e = refl

-- a peer's failure is loaded as one
pub load_told : (owner : List ℕ) (given : PeerAnswer) (result : Result LoadAnswer AllocError) → LoadsAs owner given (result_ok result) → ◌≡◌ {A = Result PeerAnswer AllocError} (Ok given) (Ok answers.Failed) → result ≡ Ok loads.Failed
load_told owner (answers.Got bytes) result h is = absurd (cc)
load_told owner answers.Nothing result h is = absurd (cc)
load_told owner answers.Failed (Ok answer) h is = cc
load_told owner answers.Failed (Err e) h is = absurd (cc)

-- a peer's failure is fetched as one
pub fetch_told : (given : PeerAnswer) → ◌≡◌ {A = Result PeerAnswer AllocError} (Ok given) (Ok answers.Failed) → fetch_of given ≡ fetches.Failed
fetch_told (answers.Got bytes) e = absurd (cc)
fetch_told answers.Nothing e = absurd (cc)
fetch_told answers.Failed e = refl
