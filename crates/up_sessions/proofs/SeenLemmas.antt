-- A loader that is seen through another state gives what that gives.
use Rattle.std.proofs.Common.{◌≡◌, Bool, List, [], ◌∷◌, sym, ap, subst}
use Rattle.std.specs.List.{flat_map}
use Rattle.up_answers.specs.Fetching.{is_failed}
use Rattle.up_lists.specs.Counts.{HasCause, StaysUnless}
use Rattle.up_host.specs.Asks.{Asks, Tries}
use Rattle.up_host.specs.Blocks.{block_answer, block_question}
use Rattle.up_host.specs.Calls.{Asked, IsAskedFor, IsTried}
use Rattle.up_host.specs.Loads.{group_answer, group_question, load_failed}
use Rattle.up_host.specs.Routes.{Question}
use Rattle.up_host.specs.Views.{Views}
use Rattle.up_calls.specs.declared.event.Event.{Event}
use Rattle.up_lists.specs.Runs.{Run}
use Rattle.up_names.specs.Texts.{UserName}
use Rattle.up_peer.specs.declared.loader.Loader.{Ghosts}

-- each step of the one is a step of the other, while the state is such
abbrev pub EachSeen : {L P Q A : Type 0} → (L → P) → (L → Type 0) → (L → Q → A → L → Type 0) → (P → Q → A → P → Type 0) → Type 0
EachSeen {L} {P} {Q} {A} see such step other = (a b : L) (q : Q) (x : A) → such a → step a q x b → other (see a) q x (see b) × such b

-- the one loader is seen as the other
pub record IsSeenAs {L P : Type 0} (see : L → P) (such : L → Type 0) (far : Ghosts L) (near : Ghosts P) : Type 0 where
  pub loads : EachSeen see such far.loads near.loads
  pub fetches : EachSeen see such far.fetches near.fetches
  pub faults : (a : L) → far.faults a ≡ near.faults (see a)
  pub tied : (a b : L) → far.tied a b → near.tied (see a) (see b)

module _ {L P : Type 0} (see : L → P) (such : L → Type 0) where
  run_seen : {Q A : Type 0} (step : L → Q → A → L → Type 0) (other : P → Q → A → P → Type 0) → EachSeen see such step other
      → (a b : L) (qs : List Q) (xs : List A) → such a → Run step a qs xs b → Run other (see a) qs xs (see b) × such b
  run_seen step other each a b [] [] is run = (ap see run, subst such (sym run) is)
  run_seen step other each a b (q ∷ qs) (x ∷ xs) is run =
      let one = each a run.0 q x is run.1.0 in
      let rest = run_seen step other each run.0 b qs xs one.1 run.1.1 in ((see run.0, (one.0, rest.0)), rest.1)
  run_seen step other each a b [] (x ∷ xs) is run = absurd run
  run_seen step other each a b (q ∷ qs) [] is run = absurd run

module _ {L P : Type 0} (see : L → P) (such : L → Type 0) (far : Ghosts L) (near : Ghosts P) (seen : IsSeenAs see such far near) where
  counts_seen : {F : Type 0} (old new : L) → HasCause (far.faults old) (far.faults new) F → HasCause (near.faults (see old)) (near.faults (see new)) F
  counts_seen {F} old new counts =
      subst (λ n. HasCause n (near.faults (see new)) F) (seen.faults old) (subst (λ n. HasCause (far.faults old) n F) (seen.faults new) counts)

  quiet_seen : {F : Type 0} (old new : L) → StaysUnless (far.faults old) (far.faults new) F → StaysUnless (near.faults (see old)) (near.faults (see new)) F
  quiet_seen {F} old new quiet =
      subst (λ n. StaysUnless n (near.faults (see new)) F) (seen.faults old) (subst (λ n. StaysUnless (far.faults old) n F) (seen.faults new) quiet)

  asks_seen : {Q A X : Type 0} (step : L → Q → A → L → Type 0) (other : P → Q → A → P → Type 0) → EachSeen see such step other
      → (failed : A → Bool) (question : X → List Q) (answer : X → List A) (old new : L) (things : List X) → such old
      → Asks step far.faults far.tied failed question answer old new things → Asks other near.faults near.tied failed question answer (see old) (see new) things × such new
  asks_seen step other each failed question answer old new things is asks =
      let run = run_seen see such step other each old new (flat_map question things) (flat_map answer things) is asks.asked in
      (record { asked = run.0; counts = counts_seen old new asks.counts; quiet = quiet_seen old new asks.quiet; tie = seen.tied old new asks.tie }, run.1)

  tries_seen : {Q A : Type 0} (step : L → Q → A → L → Type 0) (other : P → Q → A → P → Type 0) → EachSeen see such step other
      → (old new : L) → such old → Tries step far.faults far.tied old new → Tries other near.faults near.tied (see old) (see new) × such new
  tries_seen step other each old new is tries =
      let run = run_seen see such step other each old new tries.questions tries.answers is tries.asked in
      (record { questions = tries.questions; answers = tries.answers; asked = run.0; counts = counts_seen old new tries.counts; tie = seen.tied old new tries.tie }, run.1)

  all_seen : (operator : UserName) (a : Views) (old new : L) (e : Event) → such old → IsAskedFor far operator a old new e → IsAskedFor near operator a (see old) (see new) e
  all_seen operator a old new e is asked =
      let blocks = asks_seen far.fetches near.fetches seen.fetches is_failed block_question block_answer old asked.between e.fetched is asked.blocks in
      let groups = asks_seen far.loads near.loads seen.loads load_failed (group_question operator a) (group_answer a) asked.between new e.loaded blocks.1 asked.groups in
      record { between = see asked.between; blocks = blocks.0; groups = groups.0 }

  some_seen : (old new : L) → such old → IsTried far old new → IsTried near (see old) (see new) × such new
  some_seen old new is tried =
      let blocks = tries_seen far.fetches near.fetches seen.fetches old tried.between is tried.blocks in
      let groups = tries_seen far.loads near.loads seen.loads tried.between new blocks.1 tried.groups in
      (record { between = see tried.between; blocks = blocks.0; groups = groups.0 }, groups.1)

  -- one call over the one is one over the other
  pub asked_seen : (operator : UserName) (a b : Views) (old new : L) (q : Question) (e : Event) → such old → Asked far operator a old q e b new → Asked near operator a (see old) q e b (see new) × such new
  asked_seen operator a b old new q e is asked =
      let some = some_seen old new is asked.loads.some in (
        record {
          later = asked.later;
          others = asked.others;
          loads = record { all = λ enough. all_seen operator a old new e is (asked.loads.all enough); some = some.0 };
          outcome = asked.outcome;
        },
        some.1,
      )
