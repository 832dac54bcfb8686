-- The loop over the texts of a batch.
use Rattle.std.proofs.Common.{◌≡◌, List, ℕ, [], length, refl, subst}
use Rattle.up_lists.proofs.Causes.{HasCause-same, HasCause-then, HasCause-weaker, StaysUnless-more, StaysUnless-same, StaysUnless-then}
use Rattle.up_follow.specs.Taking.{TakesText}
use Rattle.up_follow.proofs.TakingLemmas.{Taking, counted_not_io, done_not_io, grows_same, grows_then, io_of, io_to, not_failed, takes_all, takes_given, takes_stopped, taking_more, taking_none}
use Rattle.up_follow.proofs.taking.add_all.Goals as goal

pub loop-text-init : goal.loop-text-init
loop-text-init g c = record {
  taking = taking_none g.D.Disk g.met.D.Disk.only_now c.args.tree.now c.args.batch.now c.recall.ensures.safe;
  cause = HasCause-same (g.D.Disk.faults c.args.tree.now.disk) ⊥ (λ none. absurd none);
  quiet = StaysUnless-same (g.D.Disk.faults c.args.tree.now.disk) ⊥;
  grows = grows_same g.D.Disk c.args.tree.now;
}

pub loop-text-preserved : goal.loop-text-preserved
loop-text-preserved g c =
    let old = c.args.tree.now in
    let mid = c.loop-text.tree in
    let new = c.add_next.new.tree in
    let i = c.loop-text.invariant in
    record {
      taking = taking_more g.D.Disk c.args.batch.now c.loop-text.left.now c.in-Some.rest.now c.in-Some.text.now old mid new c.in-Some.ensures.some i.taking
          (subst (λ r. TakesText g.D.Disk c.in-Some.text.now mid new r) c.in-Ok.is c.add_next.ensures.takes);
      cause = HasCause-then (g.D.Disk.faults old.disk) (g.D.Disk.faults mid.disk) (g.D.Disk.faults new.disk) ⊥ ⊥ i.cause
          (HasCause-weaker (g.D.Disk.faults mid.disk) (g.D.Disk.faults new.disk) _ ⊥ c.add_next.ensures.cause (λ none. absurd none));
      quiet = StaysUnless-then (g.D.Disk.faults old.disk) (g.D.Disk.faults mid.disk) (g.D.Disk.faults new.disk) ⊥ _ ⊥ i.quiet (λ none. none) c.add_next.ensures.quiet (done_not_io c.add_next.result c.in-Ok.is);
      grows = grows_then g.D.Disk old mid new i.grows c.add_next.ensures.grows;
    }

pub returns-in-Err-clause-takes : goal.returns-in-Err-clause-takes
returns-in-Err-clause-takes g c =
    takes_stopped g.D.Disk c.args.batch.now c.loop-text.left.now c.in-Some.rest.now c.in-Some.text.now c.args.tree.now c.loop-text.tree c.add_next.new.tree c.in-Err.why c.in-Some.ensures.some c.loop-text.invariant.taking
    (subst (λ r. TakesText g.D.Disk c.in-Some.text.now c.loop-text.tree c.add_next.new.tree r) c.in-Err.is c.add_next.ensures.takes)

pub returns-in-Err-clause-given : goal.returns-in-Err-clause-given
returns-in-Err-clause-given g c is =
    takes_given g.D.Disk c.in-Some.text.now c.loop-text.tree c.add_next.new.tree c.in-Err.why
    (subst (λ r. TakesText g.D.Disk c.in-Some.text.now c.loop-text.tree c.add_next.new.tree r) c.in-Err.is c.add_next.ensures.takes) (not_failed c.in-Err.why is)

pub returns-in-Err-clause-cause : goal.returns-in-Err-clause-cause
returns-in-Err-clause-cause g c =
    HasCause-then (g.D.Disk.faults c.args.tree.now.disk) (g.D.Disk.faults c.loop-text.tree.disk) (g.D.Disk.faults c.add_next.new.tree.disk) ⊥ _ c.loop-text.invariant.cause
    (HasCause-weaker (g.D.Disk.faults c.loop-text.tree.disk) (g.D.Disk.faults c.add_next.new.tree.disk) _ _ c.add_next.ensures.cause (io_of c.in-Err.why c.add_next.result c.in-Err.is))

pub returns-in-Err-clause-quiet : goal.returns-in-Err-clause-quiet
returns-in-Err-clause-quiet g c =
    StaysUnless-then (g.D.Disk.faults c.args.tree.now.disk) (g.D.Disk.faults c.loop-text.tree.disk) (g.D.Disk.faults c.add_next.new.tree.disk) ⊥ _ _ c.loop-text.invariant.quiet (λ none. absurd none) c.add_next.ensures.quiet
    (io_to c.in-Err.why c.add_next.result c.in-Err.is)

pub returns-in-Err-clause-grows : goal.returns-in-Err-clause-grows
returns-in-Err-clause-grows g c = grows_then g.D.Disk c.args.tree.now c.loop-text.tree c.add_next.new.tree c.loop-text.invariant.grows c.add_next.ensures.grows

pub returns-clause-takes : goal.returns-clause-takes
returns-clause-takes g c =
    takes_all g.D.Disk c.args.batch.now c.args.tree.now c.loop-text.tree (length c.args.batch.now) refl
    (subst (λ (xs : List (List ℕ)). Taking g.D.Disk c.args.batch.now xs c.args.tree.now c.loop-text.tree) c.in_default.ensures.none c.loop-text.invariant.taking)

pub returns-clause-cause : goal.returns-clause-cause
returns-clause-cause g c =
    HasCause-weaker (g.D.Disk.faults c.args.tree.now.disk) (g.D.Disk.faults c.loop-text.tree.disk) ⊥ _ c.loop-text.invariant.cause (counted_not_io _)

pub returns-clause-quiet : goal.returns-clause-quiet
returns-clause-quiet g c = StaysUnless-more (g.D.Disk.faults c.args.tree.now.disk) (g.D.Disk.faults c.loop-text.tree.disk) ⊥ _ c.loop-text.invariant.quiet (λ none. absurd none)

pub returns-clause-grows : goal.returns-clause-grows
returns-clause-grows g c = c.loop-text.invariant.grows
