use Rattle.std.proofs.Common.{◌∙◌, ap, arith, ◌++◌, length, ◌<◌}
use Rattle.std.specs.Map.{keys_of}
use Rattle.up_policy.specs.Members.{groups_in, text_of}
use Rattle.up_policy.specs.Reached.{nameable, with_paths}
use Rattle.up_policy.specs.Verdicts.{items_for}
use Rattle.up_policy.proofs.SearchLemmas.{looked_start, without_start, looked_more, without_more, looked_within, found_user, found_none}
use Rattle.up_policy.proofs.VerdictLemmas.{lists_texts}
use Rattle.up_policy.proofs.verdicts.reaches_user.Goals as goal

pub loop-group-init : goal.loop-group-init
loop-group-init g c =
    let starts = groups_in (items_for c.args.right c.args.rules.now) in
    record {
      looked = looked_start _ starts _ (c.in_ok-add_granted.ensures ∙ ap (λ met. with_paths met starts) c.new-met.ensures);
      without = without_start _ _ _;
    }

pub returns-then-branch : goal.returns-then-branch
returns-then-branch g c =
    found_user (text_of (g.F.Facts.tree c.args.facts.now) c.args.loaded.now) (groups_in (items_for c.args.right c.args.rules.now)) (g.F.Facts.group_paths c.args.facts.now ++ keys_of c.args.loaded.now)
    (lists_texts (g.F.Facts.tree c.args.facts.now) (g.F.Facts.group_paths c.args.facts.now) c.args.loaded.now (g.met.F.Facts.groups_listed c.args.facts.now))
    c.args.user.now c.loop-group.next c.loop-group.met c.in-Some.group.now c.items_in-items.result.now _
    c.loop-group.invariant.looked c.in-Some.ensures.group c.items_in-items.ensures c.in_ok-look.ensures.found c.if-branch.true

pub loop-group-smaller : goal.loop-group-smaller
loop-group-smaller g c =
    let within : c.loop-group.next < length (nameable (text_of (g.F.Facts.tree c.args.facts.now) c.args.loaded.now) (g.F.Facts.group_paths c.args.facts.now ++ keys_of c.args.loaded.now) (groups_in (items_for c.args.right c.args.rules.now))) =
    looked_within _ _ (g.F.Facts.group_paths c.args.facts.now ++ keys_of c.args.loaded.now)
    (lists_texts (g.F.Facts.tree c.args.facts.now) (g.F.Facts.group_paths c.args.facts.now) c.args.loaded.now (g.met.F.Facts.groups_listed c.args.facts.now))
    c.loop-group.next c.loop-group.met c.in-Some.group.now c.loop-group.invariant.looked c.in-Some.ensures.group in
    omega arith

pub loop-group-preserved : goal.loop-group-preserved
loop-group-preserved g c = record {
  looked = looked_more _ _ c.loop-group.next c.loop-group.met _ c.in-Some.group.now c.items_in-items.result.now
      c.loop-group.invariant.looked c.in-Some.ensures.group c.items_in-items.ensures (c.in_ok-look.ensures.added c.if-branch.false);
  without = without_more _ _ c.loop-group.next c.loop-group.met _ c.in-Some.group.now c.items_in-items.result.now _
      c.loop-group.invariant.without c.in-Some.ensures.group c.items_in-items.ensures (c.in_ok-look.ensures.added c.if-branch.false) c.in_ok-look.ensures.found c.if-branch.false;
}

pub returns : goal.returns
returns g c =
    found_none (text_of (g.F.Facts.tree c.args.facts.now) c.args.loaded.now) (groups_in (items_for c.args.right c.args.rules.now)) (g.F.Facts.group_paths c.args.facts.now ++ keys_of c.args.loaded.now)
    (lists_texts (g.F.Facts.tree c.args.facts.now) (g.F.Facts.group_paths c.args.facts.now) c.args.loaded.now (g.met.F.Facts.groups_listed c.args.facts.now))
    c.args.user.now c.loop-group.next c.loop-group.met c.loop-group.invariant.looked c.loop-group.invariant.without c.in_default.ensures.group
