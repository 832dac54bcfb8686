use Rattle.std.proofs.Common.{◌∙◌, ap, arith, ◌++◌, ◌+◌, length, ◌<◌}
use Rattle.std.specs.Map.{keys_of}
use Rattle.up_policy.specs.Members.{groups_in, text_of}
use Rattle.up_policy.specs.Reached.{groups_named, nameable, with_paths}
use Rattle.up_policy.proofs.NeedLemmas.{added_same, on_err, part_of_needed, all_of_needed}
use Rattle.up_policy.proofs.SearchLemmas.{looked_start, looked_more, looked_within, added_start, added_more, added_met}
use Rattle.up_policy.proofs.VerdictLemmas.{lists_texts}
use Rattle.up_policy.proofs.needed_groups.add_needed.Goals as goal

pub loop-group-init : goal.loop-group-init
loop-group-init g c = record {
  looked = looked_start _ (groups_named c.args.rules.now) _ (c.in_ok-add_named.ensures ∙ ap (λ met. with_paths met (groups_named c.args.rules.now)) c.new-met.ensures);
  added = added_start _ _ _;
}

pub returns-in_err-add_wanted-clause-part : goal.returns-in_err-add_wanted-clause-part
returns-in_err-add_wanted-clause-part g c =
    on_err _ _ (part_of_needed (g.F.Facts.tree c.args.facts.now) (g.F.Facts.group_paths c.args.facts.now) c.args.loaded.now c.args.rules.now (g.met.F.Facts.groups_listed c.args.facts.now)
    c.args.out.now c.loop-group.next c.loop-group.next c.loop-group.met c.add_wanted.new.out c.loop-group.invariant.looked
    (added_same _ _ _ _ _ _ c.loop-group.invariant.added c.in_err-add_wanted.ensures.unchanged))

pub returns-in_err-add_groups-clause-part : goal.returns-in_err-add_groups-clause-part
returns-in_err-add_groups-clause-part g c =
    on_err _ _ (part_of_needed (g.F.Facts.tree c.args.facts.now) (g.F.Facts.group_paths c.args.facts.now) c.args.loaded.now c.args.rules.now (g.met.F.Facts.groups_listed c.args.facts.now)
    c.args.out.now c.loop-group.next (c.loop-group.next + 1) c.loop-group.met c.add_wanted.new.out c.loop-group.invariant.looked
    (added_more _ _ c.loop-group.next c.loop-group.met c.loop-group.out _ c.in-Some.group.now c.loop-group.invariant.added c.in-Some.ensures.group c.in_ok-add_wanted.ensures.added))

pub loop-group-smaller : goal.loop-group-smaller
loop-group-smaller g c =
    let within : c.loop-group.next < length (nameable (text_of (g.F.Facts.tree c.args.facts.now) c.args.loaded.now) (g.F.Facts.group_paths c.args.facts.now ++ keys_of c.args.loaded.now) (groups_named c.args.rules.now)) =
    looked_within _ _ (g.F.Facts.group_paths c.args.facts.now ++ keys_of c.args.loaded.now)
    (lists_texts (g.F.Facts.tree c.args.facts.now) (g.F.Facts.group_paths c.args.facts.now) c.args.loaded.now (g.met.F.Facts.groups_listed c.args.facts.now))
    c.loop-group.next c.loop-group.met c.in-Some.group.now c.loop-group.invariant.looked c.in-Some.ensures.group in
    omega arith

pub loop-group-preserved : goal.loop-group-preserved
loop-group-preserved g c = record {
  looked = looked_more _ _ c.loop-group.next c.loop-group.met _ c.in-Some.group.now c.items_in-items.result.now
      c.loop-group.invariant.looked c.in-Some.ensures.group c.items_in-items.ensures c.in_ok-add_groups.ensures;
  added = added_met _ _ c.loop-group.next c.loop-group.met _ _ c.in-Some.group.now (groups_in c.items_in-items.result.now)
      (added_more _ _ c.loop-group.next c.loop-group.met c.loop-group.out _ c.in-Some.group.now c.loop-group.invariant.added c.in-Some.ensures.group c.in_ok-add_wanted.ensures.added)
      c.in-Some.ensures.group c.in_ok-add_groups.ensures;
}

pub returns-clause-added : goal.returns-clause-added
returns-clause-added g c =
    all_of_needed (g.F.Facts.tree c.args.facts.now) (g.F.Facts.group_paths c.args.facts.now) c.args.loaded.now c.args.rules.now (g.met.F.Facts.groups_listed c.args.facts.now)
    c.args.out.now c.loop-group.next c.loop-group.met c.loop-group.out c.loop-group.invariant.looked c.loop-group.invariant.added c.in_default.ensures.group
