use Rattle.std.proofs.Common.{◌∙◌, ap, arith, ◌++◌, length, ◌<◌}
use Rattle.std.specs.Map.{keys_of}
use Rattle.up_policy.specs.Members.{groups_in, text_of}
use Rattle.up_policy.specs.Reached.{nameable, with_paths}
use Rattle.up_policy.specs.Verdicts.{items_for}
use Rattle.up_policy.proofs.SearchLemmas.{looked_start}
use Rattle.up_rights.specs.declared.Right.TheVariants.{Read}
use Rattle.up_share.proofs.MeetLemmas.{looked_next, met_are, next_within}
use Rattle.up_share.proofs.search.meet.Goals as goal

pub loop-next-init : goal.loop-next-init
loop-next-init g c =
    looked_start _ (groups_in (items_for Read c.args.rules.now)) _ (c.in_ok-meet_granted.ensures ∙ ap (λ met. with_paths met (groups_in (items_for Read c.args.rules.now))) c.new-met.ensures)

pub loop-next-smaller : goal.loop-next-smaller
loop-next-smaller g c =
    let within : c.loop-next.next < length (nameable (text_of (g.F.Facts.tree c.args.facts.now) c.args.loaded.now) (g.F.Facts.group_paths c.args.facts.now ++ keys_of c.args.loaded.now) (groups_in (items_for Read c.args.rules.now))) =
    next_within (g.F.Facts.tree c.args.facts.now) (g.F.Facts.group_paths c.args.facts.now) c.args.loaded.now c.args.rules.now (g.met.F.Facts.groups_listed c.args.facts.now)
    c.loop-next.next c.loop-next.met c.loop-next.invariant (omega (arith, c.loop-next-test.true, c.len.ensures.len)) in
    omega arith

pub loop-next-preserved : goal.loop-next-preserved
loop-next-preserved g c =
    looked_next _ _ c.loop-next.next c.loop-next.met _ c.loop-next.invariant c.in_ok-meet_named.ensures

pub returns : goal.returns
returns g c =
    met_are (g.F.Facts.tree c.args.facts.now) (g.F.Facts.group_paths c.args.facts.now) c.args.loaded.now c.args.rules.now (g.met.F.Facts.groups_listed c.args.facts.now)
    c.loop-next.next c.loop-next.met c.loop-next.invariant (omega (arith, c.loop-next-test.false, c.len.ensures.len))
