use Rattle.std.proofs.Common.{◌∙◌, ap}
use Rattle.up_policy.specs.Members.{text_of}
use Rattle.up_share.proofs.LoopLemmas.{members_step, with_plain}
use Rattle.up_share.proofs.search.add_members.Goals as goal

pub loop-i-preserved : goal.loop-i-preserved
loop-i-preserved g c =
    members_step (text_of (g.F.Facts.tree c.args.facts.now) c.args.loaded.now) c.loop-i.readers.entries c.add_plain.new.readers.entries _ c.args.met.now c.loop-i.i c.in-Some.group.now c.in-Some.ensures
    (c.in_ok-add_plain.ensures ∙ ap (with_plain c.loop-i.readers.entries) c.items_in.ensures) c.loop-i.invariant
