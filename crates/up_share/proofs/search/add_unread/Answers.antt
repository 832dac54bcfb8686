use Rattle.up_share.specs.Readers.{lacks_text}
use Rattle.up_share.proofs.LoopLemmas.{those_step}
use Rattle.up_share.proofs.search.add_unread.Goals as goal

pub loop-i-preserved : goal.loop-i-preserved
loop-i-preserved g c =
    those_step (lacks_text (g.F.Facts.tree c.args.facts.now) c.args.loaded.now) c.loop-i.unread.entries c.add_lacking.new.unread.entries _ c.args.met.now c.loop-i.i c.in-Some.group.now c.in-Some.ensures
    c.in_ok-add_lacking.ensures c.loop-i.invariant
