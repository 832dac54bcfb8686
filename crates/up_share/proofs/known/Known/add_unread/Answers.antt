use Rattle.std.specs.Map.{keys_of}
use Rattle.up_share.proofs.KnownLemmas.{lines_step}
use Rattle.up_share.proofs.known.Known.add_unread.Goals as goal

pub loop-i-preserved : goal.loop-i-preserved
loop-i-preserved c = lines_step c.loop-i.text.items c.add_unread_line.new.text.items _ (keys_of c.args.self.now.unread.entries) c.loop-i.i c.in-Some.group.now c.in-Some.ensures c.in_ok-add_unread_line.ensures c.loop-i.invariant
