use Rattle.std.proofs.Common.{◌≡◌, ◌≢◌, subst}
use Rattle.std.specs.Prelude.{IfOk}
use Rattle.up_host.specs.Loads.{load_of}
use Rattle.up_lists.proofs.Causes.{StaysUnless-same}
use Rattle.up_sessions.proofs.QuietLemmas.{host_counts}
use Rattle.up_wire.specs.declared.replies.Reply.TheVariants as reply
use Rattle.up_sessions.proofs.behind.BehindLoader.load.Goals as goal

pub returns-in-Some-clause-counts : goal.returns-in-Some-clause-counts
returns-in-Some-clause-counts g c =
    host_counts (g.P.Loader.faults c.args.self.now.peers.now) c.in-Some.host.now.trees c.args.asker.now c.args.name.now c.group_text.result c.load_of.result c.group_text.ensures
    (subst (λ owner. IfOk c.load_of.result (λ answer. (c.group_text.result ≢ reply.OutOfMemory) × (answer ≡ load_of owner c.group_text.result))) c.owner-in-Some.ensures c.load_of.ensures)

pub returns-in-Some-clause-quiet : goal.returns-in-Some-clause-quiet
returns-in-Some-clause-quiet g c = StaysUnless-same (g.P.Loader.faults c.args.self.now.peers.now) _
