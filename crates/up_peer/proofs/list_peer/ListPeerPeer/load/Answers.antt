use Rattle.up_peer.specs.declared.answers.PeerAnswer.TheVariants as answers
use Rattle.up_peer.proofs.Counts.{counts_stay}
use Rattle.up_peer.proofs.list_peer.ListPeerPeer.load.Goals as goal

pub returns-in_err-clone-clause-counts : goal.returns-in_err-clone-clause-counts
returns-in_err-clone-clause-counts c = counts_stay c.args.self.now.faults c.from_residual.result answers.Failed c.from_residual.ensures.0
