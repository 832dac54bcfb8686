use Rattle.up_peer.specs.declared.answers.PeerAnswer.TheVariants as answers
use Rattle.up_peer.proofs.Counts.{counts_of, counts_stay}
use Rattle.up_peer.proofs.list_peer.ListPeer.answer.Goals as goal

pub returns-in_err-answer-clause-counts : goal.returns-in_err-answer-clause-counts
returns-in_err-answer-clause-counts c = rw (← c.self.view_is) (counts_stay c.self.inside.faults c.from_residual.result answers.Failed c.from_residual.ensures.0)

pub returns-in_err-push-clause-counts : goal.returns-in_err-push-clause-counts
returns-in_err-push-clause-counts c = rw (← c.self.view_is) (counts_stay c.self.inside.faults c.from_residual-in_err-push.result answers.Failed c.from_residual-in_err-push.ensures.0)

pub returns-clause-counts : goal.returns-clause-counts
returns-clause-counts c = rw (← c.self.view_is) (counts_of c.self.inside.faults c.counted-self-inside.result c.unwrap_or-given.result answers.Failed c.counted-self-inside.ensures.counts)
