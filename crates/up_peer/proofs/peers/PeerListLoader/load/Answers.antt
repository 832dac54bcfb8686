use Rattle.std.proofs.Common.{◌≡◌, Result, Ok}
use Rattle.std.specs.declared.alloc.AllocError.{AllocError}
use Rattle.up_peer.specs.declared.answers.PeerAnswer.{PeerAnswer}
use Rattle.up_peer.specs.declared.answers.PeerAnswer.TheVariants as answers
use Rattle.up_policy.specs.declared.load_answer.LoadAnswer.TheVariants as loads
use Rattle.up_peer.proofs.Counts.{no_answer}
use Rattle.up_peer.proofs.Sums.{asked_counts, asked_quiet, load_cause, load_told}
use Rattle.up_peer.proofs.peers.PeerListLoader.load.Goals as goal

pub returns-in_err-answer-clause-counts : goal.returns-in_err-answer-clause-counts
returns-in_err-answer-clause-counts g c =
    asked_counts g.P.Peer.asked g.P.Peer.fault_count _ c.args.self.now c.ask_group.new.self _ c.ask_group.result _ c.ask_group.ensures
    (λ is. absurd (no_answer c.from_residual.result loads.Failed c.from_residual.ensures.0 is))

pub returns-clause-counts : goal.returns-clause-counts
returns-clause-counts g c =
    asked_counts g.P.Peer.asked g.P.Peer.fault_count _ c.args.self.now c.ask_group.new.self _ (Ok c.in_ok-answer.answer) _ c.in_ok-answer.ensures
    (load_cause c.owner.result.now c.in_ok-answer.answer c.loaded.result c.loaded.ensures)

pub returns-in_err-answer-clause-quiet : goal.returns-in_err-answer-clause-quiet
returns-in_err-answer-clause-quiet g c =
    asked_quiet g.P.Peer.asked g.P.Peer.fault_count _ c.args.self.now c.ask_group.new.self _ c.ask_group.result _ c.ask_group.ensures (λ is. absurd (no_answer_was is))
  where
    no_answer_was : ◌≡◌ {A = Result PeerAnswer AllocError} c.ask_group.result (Ok answers.Failed) → ⊥
    no_answer_was is = let was = c.in_err-answer.was in cc

pub returns-clause-quiet : goal.returns-clause-quiet
returns-clause-quiet g c =
    asked_quiet g.P.Peer.asked g.P.Peer.fault_count _ c.args.self.now c.ask_group.new.self _ (Ok c.in_ok-answer.answer) _ c.in_ok-answer.ensures
    (load_told c.owner.result.now c.in_ok-answer.answer c.loaded.result c.loaded.ensures)
