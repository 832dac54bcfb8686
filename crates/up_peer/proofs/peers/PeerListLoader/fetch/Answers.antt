use Rattle.std.proofs.Common.{◌≡◌, Result, Ok, ap, sym, ◌∙◌}
use Rattle.std.specs.declared.alloc.AllocError.{AllocError}
use Rattle.up_entry.specs.declared.fetch.Fetch.{Fetch}
use Rattle.up_entry.specs.declared.fetch.Fetch.TheVariants as fetches
use Rattle.up_peer.specs.declared.answers.PeerAnswer.{PeerAnswer}
use Rattle.up_peer.specs.declared.answers.PeerAnswer.TheVariants as answers
use Rattle.up_peer.proofs.Counts.{no_answer}
use Rattle.up_peer.proofs.Sums.{asked_counts, asked_quiet, fetch_cause, fetch_told}
use Rattle.up_peer.proofs.peers.PeerListLoader.fetch.Goals as goal

pub returns-in_err-ask_block-clause-counts : goal.returns-in_err-ask_block-clause-counts
returns-in_err-ask_block-clause-counts g c =
    asked_counts g.P.Peer.asked g.P.Peer.fault_count _ c.args.self.now c.ask_block.new.self _ c.ask_block.result _ c.ask_block.ensures
    (λ is. absurd (no_answer c.from_residual.result fetches.Failed c.from_residual.ensures.0 is))

pub returns-clause-counts : goal.returns-clause-counts
returns-clause-counts g c =
    asked_counts g.P.Peer.asked g.P.Peer.fault_count _ c.args.self.now c.ask_block.new.self _ (Ok c.in_ok-ask_block.field-0) _ c.in_ok-ask_block.ensures
    (λ is. fetch_cause c.in_ok-ask_block.field-0 (sym c.fetched.ensures ∙ same is))
  where
    same : ◌≡◌ {A = Result Fetch AllocError} (Ok c.fetched.result) (Ok fetches.Failed) → c.fetched.result ≡ fetches.Failed
    same is = cc

pub returns-in_err-ask_block-clause-quiet : goal.returns-in_err-ask_block-clause-quiet
returns-in_err-ask_block-clause-quiet g c =
    asked_quiet g.P.Peer.asked g.P.Peer.fault_count _ c.args.self.now c.ask_block.new.self _ c.ask_block.result _ c.ask_block.ensures (λ is. absurd (no_answer_was is))
  where
    no_answer_was : ◌≡◌ {A = Result PeerAnswer AllocError} c.ask_block.result (Ok answers.Failed) → ⊥
    no_answer_was is = let was = c.in_err-ask_block.was in cc

pub returns-clause-quiet : goal.returns-clause-quiet
returns-clause-quiet g c =
    asked_quiet g.P.Peer.asked g.P.Peer.fault_count _ c.args.self.now c.ask_block.new.self _ (Ok c.in_ok-ask_block.field-0) _ c.in_ok-ask_block.ensures
    (λ is. ap Ok (c.fetched.ensures ∙ fetch_told c.in_ok-ask_block.field-0 is))
