-- The count of failures of a whole host as a peer.
use Rattle.std.proofs.Common.{◌≡◌, ℕ, refl, subst, sym, Result, Ok, Err}
use Rattle.up_lists.proofs.Causes.{HasCause-counted, HasCause-same, StaysUnless-same}
use Rattle.up_lists.specs.Counts.{HasCause, StaysUnless}
use Rattle.up_host.specs.Peers.{failed_after}
use Rattle.up_peer.specs.declared.answers.PeerAnswer.{PeerAnswer}
use Rattle.up_peer.specs.declared.answers.PeerAnswer.TheVariants as peer

count_of : {E : Type 0} (count : ℕ) (result : Result PeerAnswer E) → HasCause count (failed_after count result) (result ≡ Ok peer.Failed)
count_of count (Ok (peer.Got bytes)) = HasCause-same count _ (λ is. absurd (cc))
count_of count (Ok peer.Nothing) = HasCause-same count _ (λ is. absurd (cc))
count_of count (Ok peer.Failed) = HasCause-counted count _
count_of count (Err e) = HasCause-same count _ (λ is. absurd (cc))

-- it rises where the answer is a failure
pub counts_after : {E : Type 0} (count new : ℕ) (result : Result PeerAnswer E) → new ≡ failed_after count result → HasCause count new (result ≡ Ok peer.Failed)
counts_after count new result is = subst (λ n. HasCause count n (result ≡ Ok peer.Failed)) (sym is) (count_of count result)

quiet_of : {E : Type 0} (count : ℕ) (result : Result PeerAnswer E) → StaysUnless count (failed_after count result) (result ≡ Ok peer.Failed)
quiet_of count (Ok (peer.Got bytes)) = StaysUnless-same count _
quiet_of count (Ok peer.Nothing) = StaysUnless-same count _
quiet_of count (Ok peer.Failed) = record { stays = λ none. absurd (none refl) }
quiet_of count (Err e) = StaysUnless-same count _

-- and nowhere else
pub quiet_after : {E : Type 0} (count new : ℕ) (result : Result PeerAnswer E) → new ≡ failed_after count result → StaysUnless count new (result ≡ Ok peer.Failed)
quiet_after count new result is = subst (λ n. StaysUnless count n (result ≡ Ok peer.Failed)) (sym is) (quiet_of count result)
