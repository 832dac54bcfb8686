use Rattle.up_feed.proofs.FrontLemmas.{never_fall}
use Rattle.up_feed.proofs.laws.feeds_never_fall.Goals as goal

pub returns : goal.returns
returns g c = never_fall g.V.Verifier g.N.Nonces
