use Rattle.up_script.specs.Standing.{parties}
use Rattle.up_script.proofs.TieLemmas.{ends_at_first}
use Rattle.up_script.proofs.laws.script_ends_at_the_first.Goals as goal

pub returns : goal.returns
returns g c = ends_at_first (parties g.D.Disk g.P.Loader g.V.Verifier g.C.Clock g.N.Nonces)
