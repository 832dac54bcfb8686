use Rattle.up_cache.specs.Steady.{Leads}
use Rattle.up_cache.proofs.Steadiness.{got_plain}
use Rattle.up_cache.proofs.laws.what_is_got_is_plain.Goals as goal

pub returns : goal.returns
returns g c = λ rows path old new result steady held failed wants. got_plain g.A.Ask.answers rows old steady path result old new Leads.here held failed wants
