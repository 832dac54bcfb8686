use Rattle.up_cache.proofs.Steadiness.{new_steady}
use Rattle.up_cache.proofs.cached.Cached.new.Goals as goal

pub returns-in-Ok-clause-steady : goal.returns-in-Ok-clause-steady
returns-in-Ok-clause-steady g c = λ rows steady. new_steady g.A.Ask.answers rows c.args.ask steady c.args.capacity c.in-Ok.cache c.in-Ok.ensures
