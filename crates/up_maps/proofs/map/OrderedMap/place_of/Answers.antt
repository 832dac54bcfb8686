use Rattle.up_maps.proofs.PlaceLemmas.{find_split, split_at}
use Rattle.up_maps.proofs.map.OrderedMap.place_of.Goals as goal

pub returns-clause-place : goal.returns-clause-place
returns-clause-place g c =
    rw (← c.self.view_is) (split_at g.K.Ord.cmp g.met.K.Ord.total c.args.key.now c.self.inside.entries.items c.find.result c.self.invariant c.find.ensures.bound c.find.ensures.before c.find.ensures.here)

pub returns-clause-found : goal.returns-clause-found
returns-clause-found g c =
    rw (← c.self.view_is) (find_split g.K.Ord.cmp g.met.K.Ord.total c.args.key.now c.self.inside.entries.items c.find.result c.self.invariant
    (split_at g.K.Ord.cmp g.met.K.Ord.total c.args.key.now c.self.inside.entries.items c.find.result c.self.invariant c.find.ensures.bound c.find.ensures.before c.find.ensures.here))
