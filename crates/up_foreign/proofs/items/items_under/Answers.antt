use Rattle.std.proofs.Common.{refl}
use Rattle.up_foreign.specs.declared.items.Wanted.TheVariants.{Under}
use Rattle.up_foreign.proofs.StartLemmas.{under_starts}
use Rattle.up_foreign.proofs.items.items_under.Goals as goal

pub items_from-requires-clause-start : goal.items_from-requires-clause-start
items_from-requires-clause-start c = under_starts c.args.path.now (Under c.args.path) (λ name. refl)
