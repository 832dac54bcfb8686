use Rattle.std.proofs.Common.{ap, sym, ◌∙◌}
use Rattle.up_laws.specs.Turns.{any_failed, turn_of}
use Rattle.up_laws.proofs.TurnLemmas.{refused_fetches, tree_fetches}
use Rattle.up_laws.proofs.turns.failed_on.Goals as goal

pub returns-in-Refused : goal.returns-in-Refused
returns-in-Refused c = refused_fetches (turn_of c.args.turn.now) c.in-Refused.field-0 (sym c.in-Refused.is ∙ c.requires)

pub returns-in-Tree : goal.returns-in-Tree
returns-in-Tree c =
    c.any_failed.ensures
    ∙ (ap (λ fetched. any_failed fetched c.as_slice-in-Tree.result.now) c.as_slice.ensures
    ∙ (ap (λ locations. any_failed c.args.turn.now.fetched locations) c.as_slice-in-Tree.ensures
    ∙ tree_fetches (turn_of c.args.turn.now) c.in-Tree.field-0 c.in-Tree.locations (sym c.in-Tree.is ∙ c.requires)))
