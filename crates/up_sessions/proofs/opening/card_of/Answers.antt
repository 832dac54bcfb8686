use Rattle.up_sessions.proofs.OpeningLemmas.{card_bounds}
use Rattle.up_sessions.proofs.opening.card_of.Goals as goal

pub returns-clause-bounds : goal.returns-clause-bounds
returns-clause-bounds c = card_bounds c.args.user _ _ c.args.key c.new.ensures c.new-2.ensures c.requires.some c.requires.most
