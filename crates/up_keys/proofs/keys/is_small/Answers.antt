use Rattle.up_keys.proofs.Spelled.{is_small, is_spelled}
use Rattle.up_keys.proofs.keys.is_small.Goals as goal

pub returns-clause-spelled : goal.returns-clause-spelled
returns-clause-spelled c = is_spelled c.args.card.now c.requires

pub returns-clause-size : goal.returns-clause-size
returns-clause-size c = is_small c.args.card.now c.text-user.ensures.canonical c.requires
