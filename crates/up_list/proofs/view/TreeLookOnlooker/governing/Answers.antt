use Rattle.up_list.proofs.ViewLemmas.{governing_seen}
use Rattle.up_list.proofs.view.TreeLookOnlooker.governing.Goals as goal

pub returns-clause-found : goal.returns-clause-found
returns-clause-found c =
    governing_seen (record { owner = c.self.inside.tree.now.owner; records = c.self.inside.tree.now.log }) c.self.inside.loaded.now c.self.inside.user.now c.args.self.now c.args.path.now c.governing_in.result
    c.self.view_is c.position-records.ensures.log c.governing_in.ensures
