use Rattle.std.proofs.Common.{◌≡◌, subst}
use Rattle.std.specs.Prelude.{IfOk, option_map}
use Rattle.up_list.specs.Entries.{entry_on_way}
use Rattle.up_list.specs.Founds.{entry_found}
use Rattle.up_list.specs.Looks.{Look}
use Rattle.up_list.specs.Rooted.{IsRooted}
use Rattle.up_snap.proofs.PlacedLemmas.{shown_rooted}
use Rattle.up_snap.proofs.look.SnapLookOnlooker.item_on_way.Goals as goal

pub item_on_way-requires : goal.item_on_way-requires
item_on_way-requires c = c.self.invariant.named

pub returns-clause-rooted : goal.returns-clause-rooted
returns-clause-rooted c =
    subst (λ (l : Look). IsRooted l.owner l.tree) c.self.view_is (shown_rooted c.self.inside.tree.now.owner c.self.inside.tree.now.log c.recall.ensures.log)

pub returns-clause-found : goal.returns-clause-found
returns-clause-found c = subst (λ (l : Look). IfOk c.item_on_way.result (λ found. option_map entry_found found ≡ entry_on_way l.tree c.args.path.now)) c.self.view_is c.item_on_way.ensures
